use Rattle.numbers.proofs.PutLaws.{filled}
use Rattle.numbers.proofs.puts.clear.Goals as goal

pub returns : goal.returns
returns c = filled _ _ _ _ c.requires.0 c.requires.1 (c.fill.ensures.after (λ y e. e))
