use Rattle.text.specs.Reading.{reading_at}
use Rattle.text.proofs.read_decimal.Goals as goal

pub returns : goal.returns
unfolding reading_at
returns c = rw (← c.judge.ensures) c.reading_of.ensures
