use mathlib.Core.Path.{◌∙◌}
use Rattle.line_one.proofs.FirstLaws.{mark-starts}
use Rattle.line_one.proofs.is_mark.Goals as goal

pub returns : goal.returns
returns c = c.starts_with.ensures.value ∙ mark-starts c.args.line.now
