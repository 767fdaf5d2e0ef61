use mathlib.Core.Path.{◌∙◌}
use Rattle.format.proofs.ByPlaceLaws.{start-after}
use Rattle.opened.proofs.line_after.Goals as goal

pub returns : goal.returns
returns c = c.line_start.ensures ∙ start-after _ _
