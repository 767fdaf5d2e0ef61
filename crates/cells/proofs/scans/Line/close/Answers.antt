-- The spaces after the text, and what stands there.
use mathlib.Core.Path.{refl, sym, ◌∙◌}
use Rattle.cells.proofs.ScanLaws.{stop_on, closed-good, closed-wrong}
use Rattle.cells.proofs.scans.Line.close.Goals as goal

pub returns-then-ends : goal.returns-then-ends
returns-then-ends c =
    closed-good (stop_on c.args.self c.requires) c.spaces-r.ensures _ _ (sym c.ends.ensures ∙ c.if-ends.true) refl

pub returns-else-ends : goal.returns-else-ends
returns-else-ends c =
    closed-wrong (stop_on c.args.self c.requires) c.spaces-r.ensures _ _ (sym c.ends.ensures ∙ c.if-ends.false) c.wrong.ensures
