use mathlib.Core.Path.{sym, ◌∙◌}
use Rattle.verdicts.specs.Judge.{whole_of}
use Rattle.cells.proofs.ScanLaws.{stop_on, begun_at, judged-blank, judged_solid}
use Rattle.cells.proofs.scans.Line.whole_cell.Goals as goal

pub whole_number-requires : goal.whole_number-requires
whole_number-requires c =
    (begun_at (stop_on c.args.self c.requires.0) c.spaces-a.ensures (sym c.ends.ensures ∙ c.if-ends.false), c.requires.1)

pub returns-then-ends : goal.returns-then-ends
returns-then-ends c =
    judged-blank (stop_on c.args.self c.requires.0) c.spaces-a.ensures (whole_of c.args.most) _ (sym c.ends.ensures ∙ c.if-ends.true) c.blank.ensures

pub returns-else-ends : goal.returns-else-ends
returns-else-ends c =
    judged_solid (stop_on c.args.self c.requires.0) c.spaces-a.ensures (whole_of c.args.most) _ (sym c.ends.ensures ∙ c.if-ends.false) c.whole_number.ensures
