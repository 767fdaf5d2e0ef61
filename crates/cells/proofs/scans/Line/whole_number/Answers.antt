use Rattle.cells.proofs.ScanLaws.{begun_on}
use Rattle.cells.proofs.JudgingLaws.{whole_wide, whole-none, whole-good}
use Rattle.cells.proofs.scans.Line.whole_number.Goals as goal

pub returns-then-most-q : goal.returns-then-most-q
returns-then-most-q c =
    whole_wide (begun_on c.args.self c.requires.0) c.digits-w.ensures _ _ c.if-most-q.true c.wrong.ensures

pub returns-then-q-a : goal.returns-then-q-a
returns-then-q-a c =
    let b = c.requires.0 in
    whole-none (begun_on c.args.self b) c.digits-w.ensures _ _ b.inside b.solid c.if-q-a.true c.wrong-then-q-a.ensures

pub returns-else-q-a : goal.returns-else-q-a
returns-else-q-a c =
    whole-good (begun_on c.args.self c.requires.0) c.digits-w.ensures _ _ c.requires.1 c.if-most-q.false c.close.ensures
