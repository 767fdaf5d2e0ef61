use Rattle.verdicts.proofs.JudgeLaws.{kind-castno}
use Rattle.cells.proofs.scans.Line.judged.Goals as goal

pub returns-then-kind-eq-CASTNO : goal.returns-then-kind-eq-CASTNO
returns-then-kind-eq-CASTNO c = kind-castno _ _ _ _ _ c.if-kind-eq-CASTNO.true c.whole_cell.ensures c.ranged.ensures
