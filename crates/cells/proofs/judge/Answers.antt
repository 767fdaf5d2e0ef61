-- src/lib.rt:174:45
-- src/lib.rt:174:9
-- src/lib.rt:170:1
use Rattle.verdicts.proofs.RowLaws.{one_cell}
use Rattle.cells.proofs.judge.Goals as goal

pub returns : goal.returns
returns c = one_cell _ _ _ _ _ _ c.judge_cells-r.ensures
