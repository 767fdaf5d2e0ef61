use Rattle.rows.proofs.KeyLaws.{spans_empty}
use Rattle.rows.proofs.same_cells.Goals as goal

pub returns-then-y-eq0 : goal.returns-then-y-eq0
returns-then-y-eq0 c = spans_empty _ _ _ (c.if-x-eq0.true, c.if-y-eq0.true)
