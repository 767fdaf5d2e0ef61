-- The column's name is the trimmed cell of the names line.
use native.Mathlib.Omega.{arith}
use Rattle.exchange.proofs.LocateLaws.{name-room, name-ctd}
use Rattle.exchange.proofs.finding.is_ctd.Goals as goal

pub overflow_add-p : goal.overflow_add-p
overflow_add-p c = omega (arith, name-room _ _ _ _ c.cell_span-p.ensures c.requires)

pub returns : goal.returns
returns c =
    name-ctd _ _ _ _ c.cell_span-p.ensures _ _ c.trimmed.ensures.content c.begins_ctd.ensures
