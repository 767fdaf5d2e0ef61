use native.Mathlib.Omega.{arith}
use Rattle.opened.proofs.PartLaws.{part_room, cell-none, cell-some}
use Rattle.opened.proofs.cell_in.Goals as goal

pub returns-in_default : goal.returns-in_default
returns-in_default c = cell-none _ _ _ c.in_default.ensures _ c.no_place.ensures

pub overflow_add-p : goal.overflow_add-p
overflow_add-p c = omega (arith, part_room _ _ _ c.in-Some.p c.in-Some.ensures)

pub returns : goal.returns
returns c = cell-some _ _ _ c.in-Some.p c.in-Some.ensures _ c.trim_span.ensures
