use mathlib.Core.Path.{sym, ◌∙◌}
use native.Mathlib.Omega.{arith}
use Rattle.format.proofs.GridWalkLaws.{end_past}
use Rattle.next_cell.proofs.cell_stop.Goals as goal

pub returns-then-s-i : goal.returns-then-s-i
returns-then-s-i c = sym (end_past _ _ (omega arith))

pub returns : goal.returns
returns c = c.cell_end-2.ensures ∙ sym (c.ends_near.ensures c.if-ends_near.false)
