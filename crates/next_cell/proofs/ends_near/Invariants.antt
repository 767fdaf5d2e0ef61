-- The loop's invariant: where no byte was found that ends the cell, it ends where that k bytes behind i does.
use Prim.Native.Nat.{◌+◌, ◌-◌, ◌≤◌}
use mathlib.Core.Path.{◌≡◌}
use mathlib.Core.Bool.{false}
use Rattle.line_bytes.specs.Cells.{cell_end}
use Rattle.next_cell.proofs.ends_near.Given as goal

abbrev pub invariant-loop-k : goal.invariant-loop-k
invariant-loop-k l = (l.k ≤ 8) × (l.ends ≡ false → cell_end 44 l.s l.i ≡ cell_end 44 l.s (l.i + l.k))

abbrev pub decreases-loop-k : goal.decreases-loop-k
decreases-loop-k l = 8 - l.k
