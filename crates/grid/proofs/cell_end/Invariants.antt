-- The loop's invariant: the cell that goes on at p ends where that at i does.
use Prim.Native.Nat.{◌-◌, ◌≤◌}
use mathlib.Core.Path.{◌≡◌}
use lib.ListN.{length}
use Rattle.line_bytes.specs.Cells.{cell_end}
use Rattle.grid.proofs.cell_end.Given as goal

abbrev pub invariant-loop-p : goal.invariant-loop-p
invariant-loop-p l = (l.i ≤ l.p) × (cell_end 44 l.s l.i ≡ cell_end 44 l.s l.p)

abbrev pub decreases-loop-p : goal.decreases-loop-p
decreases-loop-p l = length l.s - l.p
