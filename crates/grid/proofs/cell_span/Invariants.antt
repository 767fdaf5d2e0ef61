-- The loop's invariant: `left` cells on from i as `column` from the start.
use Prim.Native.Nat.{◌-◌, ◌≤◌}
use mathlib.Core.Path.{◌≡◌}
use lib.ListN.{length}
use Rattle.format.specs.Inner.Grid.{cell_span}
use Rattle.grid.proofs.cell_span.Given as goal

abbrev pub invariant-loop-i : goal.invariant-loop-i
invariant-loop-i l = (1 ≤ l.left) × (cell_span l.s l.at l.column ≡ cell_span l.s l.i l.left)

abbrev pub decreases-loop-i : goal.decreases-loop-i
decreases-loop-i l = length l.s - l.i
