-- The loop's invariant: `left` cells on from `at` as `cells` from the start.
use Prim.Native.Nat.{◌-◌, ◌≤◌}
use mathlib.Core.Path.{◌≡◌}
use lib.ListN.{length}
use Rattle.format.specs.Inner.Grid.{cell_span}
use Rattle.grid.proofs.past_cells.Given as goal

abbrev pub invariant-loop-at : goal.invariant-loop-at
invariant-loop-at l = (l.at ≤ length l.s) × (1 ≤ l.left) × (cell_span l.s l.from l.cells ≡ cell_span l.s l.at l.left)

abbrev pub decreases-loop-at : goal.decreases-loop-at
decreases-loop-at l = length l.s - l.at
