-- The loop's invariant: the cells counted and those of the rest of the line are those of the line.
use Prim.Native.Nat.{◌+◌, ◌-◌, ◌≤◌}
use mathlib.Core.Path.{◌≡◌}
use lib.ListN.{length}
use Rattle.line_bytes.specs.Cells.{pieces, line_at}
use Rattle.grid.proofs.cell_count.Given as goal

abbrev pub invariant-loop-q : goal.invariant-loop-q
invariant-loop-q l = (l.i ≤ l.q) × (l.n ≤ l.q - l.i + 1) × (l.n + length (pieces 44 (line_at l.s l.q)) ≡ length (pieces 44 (line_at l.s l.i)) + 1)

abbrev pub decreases-loop-q : goal.decreases-loop-q
decreases-loop-q l = length l.s - l.q
