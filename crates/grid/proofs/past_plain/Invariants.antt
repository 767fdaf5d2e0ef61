-- The loop's invariant: the line that goes on at p ends where that at i does.
use Prim.Native.Nat.{◌+◌, ◌-◌, ◌≤◌}
use mathlib.Core.Path.{◌≡◌}
use lib.ListN.{length}
use Rattle.line_bytes.specs.Cells.{line_at}
use Rattle.grid.proofs.past_plain.Given as goal

abbrev pub invariant-loop-p : goal.invariant-loop-p
invariant-loop-p l = (l.p ≤ length l.s) × (l.i + length (line_at l.s l.i) ≡ l.p + length (line_at l.s l.p))

abbrev pub decreases-loop-p : goal.decreases-loop-p
decreases-loop-p l = length l.s - l.p
