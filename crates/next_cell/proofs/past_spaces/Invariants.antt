-- The loop's invariant: from i up to p all are spaces; so p has not come to the end of the cell, whose last byte is none.
use Prim.Native.Nat.{◌-◌, ◌≤◌, ◌<◌}
use Rattle.next_cell.specs.Inner.Spaces.{Spaces}
use Rattle.next_cell.proofs.past_spaces.Given as goal

abbrev pub invariant-loop-p : goal.invariant-loop-p
invariant-loop-p l = (l.i ≤ l.p) × (l.p < l.stop) × Spaces l.s l.i l.p

abbrev pub decreases-loop-p : goal.decreases-loop-p
decreases-loop-p l = l.stop - l.p
