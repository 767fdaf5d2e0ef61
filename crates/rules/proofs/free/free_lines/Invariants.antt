-- The loop's invariant: the run goes on from the present line.
use Prim.Native.Nat.{◌+◌, ◌-◌, ◌^◌, ◌≤◌}
use mathlib.Core.Path.{◌≡◌}
use lib.ListN.{length}
use Rattle.format.specs.Places.{Place, run}
use Rattle.format.specs.Inner.Lines.{lines_from, StartsAt}
use Rattle.rules.specs.Inner.Free.{FreePlace}
use Rattle.rules.proofs.free.free_lines.Given as goal

abbrev pub invariant-loop-next : goal.invariant-loop-next
invariant-loop-next l =
    (l.fn.from.at ≤ l.next.at) × (l.next.at ≤ length l.s) × (l.next.line + l.fn.from.at ≤ l.next.at + l.fn.from.line) × (l.next.line ≤ l.next.at + 2 ^ 20)
    × ((p : Place) → FreePlace l.lines p → run l.fn.from.line p (lines_from l.s l.fn.from.at) ≡ run l.next.line p (lines_from l.s l.next.at))
    × (1 ≤ l.fn.from.line → StartsAt l.s l.fn.from.line l.fn.from.at → (1 ≤ l.next.line) × StartsAt l.s l.next.line l.next.at)

abbrev pub decreases-loop-next : goal.decreases-loop-next
decreases-loop-next l = length l.s - l.next.at
