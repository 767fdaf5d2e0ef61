-- The loop's invariant: where no line feed is found, the first k bytes from i on have none.
use Prim.Native.Nat.{◌-◌, ◌≤◌}
use mathlib.Core.Path.{◌≡◌}
use mathlib.Core.Bool.{false}
use lib.ListN.{take, drop}
use Rattle.format.specs.Inner.Grid.{count_of}
use Rattle.grid.proofs.feed_in.Given as goal

abbrev pub invariant-loop-k : goal.invariant-loop-k
invariant-loop-k l = (l.k ≤ l.width) × (l.feed ≡ false → count_of 10 (take l.k (drop l.i l.s)) ≡ 0)

abbrev pub decreases-loop-k : goal.decreases-loop-k
decreases-loop-k l = l.width - l.k
