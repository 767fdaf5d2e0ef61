-- The loop's invariant: n counts the first k bytes from i on.
use Prim.Native.Nat.{◌-◌, ◌≤◌}
use mathlib.Core.Path.{◌≡◌}
use lib.ListN.{take, drop}
use Rattle.format.specs.Inner.Grid.{count_of}
use Rattle.grid.proofs.count_in.Given as goal

abbrev pub invariant-loop-k : goal.invariant-loop-k
invariant-loop-k l = (l.k ≤ l.width) × (l.n ≤ l.k) × (l.n ≡ count_of l.wanted (take l.k (drop l.i l.s)))

abbrev pub decreases-loop-k : goal.decreases-loop-k
decreases-loop-k l = l.width - l.k
