-- The run and the counts go on from the rows read.
use Prim.Native.Nat.{◌-◌}
use lib.ListN.{length}
use Rattle.rules.proofs.DataLaws.{SoFar}
use Rattle.rules.proofs.data.read_data.Given as goal

abbrev pub invariant-loop-d : goal.invariant-loop-d
invariant-loop-d l = SoFar l.s l.kinds l.from.at l.d

abbrev pub decreases-loop-d : goal.decreases-loop-d
decreases-loop-d l = length l.s - l.d.at
