-- No column passed is wanted, and the rest of the line has the others.
use Prim.Native.Nat.{ℕ, ◌+◌, ◌-◌, ◌≤◌}
use mathlib.Core.Path.{◌≡◌}
use mathlib.Core.List.{List}
use mathlib.Core.Bool.{Bool}
use lib.ListN.{length}
use Rattle.columns.proofs.AskedLaws.{Looked}
use Rattle.columns.proofs.column_where.Given as goal

abbrev pub invariant-loop-wanted : goal.invariant-loop-wanted
invariant-loop-wanted g l = (l.k ≤ l.i + 1) × ((p : List ℕ → Bool) → ((x : _) (b : Bool) → goal.F-post g l.wanted x b → b ≡ p x.now) → Looked l.s l.at p l.i l.k)

abbrev pub decreases-loop-wanted : goal.decreases-loop-wanted
decreases-loop-wanted g l = length l.s - l.i
