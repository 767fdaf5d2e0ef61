use Prim.Native.Nat.{◌≤◌}
use mathlib.Core.Path.{◌≡◌}
use lib.ListN.{length, drop}
use Rattle.pages.specs.Pages.{page, lay}
use Rattle.pages.proofs.put.Given as goal

abbrev pub invariant-loop-b : goal.invariant-loop-b
invariant-loop-b l = (l.b-index ≤ length l.t) × (length l.room ≡ length l.initial.room) × (lay (page l.initial.room l.at) l.t ≡ lay (page l.room l.end) (drop l.b-index l.t))
