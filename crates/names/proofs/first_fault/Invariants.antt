-- What is left of the names, after the earlier ones, gives the fault of all; in the inner loop no earlier name is the same.
use mathlib.Core.Path.{◌≡◌}
use lib.ListN.{get_or, take}
use mathlib.Core.List.{[]}
use mathlib.Core.Bool.{false}
use Rattle.std.proofs.Common.{None}
use Rattle.format.specs.Faults.{member}
use Rattle.format.specs.Inner.Names.{names_at}
use Rattle.format.proofs.NameLaws.{fault_from}
use Rattle.names.proofs.first_fault.Given as goal

abbrev pub invariant-loop-j : goal.invariant-loop-j
invariant-loop-j l = (l.found ≡ None) × (member (get_or (names_at l.s l.places) l.k []) (take l.j (names_at l.s l.places)) ≡ false)

abbrev pub invariant-names : goal.invariant-names
invariant-names l = (l.found ≡ None) × (fault_from (names_at l.s l.places) 0 ≡ fault_from (names_at l.s l.places) l.k)
