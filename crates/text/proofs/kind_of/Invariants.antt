use Prim.Native.Nat.{◌-◌, ◌/◌}
use mathlib.Core.Path.{◌≡◌}
use lib.ListN.{length}
use Rattle.text.specs.Catalogue.{search_from, look_up}
use Rattle.text.proofs.kind_of.Given as goal

abbrev pub invariant-loop-k : goal.invariant-loop-k
invariant-loop-k l = look_up l.listed l.name ≡ search_from l.listed l.name (length l.listed / 16 - l.k) l.k
