-- The numbers of the rules of a file's lines are 1 to 20.
use Prim.Native.Nat.{ℕ}
use lib.Dec.{ltb}
use mathlib.Core.List.{List}
use Rattle.format.specs.Faults.{first_of}
use Rattle.format.specs.Places.{rules_at, end_rules}
use Rattle.format.proofs.NumberLaws.{Numbered, either_numbered, rules_numbered, end_numbered}
use Rattle.laws.specs.RuleOrder.{lines_in, place_before, line_in, rules_of}

pub number_of_lem : (f : List ℕ) (l : ℕ) → Numbered (first_of (rules_of f l))
unfolding rules_of
number_of_lem f l =
    either_numbered (ltb l (lines_in f)) (rules_at (place_before f l) (line_in f l)) (end_rules (place_before f l) (line_in f l))
    (rules_numbered (place_before f l) (line_in f l)) (end_numbered (place_before f l) (line_in f l))
