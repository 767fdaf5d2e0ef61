-- The words of the contracts of the search for a column in a names line, and of the laws about it; no promise of a public call cites them.
use Rattle.std.specs.Prelude.{ℕ, ◌+◌, List, [], ◌∷◌, Bool, cond, ◌&&◌}
use Rattle.line_bytes.specs.Bytes.{equal}
use Rattle.format.specs.Columns.{is_flag, parameter_of}

-- the name y is n; it is that of the flag column of n
unfoldable pub is_named : List ℕ → List ℕ → Bool
is_named n y = equal y n

unfoldable pub is_flag_of : List ℕ → List ℕ → Bool
is_flag_of n y = is_flag y && equal (parameter_of y) n

-- the column of that name or, where flags are asked for, its flag column
unfoldable pub is_wanted : Bool → List ℕ → List ℕ → Bool
is_wanted flags n y = cond flags (is_flag y && equal (parameter_of y) n) (equal y n)

-- the number of the first of some names that passes a test, the first of them being number k; 0 where none does
unfoldable pub first_from : ℕ → (List ℕ → Bool) → List (List ℕ) → ℕ
first_from k p [] = 0
first_from k p (x ∷ xs) = cond (p x) k (first_from (k + 1) p xs)
