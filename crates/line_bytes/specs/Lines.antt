-- Document 01, rules 3, 4 and 5 of a line. UTF-8 is RFC 3629: a text is well formed if it is a sequence of characters,
-- each taken by one of the nine alternatives of that document's syntax, UTF8-1 to UTF8-4 (utf8, Syntax).
use Rattle.std.specs.Prelude.{ℕ, zero, suc, pred, List, [], ◌∷◌, Bool, cond, ◌||◌, ltb, eqb, position, Option, Some, None}
use Rattle.utf8.specs.Syntax.{character}

-- the first ill-formed sequence. The list's first byte stands at place i, and k bytes of it belong to a character that has been read
unfoldable pub ill_from : ℕ → ℕ → List ℕ → Option ℕ
ill_from i k [] = None
ill_from i zero (x ∷ xs) = cond (eqb (character (x ∷ xs)) 0) (Some i) (ill_from (suc i) (pred (character (x ∷ xs))) xs)
ill_from i (suc k) (x ∷ xs) = ill_from (suc i) k xs

-- rule 3: where the first ill-formed sequence of a line starts
unfoldable pub ill_formed : List ℕ → Option ℕ
ill_formed xs = ill_from 0 0 xs

-- rule 4: the first byte 0D
abbrev pub is_return : ℕ → Bool
is_return x = eqb x 0x0d

unfoldable pub return_at : List ℕ → Option ℕ
return_at xs = position is_return xs

-- rule 5: the first byte below 20, or 7F
abbrev pub is_control : ℕ → Bool
is_control x = ltb x 0x20 || eqb x 0x7f

unfoldable pub control_at : List ℕ → Option ℕ
control_at xs = position is_control xs
