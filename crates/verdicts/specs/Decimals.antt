-- Document 01, "Decimals": an optional + or -, then digits with at most one point; at least one digit; at most 9 digits before the point
-- and 6 after, leading zeros counted; no exponent. The value is a whole number of millionths.
use Rattle.std.specs.Prelude.{ℕ, ◌+◌, ◌-◌, ◌*◌, ◌^◌, List, [], ◌∷◌, ◌++◌, Bool, true, false, cond, ◌&&◌, length, leb, eqb}
use Rattle.line_bytes.specs.Bytes.{plus, hyphen, point, is_digit, every, numeral}
use Rattle.verdicts.specs.Verdicts.{Verdict, wrong, good}

-- the digits at the front; and what stands after them and a point
unfoldable pub front : List ℕ → List ℕ
front [] = []
front (x ∷ xs) = cond (is_digit x) (x ∷ front xs) []

unfoldable pub fraction : List ℕ → List ℕ
fraction [] = []
fraction (x ∷ xs) = cond (is_digit x) (fraction xs) (cond (eqb x point) xs (x ∷ xs))

-- the number v written with b digits before the point and a after it
unfoldable pub settle : Bool → ℕ → ℕ → ℕ → Verdict
settle m v b a = cond (leb b 9 && (leb a 6 && leb 1 (b + a))) (good m (v * 10 ^ (6 - a)) a) wrong

-- a text without its sign
unfoldable pub unsigned_of : Bool → List ℕ → Verdict
unsigned_of m t =
    cond (every is_digit (fraction t))
    (settle m (numeral 0 (front t ++ fraction t)) (length (front t)) (length (fraction t)))
    wrong

-- a text with its sign
unfoldable pub decimal_of : List ℕ → Verdict
decimal_of [] = wrong
decimal_of (x ∷ xs) =
    cond (eqb x hyphen) (unsigned_of true xs)
    (cond (eqb x plus) (unsigned_of false xs) (unsigned_of false (x ∷ xs)))
