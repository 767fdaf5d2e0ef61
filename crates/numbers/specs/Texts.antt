-- Document 01, "A correction": the text is - if below zero, the whole part with no needless zero but at least one digit, then a point and the decimals
-- if any. Text and flag digit are set at the right of their cells, spaces to the left.
use Rattle.std.specs.Prelude.{ℕ, zero, suc, ◌+◌, ◌-◌, ◌/◌, ◌%◌, ◌^◌, List, [], ◌∷◌, ◌++◌, Bool, true, false, cond, length, replicate, eqb, leb, ltb, ℤ, pos, negsuc}

-- the size of a number, and whether it is below zero
abbrev pub size : ℤ → ℕ
size (pos n) = n
size (negsuc n) = suc n

abbrev pub is_below : ℤ → Bool
is_below (pos n) = false
is_below (negsuc n) = true

-- the last k digits of n
unfoldable pub last_digits : ℕ → ℕ → List ℕ
last_digits zero n = []
last_digits (suc k) n = last_digits k (n / 10) ++ (48 + n % 10) ∷ []

-- the digits of n with no needless zero but at least one, k and one at the most
unfoldable pub whole_digits : ℕ → ℕ → List ℕ
whole_digits zero n = (48 + n % 10) ∷ []
whole_digits (suc k) n = cond (ltb n 10) ((48 + n % 10) ∷ []) (whole_digits k (n / 10) ++ (48 + n % 10) ∷ [])

abbrev pub whole_text : ℕ → List ℕ
whole_text n = whole_digits 19 n

-- a point and d decimals, if any, of a size in millionths
abbrev pub fraction_text : ℕ → ℕ → List ℕ
fraction_text d n = cond (eqb d 0) [] (46 ∷ last_digits d (n % 1000000 / 10 ^ (6 - d)))

abbrev pub sign_text : Bool → List ℕ
sign_text minus = cond minus (45 ∷ []) []

-- the text of a number by its sign and its size in millionths, with d decimals; and its length, 0 above 6 decimals
abbrev pub text_of : Bool → ℕ → ℕ → List ℕ
text_of minus n d = sign_text minus ++ (whole_text (n / 1000000) ++ fraction_text d n)

abbrev pub text_length : Bool → ℕ → ℕ → ℕ
text_length minus n d = cond (leb d 6) (length (text_of minus n d)) 0

-- the text of a number of millionths with d decimals
unfoldable pub number_text : ℤ → ℕ → List ℕ
number_text m d = text_of (is_below m) (size m) d

abbrev pub flag_text : ℕ → List ℕ
flag_text v = (48 + v) ∷ []

-- a text at the right of a cell of width w
unfoldable pub at_right : ℕ → List ℕ → List ℕ
at_right w t = replicate (w - length t) 32 ++ t
