-- The words of the contracts of the code's own scans (src/scans.rt): runs of spaces, of digits and of a word's bytes, and what they leave of a cell; no promise of a public call cites them.
use Rattle.std.specs.Prelude.{ℕ, ◌+◌, ◌-◌, ◌*◌, ◌≤◌, ◌<◌, ◌≡◌, Bool, true, false, not, ◌||◌, List, [], ◌∷◌, length, get_or, eqb}
use Rattle.line_bytes.specs.Bytes.{line_feed, space, comma, slash, is_space, is_digit}
use Rattle.line_bytes.specs.Cells.{cell_at}
use Rattle.line_bytes.specs.Spaces.{trim_end}
use Rattle.line_bytes.specs.Inner.Scans.{Scan}
use Rattle.verdicts.specs.Verdicts.{Verdict, wrong}

-- n digits from i up to q, which make v0 into v
pub data Written (s : List ℕ) (i v0 : ℕ) : ℕ → ℕ → ℕ → Type 0 where
  still : Written s i v0 i 0 v0
  more : {q n v : ℕ} → Written s i v0 q n v → q < length s → is_digit (get_or s q 0) ≡ true → Written s i v0 (q + 1) (n + 1) (v * 10 + (get_or s q 0 - 48))

-- spaces from i stop at r
pub record Spaced (s : List ℕ) (i e r : ℕ) : Type 0 where
  pub low : i ≤ r
  pub high : r ≤ e
  pub over : Scan is_space s i r
  pub stops : is_space (get_or s r 0) ≡ false

-- digits from i stop at r, at the latest at limit, and make v0 into v
pub record Counted (s : List ℕ) (i e limit v0 r v : ℕ) : Type 0 where
  pub low : i ≤ r
  pub high : r ≤ e
  pub within : r ≤ limit
  pub over : Written s i v0 r (r - i) v
  pub stops : r < limit → is_digit (get_or s r 0) ≡ false

-- a byte inside a key text's word
abbrev pub word_byte : ℕ → ℕ → Bool
word_byte c x = not (eqb x comma || eqb x space || eqb x slash || eqb x c || eqb x line_feed)

-- a key text's bytes from i stop at r
pub record Worded (c : ℕ) (s : List ℕ) (i e r : ℕ) : Type 0 where
  pub low : i ≤ r
  pub high : r ≤ e
  pub over : Scan (word_byte c) s i r
  pub stops : word_byte c (get_or s r 0) ≡ false

-- a cell's text begins at a, before the line feed at e
pub record Begun (c : ℕ) (s : List ℕ) (a e : ℕ) : Type 0 where
  pub short : a < e
  pub inside : (eqb (get_or s a 0) c || eqb (get_or s a 0) line_feed) ≡ false
  pub solid : is_space (get_or s a 0) ≡ false

-- what is left of the cell from p on, without the spaces at its end
unfoldable pub body : ℕ → List ℕ → ℕ → List ℕ
body c s p = trim_end (cell_at c s p)

-- nothing may be left
abbrev pub closing : Verdict → List ℕ → Verdict
closing v [] = v
closing v (x ∷ xs) = wrong
