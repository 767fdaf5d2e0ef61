-- Document 01, "Lines": where lines and cells stand in a file, from the lengths of its pieces alone.
use Rattle.std.specs.Prelude.{ℕ, zero, suc, ◌+◌, List, [], ◌∷◌, map, cond, length, get_or, ltb}
use Rattle.line_bytes.specs.declared.Span.{Span}

-- where piece k begins, the pieces being of the given lengths and parted by one byte each
unfoldable pub starts : List ℕ → ℕ → ℕ
starts [] k = 0
starts (w ∷ ws) zero = 0
starts (w ∷ ws) (suc k) = w + 1 + starts ws k

-- the place of nothing: the empty part at the file's start
abbrev pub nowhere : Span
nowhere = record { start = 0; len = 0 }

-- the place of cell k, from 0, of the cells ts, the first of which starts at i, with its spaces; nowhere where there is none
unfoldable pub span_in : ℕ → List (List ℕ) → ℕ → Span
span_in i ts k = cond (ltb k (length ts)) (record { start = i + starts (map length ts) k; len = length (get_or ts k []) }) nowhere
