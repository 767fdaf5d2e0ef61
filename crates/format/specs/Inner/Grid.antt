-- The words of the contracts of where lines and cells stand; no promise of a public call cites them.
use Rattle.std.specs.Prelude.{ℕ, zero, suc, ◌+◌, List, [], ◌∷◌, map, cond, length, drop, eqb, ltb}
use Rattle.line_bytes.specs.Bytes.{comma, line_feed}
use Rattle.line_bytes.specs.declared.Span.{Span}
use Rattle.line_bytes.specs.Cells.{line_at, pieces}
use Rattle.format.specs.Grid.{starts, span_in}

-- where the line starts that is k lines after the one that goes on at i; the end of s where there are not so many
unfoldable pub line_start : List ℕ → ℕ → ℕ → ℕ
line_start s i k = cond (ltb k (length (pieces line_feed (drop i s)))) (i + starts (map length (pieces line_feed (drop i s))) k) (length s)

-- the place of cell k, from 0, of the line that starts at i
abbrev pub cell_span : List ℕ → ℕ → ℕ → Span
cell_span s i k = span_in i (pieces comma (line_at s i)) k

-- how many of a list's bytes are b
unfoldable pub count_of : ℕ → List ℕ → ℕ
count_of b [] = 0
count_of b (x ∷ xs) = cond (eqb x b) 1 0 + count_of b xs

-- how many bytes go up to and with its k-th line feed, all where it has fewer
unfoldable pub skip : ℕ → List ℕ → ℕ
skip zero xs = 0
skip (suc k) [] = 0
skip (suc k) (x ∷ xs) = suc (cond (eqb x 10) (skip k xs) (skip (suc k) xs))

-- where the line starts that is k lines after the one that goes on at i, byte by byte
abbrev pub skipped : List ℕ → ℕ → ℕ → ℕ
skipped s i k = i + skip k (drop i s)
