-- Document 02, [3]: "a constant table of byte ranges, one row for each of the nine alternatives". A row is nine bytes: its length, then the lowest and the
-- highest byte of each of its ranges, four at the most. A short row ends with zeros, which nobody reads.
use Rattle.std.specs.Prelude.{ℕ, zero, suc, ◌+◌, ◌-◌, ◌*◌, min, List, [], ◌∷◌, ◌++◌, map, length, get_or, replicate}
use Rattle.utf8.specs.Syntax.{Range, to}

-- rows laid out as a table: a row's bounds, and each row
abbrev pub bounds : List Range → List ℕ
bounds [] = []
bounds (r ∷ rs) = r.low ∷ r.high ∷ bounds rs

abbrev pub laid : List (List Range) → List (List ℕ)
laid rows = map (λ (a : List Range). length a ∷ bounds a ++ replicate (8 - 2 * length a) 0) rows

-- the rows that stand in any table: n ranges of a row, the bounds of the first at p
unfoldable pub ranges_at : List ℕ → ℕ → ℕ → List Range
ranges_at bs p zero = []
ranges_at bs p (suc n) = to (get_or bs p 0) (get_or bs (p + 1) 0) ∷ ranges_at bs (p + 2) n

unfoldable pub row_in : List ℕ → List Range
row_in bs = ranges_at bs 1 (min (get_or bs 0 0) 4)

-- n rows, from number k on, counted from 0; a table has nine
unfoldable pub rows_from : List (List ℕ) → ℕ → ℕ → List (List Range)
rows_from t k zero = []
rows_from t k (suc n) = row_in (get_or t k []) ∷ rows_from t (k + 1) n

abbrev pub rows_in : List (List ℕ) → List (List Range)
rows_in t = rows_from t 0 9
