-- Document 01, "Profiles": in a bottle file a profile is a longest run of consecutive rows with equal EXPOCODE, equal STNNBR (trimmed bytes) and equal
-- CASTNO (as numbers); a CTD file is one profile. The missing readings are the pairs of a row and a measured column that read as missing.
use Rattle.std.specs.Prelude.{ℕ, ◌+◌, List, [], ◌∷◌, map, Bool, cond, ◌&&◌, eqb}
use Rattle.line_bytes.specs.Bytes.{comma, line_feed, equal}
use Rattle.line_bytes.specs.Cells.{pieces}
use Rattle.line_bytes.specs.Spaces.{trim}
use Rattle.verdicts.specs.Kinds.{expocode, stnnbr, castno, kind_of, code_of}
use Rattle.verdicts.specs.Judge.{judge}
use Rattle.verdicts.specs.Verdicts.{size_of}
use Rattle.verdicts.specs.Rows.{missing_in}

-- the lines of a file as lists of cells
abbrev pub grid : List ℕ → List (List (List ℕ))
grid f = map (pieces comma) (pieces line_feed f)

-- a row's missing readings, by its columns' kinds
unfoldable pub missing_in_row : List ℕ → List (List ℕ) → ℕ
missing_in_row [] ts = 0
missing_in_row (k ∷ ks) [] = 0
missing_in_row (k ∷ ks) (t ∷ ts) = missing_in k (judge (kind_of k) t) + missing_in_row ks ts

unfoldable pub missing_in_rows : List ℕ → List (List (List ℕ)) → ℕ
missing_in_rows ks [] = 0
missing_in_rows ks (r ∷ rs) = missing_in_row ks r + missing_in_rows ks rs

-- the cell of the column of a kind, t₀ where there is none; a kind of the station names has one column at the most
unfoldable pub cell_of_kind : ℕ → List ℕ → List ℕ → List (List ℕ) → List ℕ
cell_of_kind k t₀ [] ts = t₀
cell_of_kind k t₀ (x ∷ ks) [] = t₀
cell_of_kind k t₀ (x ∷ ks) (t ∷ ts) = cell_of_kind k (cond (eqb x k) t t₀) ks ts

-- a row's key: EXPOCODE, STNNBR and CASTNO
pub record Key : Type 0 where
  pub expocode : List ℕ
  pub stnnbr : List ℕ
  pub castno : ℕ

abbrev pub key_of : List ℕ → List (List ℕ) → Key
key_of ks ts = record {
  expocode = trim (cell_of_kind (code_of expocode) [] ks ts);
  stnnbr = trim (cell_of_kind (code_of stnnbr) [] ks ts);
  castno = size_of (judge castno (cell_of_kind (code_of castno) [] ks ts));
}

abbrev pub same_key : Key → Key → Bool
same_key x y = eqb x.castno y.castno && (equal x.stnnbr y.stnnbr && equal x.expocode y.expocode)

-- the profile of each row: the first row's is 1, a row with the key of the row before is in its profile, any other begins the next
unfoldable pub labels_from : Key → ℕ → List Key → List ℕ
labels_from x l [] = []
labels_from x l (y ∷ ys) = cond (same_key x y) (l ∷ labels_from y l ys) ((l + 1) ∷ labels_from y (l + 1) ys)

unfoldable pub labels : List Key → List ℕ
labels [] = []
labels (x ∷ xs) = 1 ∷ labels_from x 1 xs

-- how many profiles there are: one more at each border
unfoldable pub borders_from : Key → List Key → ℕ
borders_from x [] = 0
borders_from x (y ∷ ys) = cond (same_key x y) 0 1 + borders_from y ys

unfoldable pub run_count : List Key → ℕ
run_count [] = 0
run_count (x ∷ xs) = 1 + borders_from x xs

-- the rows of profile k, the first of the list being row r
unfoldable pub rows_of : ℕ → ℕ → List ℕ → List ℕ
rows_of k r [] = []
rows_of k r (l ∷ ls) = cond (eqb l k) (r ∷ rows_of k (r + 1) ls) (rows_of k (r + 1) ls)
