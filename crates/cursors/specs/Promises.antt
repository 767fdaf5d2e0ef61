-- Document 02, request [13]: what a walk hands out, from its opening to its end and ever after. A term of each type stands in proofs/PromiseLaws.
use Rattle.std.specs.Prelude.{ℕ, zero, suc, ◌+◌, ◌*◌, ◌≤◌, ◌≡◌, List, [], ◌∷◌, ◌++◌, cond, length, take, eqb}
use Rattle.std.specs.Borrow.{Bor}
use Rattle.line_bytes.specs.declared.Span.{Span}
use Rattle.format.specs.declared.Checked.{Checked}
use Rattle.format.specs.Answers.{checked_of, cell_of}
use Rattle.format.specs.Grid.{nowhere}
use Rattle.cursors.specs.declared.Cursor.{Cursor}
use Rattle.cursors.specs.declared.Walker.{Walker}
use Rattle.cursors.specs.Walk.{ended, at_end, open_of, step_of, part_of}
use Rattle.cursors.specs.Walkers.{opened_on, walked_on, part_in}

-- a cell handed out: its row and column, and the place of its part
pub record Cell : Type 0 where
  pub row : ℕ
  pub column : ℕ
  pub place : Span

-- ---- "The cells are exactly those of single calls, row by row from the left, each once."
-- those of the single calls: m cells of row r from column c on; n rows of m cells from row r on; all rows of the file
unfoldable pub row_from : List ℕ → ℕ → ℕ → ℕ → List Cell
row_from f r c zero = []
row_from f r c (suc m) = record { row = r; column = c; place = cell_of f r c } ∷ row_from f r (c + 1) m

unfoldable pub rows_from : List ℕ → ℕ → ℕ → ℕ → List Cell
rows_from f r zero m = []
rows_from f r (suc n) m = row_from f r 1 m ++ rows_from f (r + 1) n m

unfoldable pub all_cells : List ℕ → List Cell
all_cells f = rows_from f 1 (checked_of f).rows (checked_of f).columns

-- those that a walk hands out from a cursor on, up to its end, k of them at the most
unfoldable pub handed_out : List ℕ → ℕ → Cursor → List Cell
handed_out f zero x = []
handed_out f (suc k) x = cond (eqb x.row 0) [] (record { row = x.row; column = x.column; place = part_of f x } ∷ handed_out f k (step_of f x))

-- a cursor after k steps
unfoldable pub stepped : List ℕ → ℕ → Cursor → Cursor
stepped f zero x = x
stepped f (suc k) x = stepped f k (step_of f x)

-- for every file, a refused one, which has no cells, too: all cells, and then no more; and the first k of them for every k
pub record WalksAll : Type 0 where
  pub all : (f : List ℕ) (k : ℕ) → length (all_cells f) ≤ k → handed_out f k (open_of f) ≡ all_cells f
  pub first : (f : List ℕ) (k : ℕ) → handed_out f k (open_of f) ≡ take k (all_cells f)
  pub count : (f : List ℕ) → length (all_cells f) ≡ (checked_of f).rows * (checked_of f).columns

-- ---- "At the end, and ever after, it says so, with row and column 0 and the empty part at the file's start."
pub record EndsEver : Type 0 where
  -- behind the last cell, after any number of steps more
  pub over : (f : List ℕ) (k : ℕ) → length (all_cells f) ≤ k → stepped f k (open_of f) ≡ ended (checked_of f)
  pub part : (f : List ℕ) (c : Checked) → part_of f (ended c) ≡ nowhere
  -- every cursor, of whatever origin: it stays at its end, comes to it, and hands out parts of the file only
  pub stays : (f : List ℕ) (k : ℕ) (x : Cursor) → x.row ≡ 0 → stepped f (suc k) x ≡ at_end x
  pub comes : (f : List ℕ) (k : ℕ) (x : Cursor) → length f + 1 ≤ k → (stepped f k x).row ≡ 0
  pub inside : (f : List ℕ) (x : Cursor) → (part_of f x).start + (part_of f x).len ≤ length f

-- ---- "Refusals: the file's own, at opening; that walker carries it and is at its end."
pub record Carries : Type 0 where
  pub refused : (f : List ℕ) → ((checked_of f).number ≡ 0 → ⊥) → (k : ℕ) → stepped f k (open_of f) ≡ ended (checked_of f)
  pub number : (f : List ℕ) (k : ℕ) → (stepped f k (open_of f)).cell.number ≡ (checked_of f).number
  pub line : (f : List ℕ) (k : ℕ) → (stepped f k (open_of f)).cell.line ≡ (checked_of f).line
  pub column : (f : List ℕ) (k : ℕ) → (stepped f k (open_of f)).cell.column ≡ (checked_of f).column

-- ---- the cell's place as a cursor carries it, for a caller by numbers: in an opened cursor, and in one that a step gives, whatever it came from, it is the part's
pub record CarriesPart : Type 0 where
  pub opened : (f : List ℕ) → (open_of f).cell.place ≡ part_of f (open_of f)
  pub next : (f : List ℕ) (x : Cursor) → (step_of f x).cell.place ≡ part_of f (step_of f x)

-- ---- the same of the walker itself: what it hands out, and what it holds after k steps, which is the lent file ever after
unfoldable pub handed_by : ℕ → Walker → List Cell
handed_by zero w = []
handed_by (suc k) w = cond (eqb w.cursor.row 0) [] (record { row = w.cursor.row; column = w.cursor.column; place = part_in w } ∷ handed_by k (walked_on w))

unfoldable pub walked_by : ℕ → Walker → Walker
walked_by zero w = w
walked_by (suc k) w = walked_by k (walked_on w)

pub record WalkerWalks : Type 0 where
  pub all : (f : Bor (List ℕ)) (k : ℕ) → length (all_cells f.now) ≤ k → handed_by k (opened_on f) ≡ all_cells f.now
  pub over : (f : Bor (List ℕ)) (k : ℕ) → length (all_cells f.now) ≤ k → walked_by k (opened_on f) ≡ record { file = f; cursor = ended (checked_of f.now) }
  pub holds : (f : Bor (List ℕ)) (k : ℕ) → walked_by k (opened_on f) ≡ record { file = f; cursor = stepped f.now k (open_of f.now) }
