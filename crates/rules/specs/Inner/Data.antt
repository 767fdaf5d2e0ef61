-- The words of the contracts of the data lines' reading; no promise of a public call cites them.
use Rattle.std.specs.Prelude.{ℕ, ◌+◌, ◌*◌, ◌≤◌, ◌<◌, ◌≡◌, List, ◌∷◌, map, true, false, cond, ◌&&◌, length, get_or, ltb, Result, Ok, Err, ⊤}
use Rattle.line_bytes.specs.Cells.{line_at}
use Rattle.format.specs.declared.BrokenRule.{BrokenRule}
use Rattle.format.specs.declared.Refusal.{Refusal}
use Rattle.rules.specs.declared.data.Data.{Data}
use Rattle.rules.specs.declared.free.LineStart.{LineStart}
use Rattle.format.specs.Faults.{clean}
use Rattle.format.specs.Columns.{kinds_of}
use Rattle.format.specs.Rows.{is_end_data}
use Rattle.format.specs.Places.{Table, rows, after, refused, run}
use Rattle.format.specs.Profiles.{missing_in_row, Key, key_of, same_key, missing_in_rows, run_count}
use Rattle.format.specs.Inner.Faults.{line_fault}
use Rattle.format.specs.Inner.Lines.{lines_from}
use Rattle.format.specs.Inner.Rows.{line_cells, key_at, rows_from}

-- ---- one line after d
-- what a row of that key adds to the profiles
abbrev pub border : List ℕ → Data → Key → ℕ
border s d x = cond (ltb 0 d.rows && same_key (key_at s d.last) x) 0 1

-- what the counts keep to
pub record DataHeld (d : Data) : Type 0 where
  pub few : d.rows ≤ 1000000
  pub profiles : d.profiles ≤ d.rows
  pub missing : d.missing ≤ 256 * d.rows

-- the line from i to its line feed at e, which keeps rules 1 to 5
pub record LineHeld (s : List ℕ) (i e : ℕ) : Type 0 where
  pub rules : line_fault true (line_at s i) ≡ clean
  pub room : i + length (line_at s i) < length s
  pub end : e ≡ i + length (line_at s i)
  pub feed : get_or s e 0 ≡ 10

-- the line after d is such a line, and is not END_DATA
abbrev pub RowDue : List ℕ → Data → ℕ → Type 0
RowDue s d e = LineHeld s d.at e × (is_end_data (line_at s d.at) ≡ false)

-- a good row was read
pub record RowAdded (s ks : List ℕ) (d r : Data) : Type 0 where
  pub held : DataHeld r
  pub inside : (d.at < r.at) × (r.at ≤ length s)
  pub counted : r.rows ≡ d.rows + 1
  pub lines : lines_from s d.at ≡ line_at s d.at ∷ lines_from s r.at
  pub on : (t : Table) (l : ℕ) → kinds_of t.names ≡ ks → run l (rows t d.rows) (lines_from s d.at) ≡ run (l + 1) (rows t r.rows) (lines_from s r.at)
  pub missing : r.missing ≡ d.missing + missing_in_row ks (line_cells s d.at)
  pub profiles : r.profiles ≡ d.profiles + border s d (key_of ks (line_cells s d.at))
  pub last : key_at s r.last ≡ key_of ks (line_cells s d.at)

-- or a rule is broken
abbrev pub RowMore : List ℕ → List ℕ → Data → Data → Result ⊤ BrokenRule → Type 0
RowMore s ks d r (Ok x) = RowAdded s ks d r
RowMore s ks d r (Err b) = (t : Table) (l : ℕ) → kinds_of t.names ≡ ks → run l (rows t d.rows) (lines_from s d.at) ≡ refused b.number l b.column

-- ---- the data lines from f on: END_DATA was read after them
pub record DataTold (s ks : List ℕ) (f : LineStart) (r : Data) : Type 0 where
  pub on : (t : Table) → kinds_of t.names ≡ ks → run f.line (rows t 0) (lines_from s f.at) ≡ run (f.line + r.rows + 1) (after t r.rows) (lines_from s r.at)
  pub inside : (f.at ≤ r.at) × (r.at ≤ length s)
  pub few : r.rows ≤ 1000000
  pub missing : r.missing ≡ missing_in_rows ks (rows_from s f.at r.rows)
  pub profiles : r.profiles ≡ run_count (map (key_of ks) (rows_from s f.at r.rows))

-- or a rule is broken
abbrev pub DataRead : List ℕ → List ℕ → LineStart → Result Data Refusal → Type 0
DataRead s ks f (Ok r) = DataTold s ks f r
DataRead s ks f (Err e) = (t : Table) → kinds_of t.names ≡ ks → run f.line (rows t 0) (lines_from s f.at) ≡ refused e.number e.line e.column
