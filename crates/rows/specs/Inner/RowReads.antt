-- The words of the contract of a row's reading; no promise of a public call cites them.
use Rattle.std.specs.Prelude.{ℕ, ◌+◌, ◌-◌, ◌≤◌, ◌≡◌, List, cond, ◌&&◌, length, get_or, eqb, Result, Ok, Err}
use Rattle.verdicts.specs.declared.CellsRead.{CellsRead}
use Rattle.line_bytes.specs.Bytes.{comma, line_feed}
use Rattle.format.specs.declared.BrokenRule.{BrokenRule}
use Rattle.format.specs.Faults.{clean, breaks}
use Rattle.format.specs.Inner.Rows.{line_cells, key_at}
use Rattle.verdicts.specs.Rows.{cells_at}
use Rattle.rows.specs.declared.Row.{Row}
use Rattle.format.specs.Profiles.{missing_in_row, key_of}
use Rattle.format.specs.Inner.Faults.{row_fault}

-- ---- one row
abbrev pub wrong_count : BrokenRule
wrong_count = record { number = 15; column = 1 }

-- the broken rule of the row from i on whose first refused cell starts at `at`, `rest` cells being due from it on: 15 comes before the cell's number
abbrev pub broken_at : List ℕ → ℕ → ℕ → ℕ → ℕ → BrokenRule
broken_at s i at rest number = cond (eqb (length (line_cells s at)) rest) (record { number = number; column = at - i + 1 }) wrong_count

-- the row that starts at i, by its cells judged from the left
abbrev pub row_by : List ℕ → List ℕ → ℕ → CellsRead → Result Row BrokenRule
row_by ks s i r =
    cond (eqb r.number 0)
    (cond (eqb r.good (length ks) && eqb (get_or s r.at 0) line_feed) (Ok (record { missing = r.missing; keys = r.keys })) (Err wrong_count))
    (Err (broken_at s i r.start (length ks - r.good) r.number))

-- the code's row, whose line feed stands at e
unfoldable pub row_for : List ℕ → List ℕ → ℕ → ℕ → Result Row BrokenRule
row_for ks s i e = row_by ks s i (cells_at ks comma s i e)

-- what it says of a line with its line feed at e: that it keeps its rules, or which it breaks
pub record RowKept (s ks : List ℕ) (i : ℕ) (r : Row) : Type 0 where
  pub rules : row_fault ks (line_cells s i) ≡ clean
  pub few : r.missing ≤ 256
  pub missing : r.missing ≡ missing_in_row ks (line_cells s i)
  pub key : key_at s r.keys ≡ key_of ks (line_cells s i)

abbrev pub RowRead : List ℕ → List ℕ → ℕ → Result Row BrokenRule → Type 0
RowRead s ks i (Ok r) = RowKept s ks i r
RowRead s ks i (Err b) = row_fault ks (line_cells s i) ≡ breaks b.number b.column
