-- The words of the inner contracts: a column found in a file, and its rows. No promise of a public call cites them.
use Rattle.std.specs.Prelude.{ℕ, ◌≤◌, ◌≡◌, List, Bool, Result, Ok, Err}
use Rattle.text.specs.declared.Reading.{Reading}
use Rattle.format.specs.declared.Refusal.{Refusal}
use Rattle.format.specs.Places.{outcome_of}
use Rattle.format.specs.Answers.{checked_of}
use Rattle.format.specs.ByPlace.{row_start}
use Rattle.format.specs.ReadingNumbers.{reading_case, read_millionths, read_value}
use Rattle.laws.specs.OpenedReads.{kind_read}
use Rattle.whole_columns.specs.declared.opening.Column.{Column}
use Rattle.whole_columns.specs.declared.filling.Entry.{Entry}
use Rattle.whole_columns.specs.declared.opening.ReadAs.{ReadAs}
use Rattle.whole_columns.specs.declared.opening.ReadAs.TheVariants.{Decimals, Flags}
use Rattle.whole_columns.specs.Columns.{rows_given, no_column, column_by, is_decimal_kind, is_flag_kind}

-- a column of a file, with at most its rows
pub record Stands (f : List ℕ) (x : Column) : Type 0 where
  pub rows : x.rows ≤ (checked_of f).rows
  pub start : x.first ≡ row_start f 1
  pub kind : x.kind ≡ kind_read f x.column

-- the kinds of columns that are read so
abbrev pub is_read : ReadAs → ℕ → Bool
is_read Decimals = is_decimal_kind
is_read Flags = is_flag_kind

-- column c found, read so, with room for its rows; or refused
pub record FoundColumn (f : List ℕ) (c : ℕ) (kinds : ReadAs) (room : ℕ) (x : Column) : Type 0 where
  pub column : x.column ≡ c
  pub answer : column_by (is_read kinds) room c (outcome_of f) ≡ rows_given x.rows
  pub stands : Stands f x
  pub fits : x.rows ≤ room

abbrev pub Found : List ℕ → ℕ → ReadAs → ℕ → Result Column Refusal → Type 0
Found f c kinds room (Ok x) = FoundColumn f c kinds room x
Found f c kinds room (Err e) = column_by (is_read kinds) room c (outcome_of f) ≡ no_column e.number e.line e.column

-- a reading as the entries of three tables
abbrev pub entry_for : Reading → Entry
entry_for x = record { case = reading_case x; millionths = read_millionths x; value = read_value x }
