-- Document 01, "Lines": a file opened once and then read from row to row by places. On such a file the calls by place (format: ByPlace, NamesLine) give what the
-- single calls give, which check the file anew each time. A term of the type stands in proofs/OpenedReadLaws.
use Rattle.std.specs.Prelude.{ℕ, ◌+◌, ◌≤◌, ◌≡◌, List}
use Rattle.line_bytes.specs.Cells.{line_at}
use Rattle.format.specs.Answers.{checked_of, place_for, reading_for, flagged_of}
use Rattle.format.specs.ByPlace.{row_start, line_after, cell_in, decimal_in, flag_in, decimal_step, flag_step}
use Rattle.format.specs.Labels.{named_of}
use Rattle.format.specs.Located.{flag_column_of}
use Rattle.format.specs.NamesLine.{kind_in_line, flag_in_line, column_in_line}
use Rattle.format.specs.Opened.{opened_of}

-- the names line of a file, and the kind of column c as that line has it
abbrev pub names_line_of : List ℕ → List ℕ
names_line_of f = line_at f (opened_of f).names

abbrev pub kind_read : List ℕ → ℕ → ℕ
kind_read f c = kind_in_line (names_line_of f) c

pub record OpenedReads : Type 0 where
  -- the first row starts where the data lines do, and each row's line leads to the next
  pub first : (f : List ℕ) → (opened_of f).first ≡ row_start f 1
  pub next : (f : List ℕ) (r : ℕ) → 1 ≤ r → r ≤ (checked_of f).rows → line_after f (row_start f r) ≡ row_start f (r + 1)
  -- at the place of a row: its cells, decimals and flags, in every column, also those that the file lacks
  pub cell : (f : List ℕ) (r c : ℕ) → 1 ≤ r → r ≤ (checked_of f).rows → cell_in f (row_start f r) c ≡ place_for f r c
  pub decimal : (f : List ℕ) (r c : ℕ) → 1 ≤ r → r ≤ (checked_of f).rows → decimal_in f (row_start f r) c (kind_read f c) ≡ reading_for f r c
  pub flag : (f : List ℕ) (r c : ℕ) → 1 ≤ r → r ≤ (checked_of f).rows → flag_in f (row_start f r) c (kind_read f c) ≡ flagged_of f r c
  -- a step gives both, the reading of this row and the place of the next
  pub decimal_step_lem : (f : List ℕ) (r c : ℕ) → 1 ≤ r → r ≤ (checked_of f).rows → decimal_step f (row_start f r) c (kind_read f c) ≡ record { reading = reading_for f r c; next = row_start f (r + 1) }
  pub flag-step : (f : List ℕ) (r c : ℕ) → 1 ≤ r → r ≤ (checked_of f).rows → flag_step f (row_start f r) c (kind_read f c) ≡ record { flagged = flagged_of f r c; next = row_start f (r + 1) }
  -- the names line has the file's columns by their names, and the flag column of each
  pub column : (f name : List ℕ) → (checked_of f).number ≡ 0 → column_in_line (names_line_of f) name ≡ (named_of f name).place
  pub flagged : (f : List ℕ) (c : ℕ) → 1 ≤ c → (checked_of f).number ≡ 0 → flag_in_line (names_line_of f) c ≡ flag_column_of f c
