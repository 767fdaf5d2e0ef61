-- Document 01, "Profiles" and "Refusal numbers": what the calls answer, by the file's outcome.
use Rattle.std.specs.Prelude.{ℕ, ◌+◌, ◌-◌, List, [], ◌∷◌, map, Bool, cond, ◌&&◌, ◌||◌, length, get_or, take, drop, eqb, leb}
use Rattle.line_bytes.specs.Bytes.{line_feed}
use Rattle.line_bytes.specs.declared.Span.{Span}
use Rattle.text.specs.declared.Reading.{Reading}
use Rattle.text.specs.declared.Reading.TheVariants.{Refused}
use Rattle.line_bytes.specs.Cells.{pieces}
use Rattle.line_bytes.specs.Spaces.{trim_span}
use Rattle.verdicts.specs.Kinds.{flag, ctd_flag, kind_of, code_of}
use Rattle.verdicts.specs.Judge.{judge, judged_of}
use Rattle.text.specs.Reading.{reading_of}
use Rattle.verdicts.specs.Verdicts.{size_of}
use Rattle.format.specs.declared.FileKind.{FileKind}
use Rattle.format.specs.declared.FileKind.TheVariants.{Unknown, Bottle, Ctd}
use Rattle.format.specs.declared.Checked.{Checked}
use Rattle.format.specs.declared.Flagged.{Flagged}
use Rattle.format.specs.declared.CellPlace.{CellPlace}
use Rattle.format.specs.Columns.{Sort, bottle, ctd, kinds_of}
use Rattle.format.specs.Places.{Table, Outcome, accepted, refused, outcome_of}
use Rattle.format.specs.Grid.{starts, nowhere, span_in}
use Rattle.format.specs.Profiles.{grid, missing_in_rows, key_of, run_count}

-- the rows of an accepted file: the n data lines after those that stand before the first
abbrev pub rows_in : Table → ℕ → List ℕ → List (List (List ℕ))
rows_in t n f = take n (drop t.line (grid f))

-- the missing readings: the row and measured column pairs that read as missing
abbrev pub missing_of : Table → ℕ → List ℕ → ℕ
missing_of t n f = missing_in_rows (kinds_of t.names) (rows_in t n f)

-- the profiles of a file: the runs of equal keys in a bottle file, one in a CTD file
abbrev pub profiles_by : Sort → ℕ → ℕ
profiles_by bottle n = n
profiles_by ctd n = 1

abbrev pub profiles_of : Table → ℕ → List ℕ → ℕ
profiles_of t n f = profiles_by t.sort (run_count (map (key_of (kinds_of t.names)) (rows_in t n f)))

-- the kind of file in the check's answer
abbrev pub kind_by : Sort → FileKind
kind_by bottle = Bottle
kind_by ctd = Ctd

-- the check's answer: accepted with kind and counts, or refused with number, line and column, all else 0 and the kind none
abbrev pub checked_by : List ℕ → Outcome → Checked
checked_by f (accepted t n) = record {
  number = 0;
  line = 0;
  column = 0;
  kind = kind_by t.sort;
  columns = length t.names;
  rows = n;
  profiles = profiles_of t n f;
  missing = missing_of t n f;
}
checked_by f (refused a b c) = record { number = a; line = b; column = c; kind = Unknown; columns = 0; rows = 0; profiles = 0; missing = 0 }

unfoldable pub checked_of : List ℕ → Checked
checked_of f = checked_by f (outcome_of f)

-- ---- a row and a column, from 1 each: those of an accepted file's table, or the file's refusal, or 21
-- row r and column c are there, the table having n rows
abbrev pub is_there : Table → ℕ → ℕ → ℕ → Bool
is_there t n r c = leb 1 r && leb r n && (leb 1 c && leb c (length t.names))

pub data Asked : Type 0 where
  found : Table → Asked
  missed : (number line column : ℕ) → Asked

abbrev pub asked_by : ℕ → ℕ → Outcome → Asked
asked_by r c (accepted t n) = cond (is_there t n r c) (found t) (missed 21 0 0)
asked_by r c (refused a b d) = missed a b d

unfoldable pub asked_of : List ℕ → ℕ → ℕ → Asked
asked_of f r c = asked_by r c (outcome_of f)

-- the kind of column c, the cells of row r, the text of a cell and its place, all with its spaces
abbrev pub kind_at : Table → ℕ → ℕ
kind_at t c = get_or (kinds_of t.names) (c - 1) 0

abbrev pub row_cells : Table → List ℕ → ℕ → List (List ℕ)
row_cells t f r = get_or (grid f) (t.line + (r - 1)) []

abbrev pub cell_text : Table → List ℕ → ℕ → ℕ → List ℕ
cell_text t f r c = get_or (row_cells t f r) (c - 1) []

abbrev pub cell_place : Table → List ℕ → ℕ → ℕ → Span
cell_place t f r c = span_in (starts (map length (pieces line_feed f)) (t.line + (r - 1))) (row_cells t f r) (c - 1)

-- a cell handed out: the trimmed part; refused: the empty part at the file's start
abbrev pub trimmed_place : List ℕ → Span → Span
trimmed_place f p = trim_span f p.start (p.start + p.len)

abbrev pub cell_by : List ℕ → ℕ → ℕ → Asked → Span
cell_by f r c (found t) = trimmed_place f (cell_place t f r c)
cell_by f r c (missed a b d) = nowhere

unfoldable pub cell_of : List ℕ → ℕ → ℕ → Span
cell_of f r c = cell_by f r c (asked_of f r c)

-- its refusal: number, line and column, 0 each where there is none
abbrev pub refusal_by : Asked → List ℕ
refusal_by (found t) = 0 ∷ 0 ∷ 0 ∷ []
refusal_by (missed a b d) = a ∷ b ∷ d ∷ []

-- the place of a cell handed out and its refusal in one
abbrev pub place_by : Span → Asked → CellPlace
place_by p (found t) = record { number = 0; line = 0; column = 0; place = p }
place_by p (missed a b d) = record { number = a; line = b; column = d; place = p }

unfoldable pub place_for : List ℕ → ℕ → ℕ → CellPlace
place_for f r c = place_by (cell_of f r c) (asked_of f r c)

-- a decimal's reading: of a measured, LATITUDE, LONGITUDE or DEPTH column; 22 for another
abbrev pub reading_by : List ℕ → ℕ → ℕ → Asked → Reading
reading_by f r c (found t) = reading_of (kind_at t c) (judged_of 0 (judge (kind_of (kind_at t c)) (cell_text t f r c)))
reading_by f r c (missed a b d) = Refused a b d

unfoldable pub reading_for : List ℕ → ℕ → ℕ → Reading
reading_for f r c = reading_by f r c (asked_of f r c)

-- a flag: of a flag column; 22 for another; 0 where refused
abbrev pub flagged_by : List ℕ → ℕ → ℕ → Asked → Flagged
flagged_by f r c (found t) =
    cond (eqb (kind_at t c) (code_of flag) || eqb (kind_at t c) (code_of ctd_flag))
    (record { number = 0; line = 0; column = 0; flag = size_of (judge (kind_of (kind_at t c)) (cell_text t f r c)) })
    (record { number = 22; line = 0; column = 0; flag = 0 })
flagged_by f r c (missed a b d) = record { number = a; line = b; column = d; flag = 0 }

unfoldable pub flagged_of : List ℕ → ℕ → ℕ → Flagged
flagged_of f r c = flagged_by f r c (asked_of f r c)
