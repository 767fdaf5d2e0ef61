-- Document 01, "Lines": the cells of a line by the place where it goes on, for callers that go row by row in a file opened before; total on any bytes and any
-- place. Only a line that has its line feed has cells. On an opened file, at the place of a row, these are the single calls' answers (laws: OpenedReads).
use Rattle.std.specs.Prelude.{ℕ, ◌+◌, ◌-◌, min, List, [], Bool, cond, ◌&&◌, ◌||◌, length, get_or, eqb, leb, ltb}
use Rattle.line_bytes.specs.Bytes.{comma}
use Rattle.line_bytes.specs.Cells.{line_at, pieces}
use Rattle.verdicts.specs.Kinds.{flag, ctd_flag, kind_of, code_of}
use Rattle.verdicts.specs.Verdicts.{Verdict, number_of, size_of}
use Rattle.verdicts.specs.Judge.{judge, judged_of}
use Rattle.text.specs.declared.Reading.{Reading}
use Rattle.text.specs.declared.Reading.TheVariants.{Refused}
use Rattle.text.specs.Reading.{reading_of}
use Rattle.format.specs.declared.CellPlace.{CellPlace}
use Rattle.format.specs.declared.Flagged.{Flagged}
use Rattle.format.specs.declared.DecimalStep.{DecimalStep}
use Rattle.format.specs.declared.FlagStep.{FlagStep}
use Rattle.format.specs.Grid.{span_in}
use Rattle.format.specs.Answers.{trimmed_place}
use Rattle.format.specs.Opened.{line_begin}
use Rattle.format.specs.Places.{Outcome, accepted, refused, outcome_of}
use Rattle.format.specs.Records.{no_place}

-- where row r of a file starts, the rows counted from 1; the row after the last starts where its last line goes on
abbrev pub row_start_by : List ℕ → ℕ → Outcome → ℕ
row_start_by f r (accepted t n) = line_begin f (t.line + (r - 1))
row_start_by f r (refused a b c) = 0

unfoldable pub row_start : List ℕ → ℕ → ℕ
row_start f r = row_start_by f r (outcome_of f)

-- where the line after the one at i starts; the file's end where there is none
unfoldable pub line_after : List ℕ → ℕ → ℕ
line_after f i = min (i + length (line_at f i) + 1) (length f)

-- the cells of the line at i; column c, from 1, of them
abbrev pub cells_in : List ℕ → ℕ → List (List ℕ)
cells_in f i = cond (ltb (i + length (line_at f i)) (length f)) (pieces comma (line_at f i)) []

unfoldable pub has_cell : List ℕ → ℕ → ℕ → Bool
has_cell f i c = leb 1 c && leb c (length (cells_in f i))

abbrev pub text_of : List ℕ → ℕ → ℕ → List ℕ
text_of f i c = get_or (cells_in f i) (c - 1) []

-- the trimmed cell by its place; 21 where the line has no such cell
unfoldable pub cell_in : List ℕ → ℕ → ℕ → CellPlace
cell_in f i c =
    cond (has_cell f i c)
    (record { number = 0; line = 0; column = 0; place = trimmed_place f (span_in i (cells_in f i) (c - 1)) })
    (no_place 21 0 0)

-- its reading as a decimal of kind k: 21, then 22 for a kind that is no decimal's, then 17, 16, 18 of the text
unfoldable pub decimal_in : List ℕ → ℕ → ℕ → ℕ → Reading
decimal_in f i c k =
    cond (has_cell f i c)
    (reading_of k (judged_of 0 (judge (kind_of k) (text_of f i c))))
    (Refused 21 0 0)

-- its flag, of kind k, in the same order
abbrev pub no_flag : ℕ → Flagged
no_flag n = record { number = n; line = 0; column = 0; flag = 0 }

abbrev pub flag_by : Verdict → Flagged
flag_by v = record { number = number_of v; line = 0; column = 0; flag = size_of v }

unfoldable pub flag_in : List ℕ → ℕ → ℕ → ℕ → Flagged
flag_in f i c k =
    cond (has_cell f i c)
    (cond (eqb k (code_of flag) || eqb k (code_of ctd_flag)) (flag_by (judge (kind_of k) (text_of f i c))) (no_flag 22))
    (no_flag 21)

-- a reading or a flag, and where the next line starts
abbrev pub decimal_step : List ℕ → ℕ → ℕ → ℕ → DecimalStep
decimal_step f i c k = record { reading = decimal_in f i c k; next = line_after f i }

abbrev pub flag_step : List ℕ → ℕ → ℕ → ℕ → FlagStep
flag_step f i c k = record { flagged = flag_in f i c k; next = line_after f i }
