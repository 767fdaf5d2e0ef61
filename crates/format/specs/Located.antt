-- Document 01, "The words of demand 3": a measurement's cells are its value cell and, if there is one, that row's cell in its flag column.
-- What the correcting part asks of a file: where these cells stand, with their spaces, and what column they are of.
use Rattle.std.specs.Prelude.{ℕ, ◌-◌, List, [], ◌∷◌, Bool, false, cond, get_or, eqb, ltb}
use Rattle.line_bytes.specs.declared.Span.{Span}
use Rattle.line_bytes.specs.Names.{begins_ctd}
use Rattle.verdicts.specs.Kinds.{measured, code_of}
use Rattle.format.specs.declared.Located.{Located}
use Rattle.format.specs.Columns.{flags_of}
use Rattle.format.specs.Places.{Table, Outcome, accepted, refused, outcome_of}
use Rattle.format.specs.Grid.{nowhere}
use Rattle.format.specs.Answers.{Asked, found, missed, asked_of, kind_at, cell_place}

-- the name of column c, counted from 1; whether it is measured; the column of its flags, 0 where it has none
abbrev pub name_at : Table → ℕ → List ℕ
name_at t c = get_or t.names (c - 1) []

abbrev pub is_measured : Table → ℕ → Bool
is_measured t c = eqb (kind_at t c) (code_of measured)

unfoldable pub flag_column : Table → ℕ → ℕ
flag_column t c = get_or (flags_of t.names) (c - 1) 0

abbrev pub has_flag : Table → ℕ → Bool
has_flag t c = ltb 0 (flag_column t c)

-- the cell of row r in the flag column of column c
abbrev pub flag_place : Table → List ℕ → ℕ → ℕ → Span
flag_place t f r c = cond (has_flag t c) (cell_place t f r (flag_column t c)) nowhere

-- a measurement's cells (a term of document 01), by their places in the file
unfoldable pub measurement_cells : Table → List ℕ → ℕ → ℕ → List Span
measurement_cells t f r c = cell_place t f r c ∷ cond (has_flag t c) (flag_place t f r c ∷ []) []

-- what the call says of row r and column c, or the refusal
abbrev pub located_by : List ℕ → ℕ → ℕ → Asked → Located
located_by f r c (found t) = record {
  number = 0;
  line = 0;
  column = 0;
  value = cell_place t f r c;
  measured = is_measured t c;
  ctd = begins_ctd (name_at t c);
  flagged = has_flag t c;
  flag = flag_place t f r c;
}
located_by f r c (missed a b d) = record { number = a; line = b; column = d; value = nowhere; measured = false; ctd = false; flagged = false; flag = nowhere }

unfoldable pub located_of : List ℕ → ℕ → ℕ → Located
located_of f r c = located_by f r c (asked_of f r c)

-- of any file: the column of the flags of column c, and the cells of the measurement at row r and column c; none where the file is refused
abbrev pub flag_column_by : ℕ → Outcome → ℕ
flag_column_by c (accepted t n) = flag_column t c
flag_column_by c (refused a b d) = 0

abbrev pub flag_column_of : List ℕ → ℕ → ℕ
flag_column_of f c = flag_column_by c (outcome_of f)

abbrev pub cells_by : List ℕ → ℕ → ℕ → Outcome → List Span
cells_by f r c (accepted t n) = measurement_cells t f r c
cells_by f r c (refused a b d) = []

abbrev pub cells_of : List ℕ → ℕ → ℕ → List Span
cells_of f r c = cells_by f r c (outcome_of f)
