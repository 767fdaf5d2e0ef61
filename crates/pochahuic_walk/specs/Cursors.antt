-- Document 02, request [13]: a walk's cursor as ten numbers, for programs in other languages: number, line and column of the file's refusal, the cell's start and
-- length, as the answer for a single cell is given; its row and column; and what the walk needs to go on: where the cell ends with its spaces, and the rows and
-- columns of the file.
use Rattle.std.specs.Prelude.{ℕ, ◌≡◌, List, [], ◌∷◌, get_or}
use Rattle.cursors.specs.declared.Cursor.{Cursor}

abbrev pub cursor_numbers : Cursor → List ℕ
cursor_numbers x = x.cell.number ∷ x.cell.line ∷ x.cell.column ∷ x.cell.place.start ∷ x.cell.place.len ∷ x.row ∷ x.column ∷ x.stop ∷ x.rows ∷ x.columns ∷ []

-- and back
abbrev pub cursor_of : List ℕ → Cursor
cursor_of ns = record {
  cell = record { number = get_or ns 0 0; line = get_or ns 1 0; column = get_or ns 2 0; place = record { start = get_or ns 3 0; len = get_or ns 4 0 } };
  stop = get_or ns 7 0;
  row = get_or ns 5 0;
  column = get_or ns 6 0;
  rows = get_or ns 8 0;
  columns = get_or ns 9 0;
}

-- a cursor handed out as numbers and lent again is the same, so a walk by numbers is the walk. A term stands in proofs/CursorLaws.
abbrev pub KeepsCursor : Type 0
KeepsCursor = (x : Cursor) → cursor_of (cursor_numbers x) ≡ x
