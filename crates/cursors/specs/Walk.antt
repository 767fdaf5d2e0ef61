-- Document 02, request [13]: "Add a walker that holds the lent file and its place in it, opened once by a full check, and hands out the next trimmed cell with row
-- and column, to the end." A cursor is that place, as a value. What a cursor gives that was not made by these steps is open there; it is fixed here too.
use Rattle.std.specs.Prelude.{ℕ, ◌+◌, ◌-◌, List, cond, ◌&&◌, ◌||◌, length, eqb, leb, ltb}
use Rattle.line_bytes.specs.declared.Span.{Span}
use Rattle.format.specs.declared.Checked.{Checked}
use Rattle.format.specs.declared.Opened.{Opened}
use Rattle.format.specs.Grid.{nowhere}
use Rattle.format.specs.Opened.{opened_of}
use Rattle.format.specs.Records.{no_place}
use Rattle.next_cell.specs.declared.CellAfter.{CellAfter}
use Rattle.next_cell.specs.After.{cell_after}
use Rattle.cursors.specs.declared.Cursor.{Cursor}

-- gone on to a cell, of row r and column c
abbrev pub on_cell : Cursor → CellAfter → ℕ → ℕ → Cursor
on_cell x a r c = record {
  cell = record { number = x.cell.number; line = x.cell.line; column = x.cell.column; place = a.place };
  stop = a.stop;
  row = r;
  column = c;
  rows = x.rows;
  columns = x.columns;
}

-- "At the end, and ever after, it says so, with row and column 0 and the empty part at the file's start"; it carries the file's refusal and its counts of rows and
-- columns: a cursor at its end, and that of a file by the check's answer
abbrev pub at_end : Cursor → Cursor
at_end x = on_cell x (record { place = nowhere; stop = 0 }) 0 0

abbrev pub ended : Checked → Cursor
ended x = record { cell = no_place x.number x.line x.column; stop = 0; row = 0; column = 0; rows = x.rows; columns = x.columns }

-- opened: on the first cell of the first data line; "the file's own" refusal "at opening; that walker carries it and is at its end"
abbrev pub open_by : List ℕ → Opened → Cursor
open_by f o = cond (eqb o.checked.number 0) (on_cell (ended o.checked) (cell_after f o.first) 1 1) (ended o.checked)

unfoldable pub open_of : List ℕ → Cursor
open_of f = open_by f (opened_of f)

-- a step: the next cell, which starts after the comma or the line feed where the last one ended; it is the row's next, or the first of the next row; after the
-- last cell, and where the file has no more bytes, the end, which stays
abbrev pub goes_on : List ℕ → Cursor → ℕ → ℕ → Cursor
goes_on f x r c = on_cell x (cell_after f (x.stop + 1)) r c

unfoldable pub step_of : List ℕ → Cursor → Cursor
step_of f x =
    cond (eqb x.row 0 || leb (length f) x.stop)
    (at_end x)
    (cond (ltb x.column x.columns) (goes_on f x x.row (x.column + 1)) (cond (ltb x.row x.rows) (goes_on f x (x.row + 1) 1) (at_end x)))

-- the part handed out, by place; the empty part at the file's start where the file has no such place, which only a cursor of another origin can name
unfoldable pub part_of : List ℕ → Cursor → Span
part_of f x = cond (leb x.cell.place.start (length f) && leb x.cell.place.len (length f - x.cell.place.start)) x.cell.place nowhere
