-- Document 02, request [13]: a walker "hands out the next trimmed cell". The cell that starts at i, by place: it ends at a comma, at a line feed or at the end of
-- the bytes, so the next one starts one byte after its end. Total on any bytes and any place.
use Rattle.std.specs.Prelude.{ℕ, List}
use Rattle.line_bytes.specs.Bytes.{comma}
use Rattle.line_bytes.specs.Cells.{cell_end}
use Rattle.line_bytes.specs.Spaces.{trim_span}
use Rattle.next_cell.specs.declared.CellAfter.{CellAfter}

abbrev pub cell_after : List ℕ → ℕ → CellAfter
cell_after f i = record { place = trim_span f i (cell_end comma f i); stop = cell_end comma f i }
