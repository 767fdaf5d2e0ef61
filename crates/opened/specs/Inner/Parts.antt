-- The words of the contract of a cell looked for in a line; no promise of a public call cites them.
use Rattle.std.specs.Prelude.{ℕ, ◌+◌, ◌-◌, List, cond, length, Option, Some, None}
use Rattle.line_bytes.specs.Cells.{line_at}
use Rattle.format.specs.Inner.Grid.{cell_span}
use Rattle.format.specs.ByPlace.{line_after, has_cell}
use Rattle.opened.specs.declared.Part.{Part}

-- column c of the line at i, with its spaces, and the line's line feed; none where there is no such cell
abbrev pub part_there : List ℕ → ℕ → ℕ → Part
part_there s i c = record { start = (cell_span s i (c - 1)).start; len = (cell_span s i (c - 1)).len; feed = i + length (line_at s i); next = line_after s i }

unfoldable pub part_of : List ℕ → ℕ → ℕ → Option Part
part_of s i c = cond (has_cell s i c) (Some (part_there s i c)) None
