-- The words of the contracts of names, units and headers by their places; no promise of a public call cites them.
use Rattle.std.specs.Prelude.{ℕ, ◌+◌, ◌-◌, ◌<◌, List, cond, ◌&&◌, length, leb}
use Rattle.line_bytes.specs.Cells.{line_at}
use Rattle.format.specs.declared.CellPlace.{CellPlace}
use Rattle.format.specs.declared.HeaderPlace.{HeaderPlace}
use Rattle.format.specs.Headers.{raw_name}
use Rattle.format.specs.Answers.{trimmed_place}
use Rattle.format.specs.Records.{no_place}
use Rattle.format.specs.Inner.Grid.{cell_span}
use Rattle.line_bytes.specs.Spaces.{trim_span}

-- the trimmed cell of column c, counted from 1, of the line that starts at i, by its place; 21 where c is none of n columns
unfoldable pub label_in : List ℕ → ℕ → ℕ → ℕ → CellPlace
label_in s i c n =
    cond (leb 1 c && leb c n)
    (record { number = 0; line = 0; column = 0; place = trimmed_place s (cell_span s i (c - 1)) })
    (no_place 21 0 0)

-- the line that starts at i has its line feed, and an = before that
pub record HasEquals (s : List ℕ) (i : ℕ) : Type 0 where
  pub before : length (raw_name (line_at s i)) < length (line_at s i)
  pub fed : i + length (line_at s i) < length s

-- the name and the value of the header line that starts at i, by their places
abbrev pub header_in : List ℕ → ℕ → HeaderPlace
header_in s i = record {
  number = 0;
  line = 0;
  column = 0;
  name = trim_span s i (i + length (raw_name (line_at s i)));
  value = trim_span s (i + length (raw_name (line_at s i)) + 1) (i + length (line_at s i));
}
