-- Document 01, "Lines": a file opened, for callers that then read its lines: the check's answer, and where its headers, its names line and its first data line
-- start.
use Rattle.std.specs.Prelude.{ℕ, ◌-◌, List, map, length}
use Rattle.line_bytes.specs.Bytes.{line_feed}
use Rattle.line_bytes.specs.Cells.{pieces}
use Rattle.format.specs.declared.Opened.{Opened}
use Rattle.format.specs.Places.{Table, Outcome, accepted, refused, outcome_of}
use Rattle.format.specs.Grid.{starts}
use Rattle.format.specs.Answers.{checked_by}
use Rattle.format.specs.Records.{headers_line}

-- where a line starts, the lines counted from 0
abbrev pub line_begin : List ℕ → ℕ → ℕ
line_begin f l = starts (map length (pieces line_feed f)) l

-- the names line is the one before the units line, which is the last before the data
abbrev pub names_line : Table → ℕ
names_line t = t.line - 2

-- the headers start where the names line does if there are none
abbrev pub opened_by : List ℕ → Outcome → Opened
opened_by f (accepted t n) = record {
  checked = checked_by f (accepted t n);
  headers = line_begin f (headers_line t);
  names = line_begin f (names_line t);
  first = line_begin f t.line;
}
opened_by f (refused a b c) = record { checked = checked_by f (refused a b c); headers = 0; names = 0; first = 0 }

unfoldable pub opened_of : List ℕ → Opened
opened_of f = opened_by f (outcome_of f)
