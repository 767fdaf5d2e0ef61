-- Document 01, "Lines": the names and units of a file's columns and the headers of a CTD file, handed out by their places; and a column by its name.
-- Refusals: the file's own; 21, no such column, header or name. Columns and headers count from 1; NUMBER_HEADERS is header 1.
use Rattle.std.specs.Prelude.{ℕ, ◌+◌, ◌-◌, List, [], ◌∷◌, cond, ◌&&◌, length, get_or, eqb, leb}
use Rattle.line_bytes.specs.declared.Span.{Span}
use Rattle.line_bytes.specs.Bytes.{line_feed}
use Rattle.line_bytes.specs.Cells.{pieces}
use Rattle.format.specs.declared.CellPlace.{CellPlace}
use Rattle.format.specs.declared.HeaderPlace.{HeaderPlace}
use Rattle.format.specs.declared.Named.{Named}
use Rattle.format.specs.Headers.{raw_name}
use Rattle.format.specs.NamesLine.{number_among}
use Rattle.format.specs.Places.{Table, Outcome, accepted, refused, outcome_of}
use Rattle.format.specs.Grid.{nowhere, span_in}
use Rattle.format.specs.Profiles.{grid}
use Rattle.format.specs.Answers.{trimmed_place}
use Rattle.format.specs.Records.{headers_line, header_place, no_place}
use Rattle.format.specs.Opened.{line_begin, names_line}

-- ---- the number of the column of a name, compared as it is; 21 where no column has it
abbrev pub none_named : ℕ → ℕ → ℕ → Named
none_named a b c = record { number = a; line = b; column = c; place = 0 }

abbrev pub named_at : ℕ → Named
named_at k = cond (eqb k 0) (none_named 21 0 0) (record { number = 0; line = 0; column = 0; place = k })

abbrev pub named_by : List ℕ → Outcome → Named
named_by name (accepted t n) = named_at (number_among name t.names)
named_by name (refused a b c) = none_named a b c

unfoldable pub named_of : List ℕ → List ℕ → Named
named_of f name = named_by name (outcome_of f)

-- ---- the trimmed cell of column c in line l of the file, the lines counted from 0, by its place; 21 where there is no such column
abbrev pub label_at : Table → List ℕ → ℕ → ℕ → CellPlace
label_at t f l c =
    cond (leb 1 c && leb c (length t.names))
    (record { number = 0; line = 0; column = 0; place = trimmed_place f (span_in (line_begin f l) (get_or (grid f) l []) (c - 1)) })
    (no_place 21 0 0)

-- its name, from the names line
abbrev pub name_by : List ℕ → ℕ → Outcome → CellPlace
name_by f c (accepted t n) = label_at t f (names_line t) c
name_by f c (refused a b d) = no_place a b d

unfoldable pub name_place : List ℕ → ℕ → CellPlace
name_place f c = name_by f c (outcome_of f)

-- its unit, from the units line, the last before the data; it may be empty
abbrev pub unit_by : List ℕ → ℕ → Outcome → CellPlace
unit_by f c (accepted t n) = label_at t f (t.line - 1) c
unit_by f c (refused a b d) = no_place a b d

unfoldable pub unit_place : List ℕ → ℕ → CellPlace
unit_place f c = unit_by f c (outcome_of f)

-- ---- header k of a CTD file: what stands before its first =, and after it, both trimmed; 21 where there is no such header, as in a bottle file
abbrev pub header_name_place : List ℕ → ℕ → Span
header_name_place f l = record { start = line_begin f l; len = length (raw_name (get_or (pieces line_feed f) l [])) }

abbrev pub no_header : ℕ → ℕ → ℕ → HeaderPlace
no_header a b c = record { number = a; line = b; column = c; name = nowhere; value = nowhere }

abbrev pub header_at : List ℕ → ℕ → HeaderPlace
header_at f l = record {
  number = 0;
  line = 0;
  column = 0;
  name = trimmed_place f (header_name_place f l);
  value = trimmed_place f (header_place f l);
}

abbrev pub header_by : List ℕ → ℕ → Outcome → HeaderPlace
header_by f k (accepted t n) = cond (leb 1 k && leb k (length t.headers)) (header_at f (headers_line t + (k - 1))) (no_header 21 0 0)
header_by f k (refused a b c) = no_header a b c

unfoldable pub header_for : List ℕ → ℕ → HeaderPlace
header_for f k = header_by f k (outcome_of f)

-- ---- the refusal beside a part handed out: number, line and column, 0 each where there is none
abbrev pub place_refusal : CellPlace → List ℕ
place_refusal p = p.number ∷ p.line ∷ p.column ∷ []

abbrev pub header_refusal : HeaderPlace → List ℕ
header_refusal p = p.number ∷ p.line ∷ p.column ∷ []
