-- Document 02, request [13]: the walker itself, a lent file with a cursor.
use Rattle.std.specs.Prelude.{List, ℕ}
use Rattle.std.specs.Borrow.{Bor}
use Rattle.line_bytes.specs.declared.Span.{Span}
use Rattle.cursors.specs.declared.Walker.{Walker}
use Rattle.cursors.specs.Walk.{open_of, step_of, part_of}

abbrev pub opened_on : Bor (List ℕ) → Walker
opened_on f = record { file = f; cursor = open_of f.now }

abbrev pub walked_on : Walker → Walker
walked_on w = record { file = w.file; cursor = step_of w.file.now w.cursor }

abbrev pub part_in : Walker → Span
part_in w = part_of w.file.now w.cursor
