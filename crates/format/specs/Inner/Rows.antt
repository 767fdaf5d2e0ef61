-- The words of the contracts of the data lines' inner functions. No promise of a public call cites them.
use Rattle.std.specs.Prelude.{ℕ, ◌+◌, List, map, take}
use Rattle.line_bytes.specs.Bytes.{comma}
use Rattle.line_bytes.specs.declared.Span.{Span}
use Rattle.verdicts.specs.declared.Keys.{Keys}
use Rattle.line_bytes.specs.Cells.{line_at, pieces}
use Rattle.format.specs.Profiles.{Key}
use Rattle.format.specs.Inner.Lines.{lines_from}
use Rattle.format.specs.Inner.Names.{text_in}

-- ---- the keys of a row by place
-- the trimmed text of a span, and the key that a row's keys stand for
unfoldable pub span_text : List ℕ → Span → List ℕ
span_text s x = text_in s x.start (x.start + x.len)

abbrev pub key_at : List ℕ → Keys → Key
key_at s w = record { expocode = span_text s w.expocode; stnnbr = span_text s w.stnnbr; castno = w.castno }

-- the cells of the line that starts at i
abbrev pub line_cells : List ℕ → ℕ → List (List ℕ)
line_cells s i = pieces comma (line_at s i)

-- ---- the data lines from place i on, by the columns' kinds
abbrev pub rows_from : List ℕ → ℕ → ℕ → List (List (List ℕ))
rows_from s i n = take n (map (pieces comma) (lines_from s i))
