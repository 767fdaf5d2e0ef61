-- Document 01, "A correction": text and flag digit are set at the right of their cells, spaces to the left. A cell is a place of the bytes of a file.
use Rattle.std.specs.Prelude.{ℕ, ◌+◌, List, ◌++◌, Bool, cond, ◌&&◌, length, take, drop, leb}
use Rattle.line_bytes.specs.declared.Span.{Span}
use Rattle.numbers.specs.Texts.{text_of, flag_text, at_right}

-- the bytes of f at a place
abbrev pub text_at : List ℕ → Span → List ℕ
text_at f p = take p.len (drop p.start f)

-- the bytes of f from a on replaced by a text
unfoldable pub patch : List ℕ → ℕ → List ℕ → List ℕ
patch f a t = take a f ++ (t ++ drop (a + length t) f)

-- the cell at p lies inside n bytes, and a text of k bytes is not too long for it
abbrev pub has_room : ℕ → Span → ℕ → Bool
has_room n p k = leb k p.len && leb (p.start + p.len) n

-- a text set at the right of the cell at p of f, where there is room; else not one byte changes
unfoldable pub text_set : List ℕ → Span → List ℕ → List ℕ
text_set f p t = cond (has_room (length f) p (length t)) (patch f p.start (at_right p.len t)) f

-- a number of that sign and size, in millionths, with d decimals; with more than 6 it has no text
abbrev pub number_set : List ℕ → Span → Bool → ℕ → ℕ → List ℕ
number_set f p minus n d = cond (leb d 6) (text_set f p (text_of minus n d)) f

-- a digit; above 9 there is none
abbrev pub digit_set : List ℕ → Span → ℕ → List ℕ
digit_set f p v = cond (leb v 9) (text_set f p (flag_text v)) f
