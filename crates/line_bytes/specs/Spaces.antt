-- Document 01, "Lines": spaces (20) at both ends of a cell, names too, have no meaning.
-- A trimmed cell that is all spaces is the empty part at the cell's start.
use Rattle.std.specs.Prelude.{ℕ, ◌+◌, ◌-◌, ◌≡◌, List, [], ◌∷◌, cond, ◌&&◌, length, take, drop, leb}
use Rattle.std.proofs.Math.Seq.{slice}
use Rattle.std.specs.Borrow.{Bor}
use Rattle.line_bytes.specs.declared.Span.{Span}
use Rattle.line_bytes.specs.Bytes.{is_space}

-- without the spaces at the front
unfoldable pub trim_front : List ℕ → List ℕ
trim_front [] = []
trim_front (x ∷ xs) = cond (is_space x) (trim_front xs) (x ∷ xs)

-- without the spaces at the end
unfoldable pub keep : ℕ → List ℕ → List ℕ
keep x [] = cond (is_space x) [] (x ∷ [])
keep x (y ∷ ys) = x ∷ (y ∷ ys)

unfoldable pub trim_end : List ℕ → List ℕ
trim_end [] = []
trim_end (x ∷ xs) = keep x (trim_end xs)

-- without the spaces at both ends
unfoldable pub trim : List ℕ → List ℕ
trim t = trim_front (trim_end t)

-- how many spaces stand before the trimmed text; none where all are spaces
unfoldable pub indent : List ℕ → ℕ
indent t = length (trim_end t) - length (trim t)

-- the place of the bytes of s from a to e, trimmed; the empty part at the start of s where s has no such bytes
unfoldable pub trim_span : List ℕ → ℕ → ℕ → Span
trim_span s a e =
    cond (leb a e && leb e (length s))
    (record { start = a + indent (slice a e s); len = length (trim (slice a e s)) })
    (record { start = 0; len = 0 })

-- the reference r is the part of the reference s at the span p: its place in the lent memory, and its bytes
pub record IsPart (s r : Bor (List ℕ)) (p : Span) : Type 0 where
  pub block : r.ref_ptr.0 ≡ s.ref_ptr.0
  pub offset : r.ref_ptr.1 ≡ s.ref_ptr.1 + p.start
  pub content : r.now ≡ take p.len (drop p.start s.now)
