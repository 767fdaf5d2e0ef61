-- The words of the contracts of the functions that put a text into lent bytes, from the right.
use Rattle.std.specs.Prelude.{ℕ, ◌+◌, ◌≤◌, ◌≡◌, List, length}
use Rattle.line_bytes.specs.declared.Span.{Span}
use Rattle.numbers.specs.Patches.{patch}

-- there is room in f for a text that ends at e
pub record Room (f : List ℕ) (e : ℕ) (t : List ℕ) : Type 0 where
  pub fits : length t ≤ e
  pub inside : e ≤ length f

-- f with the text t put just before e, where it starts at a
pub record PutBefore (f : List ℕ) (e : ℕ) (t g : List ℕ) (a : ℕ) : Type 0 where
  pub starts : a + length t ≡ e
  pub bytes : g ≡ patch f a t

-- the cell at a place of f is wide enough for the text t
pub record InCell (f : List ℕ) (p : Span) (t : List ℕ) : Type 0 where
  pub fits : length t ≤ p.len
  pub inside : p.start + p.len ≤ length f
