-- Texts laid out in lent room: each byte at the next place, as far as the room goes.
use Rattle.std.specs.Prelude.{ℕ, ◌+◌, List, [], ◌∷◌, cond, length, set, ltb}

-- the bytes of the room, and the place of the next byte
pub record Page : Type 0 where
  pub room : List ℕ
  pub at : ℕ

abbrev pub page : List ℕ → ℕ → Page
page s n = record { room = s; at = n }

unfoldable pub lay_byte : Page → ℕ → Page
lay_byte p x = cond (ltb p.at (length p.room)) (page (set p.room p.at x) (p.at + 1)) p

unfoldable pub lay : Page → List ℕ → Page
lay p [] = p
lay p (x ∷ xs) = lay (lay_byte p x) xs
