-- The words of the laws about a row written: a file put together from its lines and cells, and texts written into the cells of a row. No promise cites them.
use Rattle.std.specs.Prelude.{ℕ, List, [], ◌∷◌, ◌++◌, map, set}
use Rattle.line_bytes.specs.Bytes.{comma, line_feed}

-- pieces put together again, one byte c between each two; and lines of cells put together to a file
unfoldable pub join_later : ℕ → List (List ℕ) → List ℕ
join_later c [] = []
join_later c (p ∷ ps) = c ∷ (p ++ join_later c ps)

unfoldable pub join : ℕ → List (List ℕ) → List ℕ
join c [] = []
join c (p ∷ ps) = p ++ join_later c ps

abbrev pub ungrid : List (List (List ℕ)) → List ℕ
ungrid g = join line_feed (map (join comma) g)

-- a text for the cell of a column, from 0; such texts written into the cells of a row, one after the other
pub record Write : Type 0 where
  pub col : ℕ
  pub text : List ℕ

unfoldable pub written : List (List ℕ) → List Write → List (List ℕ)
written ts [] = ts
written ts (w ∷ ws) = written (set ts w.col w.text) ws
