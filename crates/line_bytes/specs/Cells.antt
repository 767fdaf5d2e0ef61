-- Document 01, "Lines": a line is the bytes up to a line feed (0A); its cells are parted by commas.
use Rattle.std.specs.Prelude.{ℕ, ◌+◌, List, [], ◌∷◌, Bool, cond, ◌||◌, length, drop, eqb}
use Rattle.line_bytes.specs.Bytes.{tab, line_feed, comma}

-- a list cut at the byte c: its first piece, the pieces after that one, and all of them
unfoldable pub first_piece : ℕ → List ℕ → List ℕ
first_piece c [] = []
first_piece c (x ∷ xs) = cond (eqb x c) [] (x ∷ first_piece c xs)

unfoldable pub later_pieces : ℕ → List ℕ → List (List ℕ)
later_pieces c [] = []
later_pieces c (x ∷ xs) = cond (eqb x c) (first_piece c xs ∷ later_pieces c xs) (later_pieces c xs)

abbrev pub pieces : ℕ → List ℕ → List (List ℕ)
pieces c xs = first_piece c xs ∷ later_pieces c xs

-- the line that goes on at i
abbrev pub line_at : List ℕ → ℕ → List ℕ
line_at s i = first_piece line_feed (drop i s)

-- the cell that goes on at i, up to the separator c or the line's end; and where it ends
abbrev pub cell_at : ℕ → List ℕ → ℕ → List ℕ
cell_at c s i = first_piece c (line_at s i)

unfoldable pub cell_end : ℕ → List ℕ → ℕ → ℕ
cell_end c s i = i + length (cell_at c s i)

-- what parts cells: a comma, in a correction list a tab, and a line feed where the rest of the line is one cell
abbrev pub separates : ℕ → Bool
separates c = eqb c comma || eqb c line_feed || eqb c tab
