-- Document 01, "Lines", data lines: at most 1,000,000 (H), as many cells as the names line, each of its column's kind. On one line: 20, 15, then cell by
-- cell 17, 16, 18.
use Rattle.std.specs.Prelude.{ℕ, ◌+◌, List, [], ◌∷◌, ◌++◌, Bool, length, eqb, ltb}
use Rattle.line_bytes.specs.Bytes.{bytes, equal}
use Rattle.verdicts.specs.Kinds.{kind_of}
use Rattle.verdicts.specs.Judge.{judge}
use Rattle.format.specs.Faults.{Fault, unless, kind_fault}
use Rattle.format.specs.Columns.{kinds_of}

-- the cells from the one at column c on, by their columns' kinds: 17, 16 or 18 of each
unfoldable pub cell_rules : ℕ → List ℕ → List (List ℕ) → List Fault
cell_rules c [] ts = []
cell_rules c (k ∷ ks) [] = []
cell_rules c (k ∷ ks) (t ∷ ts) = kind_fault (judge (kind_of k) t) c ∷ cell_rules (c + length t + 1) ks ts

-- a row's cells, by their columns' kinds: 15 comes first
unfoldable pub row_rules : List ℕ → List (List ℕ) → List Fault
row_rules ks ts = unless (eqb (length ts) (length ks)) 15 1 ∷ cell_rules 1 ks ts

-- what binds the good cells of a row together, the columns being of these names: nothing in document 01; request [5] of document 02 has its rule here
unfoldable pub bound_rules : List (List ℕ) → List (List ℕ) → List Fault
bound_rules ns ts = []

-- a data line after n others: 20, 15, then cell by cell
unfoldable pub data_line_rules : ℕ → List (List ℕ) → List (List ℕ) → List Fault
data_line_rules n ns ts = unless (ltb n 1000000) 20 1 ∷ row_rules (kinds_of ns) ts ++ bound_rules ns ts

-- a line that is exactly END_DATA
abbrev pub is_end_data : List ℕ → Bool
is_end_data x = equal x (bytes "END_DATA")
