-- Laws of the tables that a reader wants to see stated. A term of each type stands in proofs/PromiseLaws.
use Rattle.std.specs.Prelude.{ℕ, ◌+◌, ◌≤◌, ◌<◌, ◌≡◌, List, length, get_or}
use Rattle.format.specs.Answers.{reading_for}
use Rattle.format.specs.ReadingNumbers.{reading_case}
use Rattle.whole_columns.specs.Columns.{filled_from, values_of}

-- a filled table is as long as before; its first n entries are those of the rows from 1, and the others are as they were
pub record FillsExactly : Type 1 where
  pub long : {A : Type 0} (entry : ℕ → A) (n : ℕ) (xs : List A) → length (filled_from entry 1 n xs) ≡ length xs
  pub given : {A : Type 0} (entry : ℕ → A) (n : ℕ) (xs : List A) (j : ℕ) (d : A) → j < n → j < length xs → get_or (filled_from entry 1 n xs) j d ≡ entry (j + 1)
  pub kept : {A : Type 0} (entry : ℕ → A) (n : ℕ) (xs : List A) (j : ℕ) (d : A) → n ≤ j → get_or (filled_from entry 1 n xs) j d ≡ get_or xs j d

-- every reading of a column that is given is present or missing, and none refused
abbrev pub ValuesRead : Type 0
ValuesRead = (f : List ℕ) (c x y z : ℕ) → (values_of f c x y z).number ≡ 0 → (r : ℕ) → 1 ≤ r → r ≤ (values_of f c x y z).rows → reading_case (reading_for f r c) ≤ 1
