-- Document 02, [3]: "Prove that a sequence is taken exactly if a row takes it." The term stands in proofs/TakenLaws.
use Rattle.std.specs.Prelude.{ℕ, ◌≤◌, ◌≡◌, ◌⊎◌, ◌↔◌, true, List, [], ◌∷◌, length}
use Rattle.utf8.specs.Syntax.{Range, alternatives, takes, character_in, character}
use Rattle.utf8.specs.Rows.{rows_in}

-- one of the rows takes the bytes, and it is n long
abbrev pub TakenBy : List (List Range) → List ℕ → ℕ → Type 0
TakenBy [] xs n = ⊥
TakenBy (a ∷ others) xs n = ((takes a xs ≡ true) × (length a ≡ n)) ⊎ TakenBy others xs n

-- the bytes begin with a character of n bytes exactly if a row takes them, whichever it is, and is n long
pub record TakenExactly : Type 0 where
  -- the character of rule 3
  pub rule : (xs : List ℕ) (n : ℕ) → ((character xs ≡ n) × (1 ≤ n)) ↔ TakenBy alternatives xs n
  -- the answer of the call, on a table whose rows are the alternatives
  pub call : (t : List (List ℕ)) → rows_in t ≡ alternatives → (xs : List ℕ) (n : ℕ) → ((character_in (rows_in t) xs ≡ n) × (1 ≤ n)) ↔ TakenBy (rows_in t) xs n
