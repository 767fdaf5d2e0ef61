-- Rules 3, 4 and 5 hold of bytes, a comma and more bytes exactly if they hold of both.
--   well_cut, return_cut, control_cut : nowhere (rule (a ++ comma ∷ b)) ≡ (nowhere (rule a) && nowhere (rule b))
use Prim.Native.Nat.{ℕ, zero, suc, pred, ◌≤◌}
use mathlib.Core.Path.{◌≡◌, refl, ◌∙◌}
use mathlib.Core.Bool.{Bool, true, false, cond, not, ◌&&◌}
use mathlib.Core.List.{List, [], ◌∷◌, ◌++◌}
use native.Mathlib.Omega.{arith}
use lib.Dec.{eqb}
use lib.ListN.{length}
use Rattle.std.specs.Prelude.{position, Some}
use Rattle.utf8.specs.Syntax.{character}
use Rattle.utf8.proofs.CharacterLaws.{character_ascii, character_in_lem, character_cut}
use Rattle.line_bytes.specs.Bytes.{comma, every}
use Rattle.line_bytes.specs.Lines.{ill_from, ill_formed, is_return, return_at, is_control, control_at}
use Rattle.line_bytes.proofs.EveryLaws.{every_append, position-every}
pub use Rattle.line_bytes.proofs.EveryLaws.{nowhere}

-- ---- rule 3: a character ends before a comma, which is no tail byte, and has all its bytes
pred_in : (m n : ℕ) → m ≤ suc n → pred m ≤ n
pred_in zero n h = omega arith
pred_in (suc m) n h = omega arith

character_rest : (x : ℕ) (xs : List ℕ) → pred (character (x ∷ xs)) ≤ length xs
character_rest x xs = pred_in (character (x ∷ xs)) (length xs) (character_in_lem (x ∷ xs))

-- where the list's first byte stands does not matter
ill_moved : (xs : List ℕ) (i j k : ℕ) → nowhere (ill_from i k xs) ≡ nowhere (ill_from j k xs)
unfolding ill_from
ill_moved [] i j k = refl
ill_moved (x ∷ xs) i j zero = go (eqb (character (x ∷ xs)) 0) (ill_moved xs (suc i) (suc j) (pred (character (x ∷ xs))))
  where
    n : ℕ
    n = pred (character (x ∷ xs))

    go : (b : Bool) → nowhere (ill_from (suc i) n xs) ≡ nowhere (ill_from (suc j) n xs) → nowhere (cond b (Some i) (ill_from (suc i) n xs)) ≡ nowhere (cond b (Some j) (ill_from (suc j) n xs))
    go true h = refl
    go false h = h
ill_moved (x ∷ xs) i j (suc k) = ill_moved xs (suc i) (suc j) k

ill_cut : (a b : List ℕ) (i k : ℕ) → k ≤ length a → nowhere (ill_from i k (a ++ comma ∷ b)) ≡ (nowhere (ill_from i k a) && nowhere (ill_from 0 0 b))
unfolding ill_from
ill_cut [] b i zero h = rw (character_ascii comma b (omega arith)) (ill_moved b (suc i) 0 0)
ill_cut [] b i (suc k) h = absurd (omega arith)
ill_cut (x ∷ a) b i zero h = rw (character_cut x a b) (go (eqb (character (x ∷ a)) 0) (ill_cut a b (suc i) n (character_rest x a)))
  where
    n : ℕ
    n = pred (character (x ∷ a))

    go : (z : Bool) → nowhere (ill_from (suc i) n (a ++ comma ∷ b)) ≡ (nowhere (ill_from (suc i) n a) && nowhere (ill_from 0 0 b))
        → nowhere (cond z (Some i) (ill_from (suc i) n (a ++ comma ∷ b))) ≡ (nowhere (cond z (Some i) (ill_from (suc i) n a)) && nowhere (ill_from 0 0 b))
    go true e = refl
    go false e = e
ill_cut (x ∷ a) b i (suc k) h = ill_cut a b (suc i) k (omega arith)

-- ---- rules 4 and 5: byte by byte, and a comma breaks neither
position_cut : (p : ℕ → Bool) → p comma ≡ false → (a b : List ℕ) → nowhere (position p (a ++ comma ∷ b)) ≡ (nowhere (position p a) && nowhere (position p b))
unfolding every
position_cut p h a b =
    position-every p (a ++ comma ∷ b) ∙ every_append (λ (x : ℕ). not (p x)) a (comma ∷ b)
    ∙ rw (h, position-every p a, position-every p b)

module _ (a b : List ℕ) where
  pub well_cut : nowhere (ill_formed (a ++ comma ∷ b)) ≡ (nowhere (ill_formed a) && nowhere (ill_formed b))
  unfolding ill_formed
  well_cut = ill_cut a b 0 0 (omega arith)

  pub return_cut : nowhere (return_at (a ++ comma ∷ b)) ≡ (nowhere (return_at a) && nowhere (return_at b))
  unfolding return_at
  return_cut = position_cut is_return refl a b

  pub control_cut : nowhere (control_at (a ++ comma ∷ b)) ≡ (nowhere (control_at a) && nowhere (control_at b))
  unfolding control_at
  control_cut = position_cut is_control refl a b
