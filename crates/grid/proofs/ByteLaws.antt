-- A line feed found, as the library's position.
use Prim.Native.Nat.{ℕ, ◌+◌, ◌-◌}
use mathlib.Core.Path.{◌≡◌, refl, sym, ap, ◌∙◌}
use mathlib.Core.List.{List, [], ◌∷◌}
use mathlib.Core.Bool.{Bool, true, false, cond, not}
use native.Mathlib.Omega.{arith}
use lib.ListN.{length, take, drop, length-drop}
use lib.Seq.{take-length}
use lib.Dec.{eqb, ltb}
use borrow.Author.Tests.{ltb-false}
use Rattle.std.specs.Prelude.{Option, Some, None, unwrap_or}
use Rattle.std.specs.List.{position, position_or_len}
use Rattle.std.proofs.lemmas.List.Sums.{prefix_len-le-length}
use Rattle.line_bytes.specs.Cells.{first_piece, line_at}

-- the place of the first byte that passes, the length where there is none
pub found : (p : ℕ → Bool) (xs : List ℕ) → unwrap_or (position p xs) (length xs) ≡ position_or_len p xs
found p xs = go (ltb n (length xs)) refl
  where
    n : ℕ
    n = position_or_len p xs

    go : (b : Bool) → ltb n (length xs) ≡ b → unwrap_or (cond b (Some n) None) (length xs) ≡ n
    go true e = refl
    go false e = omega (arith, ltb-false n (length xs) e, prefix_len-le-length (λ x. not (p x)) xs)

piece-length : (c : ℕ) (xs : List ℕ) → position_or_len (λ x. eqb x c) xs ≡ length (first_piece c xs)
unfolding first_piece
piece-length c [] = refl
piece-length c (x ∷ xs) = go (eqb x c) (piece-length c xs)
  where
    go : (b : Bool) → position_or_len (λ x. eqb x c) xs ≡ length (first_piece c xs)
        → cond (not b) (1 + position_or_len (λ x. eqb x c) xs) 0 ≡ length (cond b [] (x ∷ first_piece c xs))
    go true h = refl
    go false h = omega arith

-- the rest of the bytes, of which the code says how many they are
rest : (s : List ℕ) (i : ℕ) → take (length s - i) (drop i s) ≡ drop i s
rest s i = rw (sym (length-drop i s)) (take-length (drop i s))

module _ (s : List ℕ) (i : ℕ) (r : Option ℕ) (n : ℕ) (o : n ≡ unwrap_or r (length (take (length s - i) (drop i s)))) where
  pub line-found : r ≡ position (λ x. eqb x 10) (take (length s - i) (drop i s)) → i + n ≡ i + length (line_at s i)
  line-found e = ap (λ (k : ℕ). i + k) (o ∙ rw (e, rest s i) (found (λ x. eqb x 10) (drop i s) ∙ piece-length 10 (drop i s)))
