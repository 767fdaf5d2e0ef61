-- One line with no spaces, seen from its last byte.
use Prim.Native.Nat.{ℕ, suc, ◌+◌, ◌-◌, ◌≤◌}
use mathlib.Core.Path.{◌≡◌, refl, sym}
use mathlib.Core.List.{List, [], ◌∷◌}
use mathlib.Core.Bool.{Bool, true, false, not, ◌&&◌, ◌||◌, and-false}
use native.Mathlib.Omega.{arith}
use lib.ListN.{length, get_or, take}
use lib.Dec.{eqb}
use borrow.Author.Tests.{ne_eqb}
use Rattle.std.specs.List.{list_all}
use Rattle.std.proofs.lemmas.Bool.Decides.{nat_tests}
use Rattle.line_bytes.specs.Bytes.{every}
use Rattle.line_bytes.specs.Cells.{first_piece}
use Rattle.line_bytes.proofs.SpaceLaws.{is_solid}
use Rattle.orders.specs.ListLines.{is_one_line}

-- neither a line feed nor a space
abbrev pub is_field_byte : ℕ → Bool
is_field_byte b = not (eqb b 10 || eqb b 32)

-- a byte that others follow
module _ (x y : ℕ) (ys : List ℕ) where
  after-feed : eqb x 10 ≡ true → is_one_line (x ∷ (y ∷ ys)) ≡ false
  unfolding first_piece
  after-feed e = rw (e, ne_eqb (0 + 1) (length (x ∷ (y ∷ ys))) (λ q. omega (arith, q)))

  after-byte : eqb x 10 ≡ false → is_one_line (x ∷ (y ∷ ys)) ≡ (is_solid x && is_one_line (y ∷ ys))
  unfolding first_piece every
  after-byte e = rw (e, one_more (length (first_piece 10 (y ∷ ys))) (length (y ∷ ys))) (swapped (eqb (length (first_piece 10 (y ∷ ys)) + 1) (length (y ∷ ys))) (is_solid x) (every is_solid (y ∷ ys)))
    where
      one_more : (a b : ℕ) → eqb (suc a + 1) (suc b) ≡ eqb (a + 1) b
      one_more a b = grind (arith, nat_tests)

      swapped : (a b c : Bool) → (a && (b && c)) ≡ (b && (a && c))
      swapped true b c = refl
      swapped false true c = refl
      swapped false false c = refl

-- its last byte is a line feed, or it is none
pub feed-last : (x : ℕ) (xs : List ℕ) → get_or (x ∷ xs) (length xs) 0 ≡ 10 → list_all is_field_byte (take (length xs) (x ∷ xs)) ≡ is_one_line (x ∷ xs)
unfolding first_piece every
feed-last x [] e = rw e
feed-last x (y ∷ ys) e = go (eqb x 10) refl (feed-last y ys e)
  where
    go : (b : Bool) → eqb x 10 ≡ b → list_all is_field_byte (take (length ys) (y ∷ ys)) ≡ is_one_line (y ∷ ys)
        → (not (eqb x 10 || eqb x 32) && list_all is_field_byte (take (length ys) (y ∷ ys))) ≡ is_one_line (x ∷ (y ∷ ys))
    go true q ih = rw (after-feed x y ys q, q)
    go false q ih = rw (after-byte x y ys q, q, ih)

pub other_last : (x : ℕ) (xs : List ℕ) → (get_or (x ∷ xs) (length xs) 0 ≡ 10 → ⊥) → false ≡ is_one_line (x ∷ xs)
unfolding first_piece every
other_last x [] n = rw (ne_eqb x 10 n)
other_last x (y ∷ ys) n = go (eqb x 10) refl (other_last y ys n)
  where
    go : (b : Bool) → eqb x 10 ≡ b → false ≡ is_one_line (y ∷ ys) → false ≡ is_one_line (x ∷ (y ∷ ys))
    go true q ih = rw (after-feed x y ys q)
    go false q ih = rw (after-byte x y ys q, ← ih) (sym (and-false (is_solid x)))

-- by the last byte's place
module _ (s : List ℕ) (h : 1 ≤ length s) where
  pub one-line : get_or s (length s - 1) 0 ≡ 10 → list_all is_field_byte (take (length s - 1) s) ≡ is_one_line s
  one-line = go s h
    where
      go : (t : List ℕ) → 1 ≤ length t → get_or t (length t - 1) 0 ≡ 10 → list_all is_field_byte (take (length t - 1) t) ≡ is_one_line t
      go [] l e = absurd (omega (arith, l))
      go (x ∷ xs) l e = let k : length (x ∷ xs) - 1 ≡ length xs = omega arith in rw k (feed-last x xs (rw k at e))

  pub no-line : (get_or s (length s - 1) 0 ≡ 10 → ⊥) → false ≡ is_one_line s
  no-line = go s h
    where
      go : (t : List ℕ) → 1 ≤ length t → (get_or t (length t - 1) 0 ≡ 10 → ⊥) → false ≡ is_one_line t
      go [] l n = absurd (omega (arith, l))
      go (x ∷ xs) l n = let k : length (x ∷ xs) - 1 ≡ length xs = omega arith in other_last x xs (rw k at n)
