-- Two texts with the same bytes: what the test says, and its steps by an index.
use Prim.Native.Nat.{ℕ, suc, ◌+◌, ◌≤◌, ◌<◌}
use mathlib.Core.Path.{◌≡◌, refl, sym, ap, ◌∙◌}
use mathlib.Core.List.{List, [], ◌∷◌}
use mathlib.Core.Bool.{Bool, true, false, ◌&&◌, false≢true, and-eq-true_iff}
use lib.ListN.{length, get_or, drop, drop_of_length-le}
use lib.Dec.{eqb}
use borrow.Author.Tests.{eq-eqb, ne_eqb, eqb-true, eqb-false}
use Rattle.std.specs.Cmp.Lexicographic.{pointwise}
use Rattle.line_bytes.specs.Bytes.{equal}
use native.Mathlib.Numerals.{add-one}
use lib.Seq.{drop-cons}

-- a text is the same as itself, and only as itself
pub equal_refl : (xs : List ℕ) → equal xs xs ≡ true
unfolding equal
equal_refl [] = refl
equal_refl (x ∷ xs) = rw (eq-eqb x x refl) (equal_refl xs)

pub equal-same : (xs ys : List ℕ) → equal xs ys ≡ true → xs ≡ ys
unfolding equal
equal-same [] [] e = refl
equal-same [] (y ∷ ys) e = absurd (false≢true e)
equal-same (x ∷ xs) [] e = absurd (false≢true e)
equal-same (x ∷ xs) (y ∷ ys) e =
    let w = (and-eq-true_iff (eqb x y) (equal xs ys)).0 e in
    rw (eqb-true x y w.0, equal-same xs ys w.1)

not_both : (a b : Bool) → b ≡ false → a && b ≡ false
not_both true b e = e
not_both false b e = refl

-- texts of two lengths differ
pub equal_lengths : (xs ys : List ℕ) → (length xs ≡ length ys → ⊥) → equal xs ys ≡ false
unfolding equal
equal_lengths [] [] f = absurd (f refl)
equal_lengths [] (y ∷ ys) f = refl
equal_lengths (x ∷ xs) [] f = refl
equal_lengths (x ∷ xs) (y ∷ ys) f = not_both (eqb x y) (equal xs ys) (equal_lengths xs ys (λ e. f (ap suc e)))

-- the same two texts from a place on: at their ends, at bytes that differ, past a byte that is the same
module _ (xs ys : List ℕ) (i : ℕ) where
  pub equal-end : length xs ≤ i → length ys ≤ i → equal (drop i xs) (drop i ys) ≡ true
  unfolding equal
  equal-end h k = rw (drop_of_length-le xs h, drop_of_length-le ys k)

  pub equal-stop : i < length xs → i < length ys → (get_or xs i 0 ≡ get_or ys i 0 → ⊥) → equal (drop i xs) (drop i ys) ≡ false
  unfolding equal
  equal-stop h k f = rw (drop-cons xs i 0 h, drop-cons ys i 0 k) (rw (ne_eqb _ _ f))

  pub equal-step : i < length xs → i < length ys → get_or xs i 0 ≡ get_or ys i 0 → equal (drop i xs) (drop i ys) ≡ equal (drop (i + 1) xs) (drop (i + 1) ys)
  unfolding equal
  equal-step h k e = rw (add-one i, drop-cons xs i 0 h, drop-cons ys i 0 k) (rw (eq-eqb _ _ e))

-- as `==` says it
pub equal_pointwise : (xs ys : List ℕ) → pointwise eqb xs ys ≡ equal xs ys
unfolding equal
equal_pointwise [] [] = refl
equal_pointwise [] (y ∷ ys) = refl
equal_pointwise (x ∷ xs) [] = refl
equal_pointwise (x ∷ xs) (y ∷ ys) = rw (equal_pointwise xs ys)

eqb_swap : (x y : ℕ) → eqb x y ≡ eqb y x
eqb_swap x y = go (eqb x y) refl
  where
    go : (b : Bool) → eqb x y ≡ b → b ≡ eqb y x
    go true e = sym (eq-eqb y x (sym (eqb-true x y e)))
    go false e = sym (ne_eqb y x (λ q. eqb-false x y e (sym q)))

pub equal_told : (xs ys : List ℕ) (b : Bool) → b ≡ pointwise eqb xs ys → b ≡ equal xs ys
equal_told xs ys b e = e ∙ equal_pointwise xs ys

pub equal_sym : (xs ys : List ℕ) → equal xs ys ≡ equal ys xs
unfolding equal
equal_sym [] [] = refl
equal_sym [] (y ∷ ys) = refl
equal_sym (x ∷ xs) [] = refl
equal_sym (x ∷ xs) (y ∷ ys) = rw (eqb_swap x y, equal_sym xs ys)
