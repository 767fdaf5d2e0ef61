-- The character that bytes begin with: an ASCII byte is one by itself, no character is longer than the bytes, and none goes past a comma.
--   character_ascii : x ≤ 0x7f → character (x ∷ xs) ≡ 1
--   character_in_lem : character_in alts xs ≤ length xs
--   character_cut : character (x ∷ (a ++ 0x2c ∷ b)) ≡ character (x ∷ a)
use Prim.Native.Nat.{ℕ, ◌≤◌}
use mathlib.Core.Path.{◌≡◌, refl, sym}
use mathlib.Core.List.{List, [], ◌∷◌, ◌++◌}
use mathlib.Core.Bool.{Bool, true, false, cond, true≢false, and-eq-true_iff}
use native.Mathlib.Omega.{arith}
use lib.ListN.{length}
use borrow.Author.Tests.{le-leb}
use Rattle.utf8.specs.Syntax.{Range, within, takes, character_in, character, alternatives}

pub character_ascii : (x : ℕ) (xs : List ℕ) → x ≤ 0x7f → character (x ∷ xs) ≡ 1
unfolding character
character_ascii x xs h = rw (le-leb 0 x (omega arith), le-leb x 0x7f h)

takes_in : (rs : List Range) (xs : List ℕ) → takes rs xs ≡ true → length rs ≤ length xs
takes_in [] xs e = omega arith
takes_in (r ∷ rs) [] e = absurd (true≢false (sym e))
takes_in (r ∷ rs) (x ∷ xs) e = omega (arith, takes_in rs xs ((and-eq-true_iff (within r x) (takes rs xs)).0 e).1)

in_rows : (rows : List (List Range)) (xs : List ℕ) → character_in rows xs ≤ length xs
in_rows [] xs = omega arith
in_rows (a ∷ others) xs = go (takes a xs) refl (in_rows others xs)
  where
    go : (b : Bool) → takes a xs ≡ b → character_in others xs ≤ length xs → cond b (length a) (character_in others xs) ≤ length xs
    go true e h = takes_in a xs e
    go false e h = h

pub character_in_lem : (xs : List ℕ) → character xs ≤ length xs
unfolding character
character_in_lem xs = in_rows alternatives xs

-- a comma is no byte that goes on a character
pub character_cut : (x : ℕ) (a b : List ℕ) → character (x ∷ (a ++ 0x2c ∷ b)) ≡ character (x ∷ a)
unfolding character
character_cut x [] b = refl
character_cut x (y ∷ []) b = refl
character_cut x (y ∷ z ∷ []) b = refl
character_cut x (y ∷ z ∷ u ∷ us) b = refl
