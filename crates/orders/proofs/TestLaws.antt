-- The tests of a correction: one list. A correction is applied exactly if none of them holds, else refused by the first that does; each is found by its number.
use Prim.Native.Nat.{ℕ}
use mathlib.Core.Path.{◌≡◌, refl}
use mathlib.Core.Bool.{Bool, true, false, cond}
use mathlib.Core.List.{List, [], ◌∷◌}
use native.Mathlib.Omega.{arith}
use lib.Dec.{eqb}
use Rattle.orders.specs.declared.Answer.TheVariants.{Applied, Refused}
use Rattle.orders.specs.Corrections.{Test, first_that}
use Rattle.orders.specs.Demand3.{IsFirst, nothing, here, later, NoneHolds}

pub not-applied : (a b c : ℕ) → Refused a b c ≡ Applied → ⊥
not-applied a b c e = let z : ◌≡◌ {A = ℕ} 0 1 = cc in omega arith

pub first_that_lem : (xs : List Test) → IsFirst xs (first_that xs)
unfolding first_that
first_that_lem [] = nothing
first_that_lem (x ∷ xs) = go x.holds refl (first_that_lem xs)
  where
    go : (b : Bool) → x.holds ≡ b → IsFirst xs (first_that xs) → IsFirst (x ∷ xs) (cond b (Refused x.number 0 0) (first_that xs))
    go true e ih = here e
    go false e ih = later e ih

pub none-holds : (xs : List Test) → first_that xs ≡ Applied → NoneHolds xs
unfolding first_that
none-holds [] e = tt
none-holds (x ∷ xs) e = go x.holds refl e (none-holds xs)
  where
    go : (b : Bool) → x.holds ≡ b → cond b (Refused x.number 0 0) (first_that xs) ≡ Applied → (first_that xs ≡ Applied → NoneHolds xs) → (x.holds ≡ false) × NoneHolds xs
    go true q e ih = absurd (not-applied x.number 0 0 e)
    go false q e ih = (q, ih e)

pub none-applied : (xs : List Test) → NoneHolds xs → first_that xs ≡ Applied
unfolding first_that
none-applied [] w = refl
none-applied (x ∷ xs) w = rw w.0 (none-applied xs w.1)

-- the test of a number
abbrev pub holds_at : ℕ → List Test → Bool
holds_at k [] = false
holds_at k (x ∷ xs) = cond (eqb x.number k) x.holds (holds_at k xs)

pub passed : (k : ℕ) (xs : List Test) → NoneHolds xs → holds_at k xs ≡ false
passed k [] w = refl
passed k (x ∷ xs) w = go (eqb x.number k) (passed k xs w.1)
  where
    go : (b : Bool) → holds_at k xs ≡ false → cond b x.holds (holds_at k xs) ≡ false
    go true ih = w.0
    go false ih = ih

-- ---- the first test, and the ones after it
module _ (x : Test) (xs : List Test) where
  pub first-here : x.holds ≡ true → first_that (x ∷ xs) ≡ Refused x.number 0 0
  unfolding first_that
  first-here e = rw e

  pub first-later : x.holds ≡ false → first_that (x ∷ xs) ≡ first_that xs
  unfolding first_that
  first-later e = rw e
