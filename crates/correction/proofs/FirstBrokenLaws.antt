-- The number of the first test that holds is that of the answer.
use Prim.Native.Nat.{ℕ}
use mathlib.Core.Path.{◌≡◌, refl}
use mathlib.Core.Bool.{Bool, true, false, cond}
use mathlib.Core.List.{List, [], ◌∷◌}
use Rattle.std.specs.Prelude.{Option, Some, None}
use Rattle.orders.specs.declared.Answer.{Answer}
use Rattle.orders.specs.declared.Answer.TheVariants.{Applied, Refused}
use Rattle.orders.specs.Corrections.{Test, first_that}
use Rattle.correction.specs.Inner.Deciding.{first_broken}

-- ---- the first test, and the ones after it
module _ (x : Test) (xs : List Test) where
  pub broken-here : x.holds ≡ true → Some x.number ≡ first_broken (x ∷ xs)
  unfolding first_broken
  broken-here e = rw e

  pub broken-later : {k : Option ℕ} → x.holds ≡ false → k ≡ first_broken xs → k ≡ first_broken (x ∷ xs)
  unfolding first_broken
  broken-later e h = rw e h

pub broken-none : None ≡ first_broken []
unfolding first_broken
broken-none = refl

-- ---- the answer by a refusal's number
abbrev pub by_number : Option ℕ → Answer
by_number None = Applied
by_number (Some k) = Refused k 0 0

pub first-broken : (xs : List Test) → first_that xs ≡ by_number (first_broken xs)
unfolding first_that first_broken
first-broken [] = refl
first-broken (x ∷ xs) = go x.holds (first-broken xs)
  where
    go : (b : Bool) → first_that xs ≡ by_number (first_broken xs) → cond b (Refused x.number 0 0) (first_that xs) ≡ by_number (cond b (Some x.number) (first_broken xs))
    go true ih = refl
    go false ih = ih
