-- A verdict by its number and its size.
use Prim.Native.Nat.{ℕ}
use mathlib.Core.Path.{◌≡◌, refl, sym}
use mathlib.Core.Bool.{true, false, true≢false}
use native.Mathlib.Omega.{arith}
use Rattle.verdicts.specs.Verdicts.{Verdict, blank, wrong, out_of_range, good, size_of, number_of, is_good}
use Rattle.verdicts.specs.Judge.{judged_of}
use Rattle.text.specs.Reading.{reading_of}
use Rattle.format.specs.Faults.{clean, breaks, kind_fault}

-- ---- the calls
pub reading_anywhere : (k n : ℕ) (v : Verdict) → reading_of k (judged_of n v) ≡ reading_of k (judged_of 0 v)
unfolding reading_of
reading_anywhere k n blank = refl
reading_anywhere k n wrong = refl
reading_anywhere k n out_of_range = refl
reading_anywhere k n (good m v d) = refl

pub size_anywhere : (n : ℕ) (v : Verdict) → (judged_of n v).size ≡ size_of v
size_anywhere n blank = refl
size_anywhere n wrong = refl
size_anywhere n out_of_range = refl
size_anywhere n (good m v d) = refl

-- ---- one verdict
pub fault-good : (v : Verdict) (c : ℕ) → is_good v ≡ true → kind_fault v c ≡ clean
fault-good blank c h = absurd (true≢false (sym h))
fault-good wrong c h = absurd (true≢false (sym h))
fault-good out_of_range c h = absurd (true≢false (sym h))
fault-good (good m v d) c h = refl

pub fault_bad : (v : Verdict) (c : ℕ) → is_good v ≡ false → kind_fault v c ≡ breaks (number_of v) c
fault_bad blank c h = refl
fault_bad wrong c h = refl
fault_bad out_of_range c h = refl
fault_bad (good m v d) c h = absurd (true≢false h)

pub number-good : (v : Verdict) → is_good v ≡ true → number_of v ≡ 0
number-good blank h = absurd (true≢false (sym h))
number-good wrong h = absurd (true≢false (sym h))
number-good out_of_range h = absurd (true≢false (sym h))
number-good (good m v d) h = refl

pub number_bad : (v : Verdict) → is_good v ≡ false → number_of v ≡ 0 → ⊥
number_bad blank h z = omega arith
number_bad wrong h z = omega arith
number_bad out_of_range h z = omega arith
number_bad (good m v d) h z = true≢false h
