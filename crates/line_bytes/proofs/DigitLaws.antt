-- Digits: the test of a byte, and how large a number they write.
use Prim.Native.Nat.{ℕ, ◌+◌, ◌-◌, ◌*◌, ◌^◌, ◌≤◌, ◌<◌}
use mathlib.Core.Path.{◌≡◌}
use mathlib.Core.List.{List, [], ◌∷◌}
use mathlib.Core.Bool.{true, false, and-false}
use native.Mathlib.Nat.{mul_assoc, mul-le-mul_right, pow-succ'}
use native.Mathlib.Omega.{arith}
use lib.ListN.{length}
use lib.Dec.{leb}
use borrow.Author.Tests.{leb-true, le-leb, lt-leb}
use Rattle.line_bytes.specs.Bytes.{is_digit, every, numeral}
use Rattle.line_bytes.proofs.CellLaws.{both_true}

pub digit_yes : (x : ℕ) → 48 ≤ x → x ≤ 57 → is_digit x ≡ true
digit_yes x h l = rw (le-leb 48 x h, le-leb x 57 l)

pub digit_low : (x : ℕ) → x < 48 → is_digit x ≡ false
digit_low x h = rw (lt-leb 48 x h)

pub digit-high : (x : ℕ) → 57 < x → is_digit x ≡ false
digit-high x h = rw (lt-leb x 57 h) (and-false (leb 48 x))

pub digit_range : (x : ℕ) → is_digit x ≡ true → (48 ≤ x) × (x ≤ 57)
digit_range x e = let b = both_true (leb 48 x) (leb x 57) e in (leb-true 48 x b.0, leb-true x 57 b.1)

-- digits written after v
pub numeral-below : (t : List ℕ) (v : ℕ) → every is_digit t ≡ true → numeral v t < (v + 1) * 10 ^ length t
unfolding every numeral
numeral-below [] v e = omega arith
numeral-below (x ∷ xs) v e =
    let b = both_true (is_digit x) (every is_digit xs) e in
    let d = digit_range x b.0 in
    let w : v * 10 + (x - 48) + 1 ≤ (v + 1) * 10 = omega arith in
    let y : (v * 10 + (x - 48) + 1) * 10 ^ length xs ≤ (v + 1) * 10 * 10 ^ length xs = mul-le-mul_right (10 ^ length xs) w in
    rw (pow-succ' 10 (length xs), ← mul_assoc (v + 1) 10 (10 ^ length xs)) (omega (arith, numeral-below xs (v * 10 + (x - 48)) b.1))
