-- The digits of a number, as the library writes them.
use Prim.Native.Nat.{ℕ, zero, suc, ◌+◌, ◌-◌, ◌*◌, ◌/◌, ◌%◌, ◌^◌, ◌≤◌, ◌<◌}
use mathlib.Core.Path.{◌≡◌, refl, ap, subst}
use mathlib.Core.Bool.{Bool, true, false}
use mathlib.Core.List.{List, [], ◌∷◌, ◌++◌}
use native.Mathlib.Omega.{arith}
use native.Mathlib.Nat.{pow-suc, one-le-pow, pow-le-pow_right}
use lib.Dec.{ltb}
use borrow.Author.Tests.{lt-ltb, le-ltb, ltb-true, ltb-false}
use Rattle.io.specs.Digits.{hex_digit_ascii, last_digits, IsDigitCount}
use Rattle.numbers.specs.Texts.{whole_digits, whole_text}

digit_glyph : (d : ℕ) → d < 10 → hex_digit_ascii d ≡ 48 + d
digit_glyph d h = rw (lt-ltb d 10 h)

-- k and one digits, the fewest that hold n
digits-whole : (k j n : ℕ) → k ≤ j → n < 10 ^ suc k → (0 < k → 10 ^ k ≤ n) → last_digits 10 (suc k) n ≡ whole_digits j n
unfolding whole_digits
digits-whole zero zero n l h m = rw (digit_glyph (n % 10) (omega arith))
digits-whole zero (suc j) n l h m = let e : n < 10 = omega (arith, h) in rw (lt-ltb n 10 e, digit_glyph (n % 10) (omega arith))
digits-whole (suc k) zero n l h m = absurd (omega arith)
digits-whole (suc k) (suc j) n l h m =
    let a : 10 ^ suc k ≤ n = m (omega arith) in
    let p : 10 ^ suc k ≡ 10 ^ k * 10 = pow-suc 10 k in
    let q : 10 ^ suc (suc k) ≡ 10 ^ suc k * 10 = pow-suc 10 (suc k) in
    let b : 10 ≤ n = omega (arith, one-le-pow k 10 (omega arith)) in
    rw (le-ltb n 10 b, digit_glyph (n % 10) (omega arith))
    (ap (λ (x : List ℕ). x ++ (48 + n % 10) ∷ []) (digits-whole k j (n / 10) (omega arith) (omega arith) (λ z. omega arith)))

-- a number of 64 bits has 20 digits at the most
few_digits : (n k : ℕ) → n < 18446744073709551616 → (0 < k → 10 ^ k ≤ n) → k ≤ 19
few_digits n k h m = go (ltb 19 k) refl
  where
    go : (b : Bool) → ltb 19 k ≡ b → k ≤ 19
    go false e = ltb-false 19 k e
    go true e =
        let l : 19 < k = ltb-true 19 k e in
        absurd (omega (arith, pow-le-pow_right {n = 10} (omega arith) {i = 20} {j = k} (omega arith), m (omega arith)))

pub fewest-whole : (n k : ℕ) → n < 18446744073709551616 → IsDigitCount 10 1 n k → last_digits 10 k n ≡ whole_text n
fewest-whole n zero b f = absurd (omega (arith, f.0))
fewest-whole n (suc k) b f =
    let e : suc k - 1 ≡ k = omega arith in
    let m : 0 < k → 10 ^ k ≤ n = λ z. subst (λ (j : ℕ). 10 ^ j ≤ n) e (f.2 (omega arith)) in
    digits-whole k 19 n (few_digits n k b m) f.1 m
