-- The double of a number of millionths below 10^15: the number is held exactly, and its millionth is finite, so neither a NaN nor an infinity arises.
use Prim.Native.Nat.{ℕ, zero, suc, ◌+◌, ◌*◌, ◌^◌, ◌≤◌, ◌<◌}
use mathlib.Core.Path.{◌≡◌, refl, sym, subst}
use mathlib.Core.Bool.{Bool, true, false, cond}
use native.Mathlib.Nat.{le_of_lt, lt_of_lt_of_le, mul-one, mul-le-mul_right}
use native.Mathlib.Omega.{arith}
use lib.Dec.{T, ltb, lit<, lit≤}
use lib.Pow.{pow_mono, shl_lt}
use lib.IntN.{ℤ, pos, negsuc, nat_abs}
use lib.Ieee.{Float, nan, inf, fin, Format, binary64, prec, emax, low, up, down, unlike, odd, units, round, lt, eq, le, div, of_int, of_bits, is_nan}
use lib.Ieee.Exact.{HasValue, round_exact}
use lib.Ieee.Fits.{round_is, down_pos}
use lib.Ieee.Order.{round_mono}
use lib.Ieee.Scale.{finite}
use Rattle.text.specs.Reading.{double_of}

-- the double 0.0 of the code
pub nought : of_bits binary64 0 ≡ of_int binary64 (pos 0)
unfolding of_bits of_int
nought = refl

-- ---- rounding below a finite value gives a finite one
odd_finite : (d : ℕ) (s : Bool) (q k l : ℕ) → T (finite (odd d s q k l))
unfolding odd
odd_finite d s zero k l = tt
odd_finite d s (suc q) k l = tt

units_finite : (f : Format) (s : Bool) (q k : ℕ) (y : Float) → T (le (units f false q k) y) → T (finite y) → T (finite (units f s q k))
unfolding units le lt eq
units_finite f s q k y h g = by (ltb (q * 2 ^ k) (2 ^ (low f + suc (emax f)))) y h g
  where
    by : (b : Bool) (y : Float) → T (le (cond b (odd (suc (prec f)) false q k (low f)) (inf false)) y) → T (finite y) → T (finite (cond b (odd (suc (prec f)) s q k (low f)) (inf s)))
    by true y h g = odd_finite (suc (prec f)) s q k (low f)
    by false nan h g = g
    by false (inf t) h g = g
    by false (fin t m e) h g = h

round_finite : (f : Format) (s : Bool) (a b c d : ℕ) → 0 < b → 0 < d → a * d ≤ c * b → T (finite (round f false c d)) → T (finite (round f s a b))
round_finite f s a b c d B D h g =
    rw (round_is f s a b) (units_finite f s _ _ (round f false c d) (rw (round_is f false a b) at (round_mono f a b c d B D h)) g)

-- ---- a number below 10^15 is held exactly
abbrev pub is_minus : ℤ → Bool
is_minus (pos n) = false
is_minus (negsuc n) = true

exact : (s : Bool) (n : ℕ) → n < 10 ^ 15 → HasValue (round binary64 s n 1) s n 1
exact s n h =
    let small : n < 2 ^ 53 = omega arith in
    round_exact binary64 s n 1 n (low binary64) (lit< tt) small
    (lt_of_lt_of_le (shl_lt 53 (low binary64) small) (pow_mono {i = 53 + low binary64} {j = low binary64 + suc (emax binary64)} (lit≤ tt))) (sym (mul-one (n * 2 ^ low binary64)))

pub double_exact : (m : ℤ) → nat_abs m < 10 ^ 15 → HasValue (of_int binary64 m) (is_minus m) (nat_abs m) 1
unfolding of_int
double_exact (pos n) h = exact false n h
double_exact (negsuc n) h = exact true (suc n) h

-- ---- its millionth is finite
million : of_int binary64 (pos 1000000) ≡ fin false 15625 (pos 6)
unfolding of_int
million = refl

largest : T (finite (round binary64 false (10 ^ 15) 1))
unfolding round
largest = tt

quotient : (x : Float) (s : Bool) (n : ℕ) → n < 10 ^ 15 → HasValue x s n 1 → T (finite (div binary64 x (fin false 15625 (pos 6))))
unfolding div
quotient nan s n h v = absurd v
quotient (inf t) s n h v = absurd v
quotient (fin t m e) s n h v =
    let d = down_pos e in
    let b : n * down e ≤ 10 ^ 15 * down e = mul-le-mul_right (down e) (le_of_lt h) in
    round_finite binary64 (unlike t false) (m * up e * down (pos 6)) (15625 * up (pos 6) * down e) (10 ^ 15) 1 (omega arith) (lit< tt) (omega (arith, v.1)) largest

pub double_finite : (m : ℤ) → nat_abs m < 10 ^ 15 → T (finite (double_of m))
unfolding double_of
double_finite m h =
    subst (λ (d : Float). T (finite (div binary64 (of_int binary64 m) d))) (sym million) (quotient (of_int binary64 m) (is_minus m) (nat_abs m) h (double_exact m h))

finite_number : (x : Float) → T (finite x) → is_nan x ≡ false
unfolding is_nan
finite_number nan h = absurd h
finite_number (inf s) h = refl
finite_number (fin s m e) h = refl

pub double-number : (m : ℤ) → nat_abs m < 10 ^ 15 → is_nan (double_of m) ≡ false
double-number m h = finite_number (double_of m) (double_finite m h)
