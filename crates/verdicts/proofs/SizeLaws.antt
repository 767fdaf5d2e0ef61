-- How large a decimal is, and how many decimals it has.
use Prim.Native.Nat.{ℕ, zero, suc, ◌+◌, ◌-◌, ◌*◌, ◌^◌, ◌≤◌, ◌<◌}
use mathlib.Core.Path.{◌≡◌, refl}
use mathlib.Core.List.{List, [], ◌∷◌, ◌++◌}
use mathlib.Core.Bool.{Bool, true, false, cond, ◌&&◌}
use native.Mathlib.Nat.{pow-le-pow_right}
use native.Mathlib.Omega.{arith}
use lib.ListN.{length, length-append}
use lib.Dec.{eqb, leb}
use lib.Pow.{pow-add}
use borrow.Author.Tests.{leb-true}
use Rattle.line_bytes.specs.Bytes.{is_digit, every, numeral}
use Rattle.verdicts.specs.Verdicts.{Verdict, blank, wrong, out_of_range, good}
use Rattle.verdicts.specs.Decimals.{front, fraction, settle, unsigned_of, decimal_of}
use Rattle.line_bytes.proofs.CellLaws.{both_true}
use Rattle.line_bytes.proofs.DigitLaws.{numeral-below}
use Rattle.line_bytes.proofs.EveryLaws.{every_append}

-- what is written with k decimals, in millionths
pub numeral_scaled : (m v k : ℕ) → m ≤ 10 ^ 9 → k ≤ 6 → v < m * 10 ^ k → v * 10 ^ (6 - k) < 10 ^ 15
numeral_scaled m v zero h l g = omega arith
numeral_scaled m v (suc zero) h l g = omega arith
numeral_scaled m v (suc (suc zero)) h l g = omega arith
numeral_scaled m v (suc (suc (suc zero))) h l g = omega arith
numeral_scaled m v (suc (suc (suc (suc zero)))) h l g = omega arith
numeral_scaled m v (suc (suc (suc (suc (suc zero))))) h l g = omega arith
numeral_scaled m v (suc (suc (suc (suc (suc (suc zero)))))) h l g = omega arith
numeral_scaled m v (suc (suc (suc (suc (suc (suc (suc k))))))) h l g = absurd (omega arith)

-- ---- how large a decimal is
-- a good number's size is at most `top`, and it has at most `most` decimals
abbrev pub Small : ℕ → ℕ → Verdict → Type 0
Small top most blank = Unit {0}
Small top most wrong = Unit {0}
Small top most out_of_range = Unit {0}
Small top most (good m v d) = (v ≤ top) × (d ≤ most)

pub small_either : (top most : ℕ) (z : Bool) (v w : Verdict) → Small top most v → Small top most w → Small top most (cond z v w)
small_either top most true v w p q = p
small_either top most false v w p q = q

front_digits : (t : List ℕ) → every is_digit (front t) ≡ true
unfolding every front
front_digits [] = refl
front_digits (x ∷ xs) = go (is_digit x) refl (front_digits xs)
  where
    go : (z : Bool) → is_digit x ≡ z → every is_digit (front xs) ≡ true → every is_digit (cond z (x ∷ front xs) []) ≡ true
    go true e h = rw (e, h)
    go false e h = refl

settle_small : (m : Bool) (v b a : ℕ) → v < 10 ^ (b + a) → Small 999999999999999 6 (settle m v b a)
unfolding settle
settle_small m v b a h = go (leb b 9 && (leb a 6 && leb 1 (b + a))) refl
  where
    go : (z : Bool) → (leb b 9 && (leb a 6 && leb 1 (b + a))) ≡ z → Small 999999999999999 6 (cond z (good m (v * 10 ^ (6 - a)) a) wrong)
    go true e =
        let p = both_true (leb b 9) (leb a 6 && leb 1 (b + a)) e in
        let k : a ≤ 6 = leb-true a 6 (both_true (leb a 6) (leb 1 (b + a)) p.1).0 in
        let w : 10 ^ (b + a) ≤ 10 ^ (9 + a) = pow-le-pow_right (omega arith) (omega (arith, leb-true b 9 p.0)) in
        let y : v * 10 ^ (6 - a) < 10 ^ 15 = numeral_scaled (10 ^ 9) v a (omega arith) k (rw (← pow-add 10 9 a) (omega arith)) in
        (omega arith, k)
    go false e = tt

unsigned_small : (m : Bool) (t : List ℕ) → Small 999999999999999 6 (unsigned_of m t)
unfolding unsigned_of
unsigned_small m t = go (every is_digit (fraction t)) refl
  where
    go : (z : Bool) → every is_digit (fraction t) ≡ z
        → Small 999999999999999 6 (cond z (settle m (numeral 0 (front t ++ fraction t)) (length (front t)) (length (fraction t))) wrong)
    go true e =
        let d : every is_digit (front t ++ fraction t) ≡ true = rw (every_append is_digit (front t) (fraction t), front_digits t, e) in
        settle_small m _ (length (front t)) (length (fraction t))
        (rw (← length-append (front t) (fraction t)) (omega (arith, numeral-below (front t ++ fraction t) 0 d)))
    go false e = tt

pub decimal_small : (t : List ℕ) → Small 999999999999999 6 (decimal_of t)
unfolding decimal_of
decimal_small [] = tt
decimal_small (x ∷ xs) =
    small_either 999999999999999 6 (eqb x 45) _ _ (unsigned_small true xs)
    (small_either 999999999999999 6 (eqb x 43) _ _ (unsigned_small false xs) (unsigned_small false (x ∷ xs)))

-- no decimal is smaller than a millionth
pub place_past : (n : ℕ) → 6 ≤ n → ◌≡◌ {A = ℕ} 1 (10 ^ (6 - n))
place_past n h = let z : 6 - n ≡ 0 = omega arith in rw z
