-- Readings: when one is missing, what a present one carries, and what the functions of readings show at each return.
use Prim.Native.Nat.{ℕ, zero, suc, ◌^◌, ◌≤◌, ◌<◌}
use mathlib.Core.Path.{◌≡◌, refl, sym, ap, ◌∙◌}
use mathlib.Core.Logic.{◌↔◌}
use mathlib.Core.Bool.{Bool, true, false, cond, false≢true}
use native.Mathlib.Omega.{arith}
use lib.Dec.{T, eqb, le→leb, lt→ltb}
use lib.IntN.{ℤ, pos, negsuc, nat_abs}
use lib.Ieee.{Float, binary64, in_float, of_int, of_bits, div}
use lib.Ieee.Scale.{finite}
use mir.Syntax.{w64}
use mir.Val.{to_z, of_z, SFits}
use mir.ValLaws.{to_z-of_z}
use borrow.Author.Tests.{eq-eqb, ne_eqb, eqb-true, eqb-false}
use Rattle.verdicts.specs.declared.Judged.{Judged}
use Rattle.text.specs.declared.Reading.{Reading}
use Rattle.text.specs.declared.Reading.TheVariants.{Present, Missing, Refused}
use Rattle.verdicts.specs.Kinds.{Kind, flag, ctd_flag, expocode, stnnbr, castno, date, time, free, kind_of}
use Rattle.verdicts.specs.Verdicts.{signed}
use Rattle.text.specs.Reading.{double_of, is_missing, read_number, is_decimal, reading_of}
use Rattle.text.proofs.DoubleLaws.{double_finite}
use Rattle.verdicts.proofs.SignLaws.{signed_small}

-- ---- the number in the code's bits: 18446744072710551616 is -999 in millionths, and 4696837146684686336 one million
small-fits : (m : ℤ) → nat_abs m < 10 ^ 15 → SFits w64 m
small-fits (pos n) h = record { sfits = omega arith }
small-fits (negsuc n) h = record { sfits = omega arith }

small-whole : (m : ℤ) → nat_abs m < 10 ^ 15 → T (in_float binary64 m)
unfolding in_float
small-whole (pos n) h = le→leb n (2 ^ 53) (omega arith)
small-whole (negsuc n) h = lt→ltb n (2 ^ 53) (omega arith)

bits-missing : (m : ℤ) → nat_abs m < 10 ^ 15 → of_z w64 m ≡ 18446744072710551616 → is_missing m ≡ true
bits-missing (pos n) h e = absurd (omega arith)
bits-missing (negsuc n) h e = eq-eqb n 998999999 (omega arith)

bits-present : (m : ℤ) → nat_abs m < 10 ^ 15 → (of_z w64 m ≡ 18446744072710551616 → ⊥) → is_missing m ≡ false
bits-present (pos n) h f = refl
bits-present (negsuc n) h f = ne_eqb n 998999999 (λ e. f (omega arith))

million : of_bits binary64 4696837146684686336 ≡ of_int binary64 (pos 1000000)
unfolding of_bits of_int
million = refl

module _ (m : ℤ) (h : nat_abs m < 10 ^ 15) where
  pub number-back : to_z w64 (of_z w64 m) ≡ m
  number-back = to_z-of_z w64 m (small-fits m h)

  pub number-whole : T (in_float binary64 (to_z w64 (of_z w64 m)))
  number-whole = rw number-back (small-whole m h)

  pub number-missing : of_z w64 m ≡ 18446744072710551616 → Missing ≡ read_number m
  number-missing e = rw (bits-missing m h e)

  pub number-present : (of_z w64 m ≡ 18446744072710551616 → ⊥) → Present (to_z w64 (of_z w64 m)) (div binary64 (of_int binary64 (to_z w64 (of_z w64 m))) (of_bits binary64 4696837146684686336)) ≡ read_number m
  unfolding double_of
  number-present f = rw (number-back, million, bits-present m h f)

pub number_small : (m : ℤ) (minus : Bool) (size : ℕ) → m ≡ signed minus size → nat_abs (to_z w64 (of_z w64 m)) < 10 ^ 15
number_small m minus size e =
    let h : nat_abs m < 10 ^ 15 = rw e (signed_small minus size) in
    rw (number-back m h) h

-- ---- the decimal kinds are those from 0 to 3
pub decimal-below : (k : ℕ) → k ≤ 3 → is_decimal (kind_of k) ≡ true
unfolding kind_of
decimal-below zero h = refl
decimal-below (suc zero) h = refl
decimal-below (suc (suc zero)) h = refl
decimal-below (suc (suc (suc zero))) h = refl
decimal-below (suc (suc (suc (suc k)))) h = absurd (omega arith)

neither : (b : Bool) (x y : Kind) → is_decimal x ≡ false → is_decimal y ≡ false → is_decimal (cond b x y) ≡ false
neither true x y p q = p
neither false x y p q = q

pub decimal_above : (k : ℕ) → 3 < k → is_decimal (kind_of k) ≡ false
unfolding kind_of
decimal_above k h =
    rw (ne_eqb k 0 (λ e. omega arith), ne_eqb k 1 (λ e. omega arith), ne_eqb k 2 (λ e. omega arith), ne_eqb k 3 (λ e. omega arith))
    (neither (eqb k 4) flag _ refl (neither (eqb k 5) ctd_flag _ refl (neither (eqb k 6) expocode _ refl (neither (eqb k 7) stnnbr _ refl
    (neither (eqb k 8) castno _ refl (neither (eqb k 9) date _ refl (neither (eqb k 10) time free refl refl)))))))

module _ (k : ℕ) (j : Judged) where
  pub reading-other : 3 < k → Refused 22 0 0 ≡ reading_of k j
  unfolding reading_of
  reading-other h = rw (decimal_above k h)

  module _ (h : k ≤ 3) where
    pub reading-refused : (j.number ≡ 0 → ⊥) → Refused j.number 0 0 ≡ reading_of k j
    unfolding reading_of
    reading-refused f = rw (decimal-below k h, ne_eqb j.number 0 f)

    pub reading-good : (m : ℤ) → j.number ≡ 0 → m ≡ signed j.minus j.size → read_number (to_z w64 (of_z w64 m)) ≡ reading_of k j
    unfolding reading_of
    reading-good m e p =
        let s : nat_abs m < 10 ^ 15 = rw p (signed_small j.minus j.size) in
        rw (decimal-below k h, eq-eqb j.number 0 e, number-back m s, ← p)

-- ---- what a reading says
missing_is : (m : ℤ) → is_missing m ≡ true → m ≡ negsuc 998999999
missing_is (pos n) e = absurd (false≢true e)
missing_is (negsuc n) e = ap negsuc (eqb-true n 998999999 e)

present_is : (m : ℤ) → is_missing m ≡ false → m ≡ negsuc 998999999 → ⊥
present_is (pos n) e p = let z : ◌≡◌ {A = ℕ} 0 1 = cc in omega arith
present_is (negsuc n) e p = eqb-false n 998999999 e (cc)

not-missing : (m : ℤ) → (m ≡ negsuc 998999999 → ⊥) → is_missing m ≡ false
not-missing (pos n) f = refl
not-missing (negsuc n) f = ne_eqb n 998999999 (λ e. f (ap negsuc e))

-- a reading by its three tests: a decimal kind, a good number, -999
reading_by : Bool → Bool → Bool → ℤ → ℕ → Reading
reading_by d g m x n = cond d (cond g (cond m Missing (Present x (double_of x))) (Refused n 0 0)) (Refused 22 0 0)

by-missing : (d g m : Bool) (x : ℤ) (n : ℕ) → reading_by d g m x n ≡ Missing → (d ≡ true) × (g ≡ true) × (m ≡ true)
unfolding reading_by
by-missing true true true x n e = (refl, refl, refl)
by-missing true true false x n e = let z : ◌≡◌ {A = ℕ} 0 1 = cc in absurd (omega arith)
by-missing true false m x n e = let z : ◌≡◌ {A = ℕ} 0 1 = cc in absurd (omega arith)
by-missing false g m x n e = let z : ◌≡◌ {A = ℕ} 0 1 = cc in absurd (omega arith)

by-present : (d g m : Bool) (x : ℤ) (n : ℕ) (y : ℤ) (v : Float) → reading_by d g m x n ≡ Present y v → (d ≡ true) × (g ≡ true) × (m ≡ false) × (y ≡ x) × (v ≡ double_of y)
unfolding reading_by
by-present true true true x n y v e = let z : ◌≡◌ {A = ℕ} 0 1 = cc in absurd (omega arith)
by-present true true false x n y v e =
    let p : x ≡ y = cc in
    let q : double_of x ≡ v = cc in
    (refl, refl, refl, sym p, sym q ∙ ap double_of p)
by-present true false m x n y v e = let z : ◌≡◌ {A = ℕ} 0 1 = cc in absurd (omega arith)
by-present false g m x n y v e = let z : ◌≡◌ {A = ℕ} 0 1 = cc in absurd (omega arith)

module _ (k : ℕ) (j : Judged) where
  -- missing exactly where a good decimal is -999
  pub reading-missing : (reading_of k j ≡ Missing) ↔ ((is_decimal (kind_of k) ≡ true) × (j.number ≡ 0) × (signed j.minus j.size ≡ negsuc 998999999))
  unfolding reading_of reading_by
  reading-missing = (
    λ e. let w = by-missing (is_decimal (kind_of k)) (eqb j.number 0) (is_missing (signed j.minus j.size)) (signed j.minus j.size) j.number e in
        (w.0, eqb-true j.number 0 w.1, missing_is (signed j.minus j.size) w.2),
    λ w. rw (w.0, eq-eqb j.number 0 w.1, w.2),
  )

  -- present exactly where a good decimal is not -999; it carries the millionths and their double
  pub reading-present : (m : ℤ) (v : Float) → (reading_of k j ≡ Present m v) ↔ ((is_decimal (kind_of k) ≡ true) × (j.number ≡ 0) × (signed j.minus j.size ≡ negsuc 998999999 → ⊥) × (m ≡ signed j.minus j.size) × (v ≡ double_of m))
  unfolding reading_of reading_by
  reading-present m v = (
    λ e. let w = by-present (is_decimal (kind_of k)) (eqb j.number 0) (is_missing (signed j.minus j.size)) (signed j.minus j.size) j.number m v e in
        (w.0, eqb-true j.number 0 w.1, present_is (signed j.minus j.size) w.2, w.3, w.4),
    λ w. rw (w.4, w.3, w.0, eq-eqb j.number 0 w.1, not-missing (signed j.minus j.size) w.2),
  )

  -- the double of a present reading is finite
  pub reading_finite : (m : ℤ) (v : Float) → reading_of k j ≡ Present m v → T (finite v)
  reading_finite m v e =
      let w = (reading-present m v).0 e in
      rw (w.4, w.3) (double_finite _ (signed_small j.minus j.size))
