-- Decimals: the number of a good text is the one it writes, and the double of a present reading is finite.
use Prim.Native.Nat.{ℕ, ◌^◌, ◌≤◌, ◌<◌}
use mathlib.Core.Path.{◌≡◌, refl, ap, subst, ◌∙◌}
use mathlib.Core.List.{List}
use mathlib.Core.Bool.{Bool}
use native.Mathlib.Omega.{arith}
use lib.Dec.{T}
use lib.IntN.{ℤ, pos}
use lib.Ieee.{Float, binary64, of_int}
use lib.Ieee.Scale.{finite}
use borrow.Author.Tests.{lt-ltb}
use Rattle.text.specs.declared.Reading.{Reading}
use Rattle.text.specs.declared.Reading.TheVariants.{Present, Missing, Refused}
use Rattle.verdicts.specs.Verdicts.{good, signed, millionths_of}
use Rattle.verdicts.specs.Kinds.{Kind, measured, latitude, longitude, depth, flag, ctd_flag, expocode, stnnbr, castno, date, time, free}
use Rattle.verdicts.specs.Judge.{judge}
use Rattle.verdicts.proofs.SizeLaws.{Small}
use Rattle.verdicts.proofs.JudgeLaws.{largest, judge_small}
use Rattle.text.proofs.ReadingLaws.{reading_finite}
use Rattle.format.specs.Answers.{Asked, found, missed, asked_of, reading_by, reading_for}
use Rattle.format.specs.ReadingNumbers.{read_value}
use Rattle.laws.specs.Promises.{NumbersWritten, NoNan, ValueFinite}

largest-below : (k : Kind) → largest k < 10 ^ 15
largest-below measured = omega arith
largest-below latitude = omega arith
largest-below longitude = omega arith
largest-below depth = omega arith
largest-below flag = omega arith
largest-below ctd_flag = omega arith
largest-below expocode = omega arith
largest-below stnnbr = omega arith
largest-below castno = omega arith
largest-below date = omega arith
largest-below time = omega arith
largest-below free = omega arith

module _ (k : Kind) (x : List ℕ) (m : Bool) (v d : ℕ) (e : judge k x ≡ good m v d) where
  size_below : v < 10 ^ 15
  size_below = let h : v ≤ largest k = (subst (Small (largest k) 6) e (judge_small k x)).0 in omega (arith, h, largest-below k)

pub numbers-written : NumbersWritten
unfolding signed
numbers-written = record { below = size_below; number = λ k x m v d e. ap millionths_of e ∙ rw (lt-ltb v (10 ^ 15) (size_below k x m v d e)) }

pub no_nan : NoNan
unfolding reading_for
no_nan f r c m v e = go (asked_of f r c) e
  where
    go : (a : Asked) → reading_by f r c a ≡ Present m v → T (finite v)
    go (found t) e = reading_finite _ _ m v e
    go (missed a b d) e = let z : ◌≡◌ {A = ℕ} 0 1 = cc in absurd (omega arith)

nought_finite : T (finite (of_int binary64 (pos 0)))
unfolding of_int
nought_finite = tt

of_reading_lem : (x : Reading) → ((m : ℤ) (v : Float) → x ≡ Present m v → T (finite v)) → T (finite (read_value x))
of_reading_lem (Present m v) h = h m v refl
of_reading_lem Missing h = nought_finite
of_reading_lem (Refused a b c) h = nought_finite

pub value_finite : ValueFinite
value_finite f r c = of_reading_lem (reading_for f r c) (no_nan f r c)
