-- Whether a signed number is below zero, from the code's bits.
use mathlib.Core.Path.{◌≡◌, refl}
use native.Mathlib.Omega.{arith}
use lib.IntN.{ℤ, pos, negsuc}
use lib.Signed.{lt_z}
use mir.Syntax.{w64}
use mir.Val.{to_z, of_z, SFits}
use mir.ValLaws.{to_z-of_z}
use borrow.Author.Tests.{le-ltb}
use Rattle.numbers.specs.Texts.{is_below}

below_by : (m : ℤ) → lt_z m (pos 0) ≡ is_below m
below_by (pos n) = le-ltb n 0 (omega arith)
below_by (negsuc n) = refl

pub below_is : (m : ℤ) → SFits w64 m → lt_z (to_z w64 (of_z w64 m)) (pos 0) ≡ is_below m
below_is m s = rw (to_z-of_z w64 m s) (below_by m)
