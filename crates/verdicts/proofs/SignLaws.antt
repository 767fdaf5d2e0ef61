-- The number of a sign and a size: how large it is, and its bits.
use Prim.Native.Nat.{ℕ, zero, suc, ◌^◌, ◌≤◌, ◌<◌}
use mathlib.Core.Path.{◌≡◌, refl, ◌∙◌}
use mathlib.Core.Bool.{Bool, true, false, cond}
use native.Mathlib.Omega.{arith}
use lib.Dec.{ltb, lit<}
use lib.IntN.{pos, nat_abs, neg_ℤ, ◌-ℤ◌, +ℤ_idl}
use mir.Syntax.{w64}
use mir.Val.{to_z, of_z, SFits}
use mir.ValLaws.{to_z-of_z, to_z_pos}
use borrow.Author.Tests.{lt-ltb, le-ltb, ltb-true}
use Rattle.verdicts.specs.Verdicts.{signed}

signed_by : (minus : Bool) (size : ℕ) (b : Bool) → ltb size (10 ^ 15) ≡ b → nat_abs (cond b (cond minus (neg_ℤ (pos size)) (pos size)) (pos 0)) < 10 ^ 15
signed_by true zero true e = lit< tt
signed_by true (suc n) true e = ltb-true (suc n) (10 ^ 15) e
signed_by false n true e = ltb-true n (10 ^ 15) e
signed_by minus n false e = lit< tt

pub signed_small : (minus : Bool) (size : ℕ) → nat_abs (signed minus size) < 10 ^ 15
unfolding signed
signed_small minus size = signed_by minus size (ltb size (10 ^ 15)) refl

pub signed_large : (minus : Bool) (size : ℕ) → 10 ^ 15 ≤ size → pos 0 ≡ signed minus size
unfolding signed
signed_large minus size h = rw (le-ltb size (10 ^ 15) h)

module _ (size : ℕ) (h : size < 10 ^ 15) where
  plain : to_z w64 size ≡ pos size
  plain = to_z_pos w64 size (omega arith)

  less : pos 0 -ℤ to_z w64 size ≡ neg_ℤ (pos size)
  less = rw plain (+ℤ_idl (neg_ℤ (pos size)))

  pub minus-fits : SFits w64 (pos 0 -ℤ to_z w64 size)
  minus-fits = rw less (fits size h)
    where
      fits : (n : ℕ) → n < 10 ^ 15 → SFits w64 (neg_ℤ (pos n))
      fits zero h = record { sfits = omega arith }
      fits (suc n) h = record { sfits = omega arith }

  pub signed_minus : to_z w64 (of_z w64 (pos 0 -ℤ to_z w64 size)) ≡ signed true size
  unfolding signed
  signed_minus = to_z-of_z w64 _ minus-fits ∙ less ∙ rw (lt-ltb size (10 ^ 15) h)

  pub signed_plain : to_z w64 size ≡ signed false size
  unfolding signed
  signed_plain = plain ∙ rw (lt-ltb size (10 ^ 15) h)
