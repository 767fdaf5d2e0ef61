-- The cells of a measurement written: a number by the code's sign and size, the digit of its flag, and both cells filled.
use Prim.Native.Nat.{ℕ, ◌≤◌}
use mathlib.Core.Path.{◌≡◌, ap, ◌∙◌}
use mathlib.Core.List.{List, ◌∷◌}
use lib.IntN.{ℤ, pos}
use lib.Signed.{lt_z}
use mir.Syntax.{w64}
use mir.Val.{to_z, of_z, SFits}
use mir.ValLaws.{to_z-of_z}
use Rattle.line_bytes.specs.declared.Span.{Span}
use Rattle.numbers.specs.Texts.{size, is_below, text_of, number_text, flag_text, at_right}
use Rattle.numbers.specs.Patches.{patch, number_set, digit_set}
use Rattle.numbers.specs.Inner.Puts.{InCell}
use Rattle.numbers.proofs.SizeLaws.{below_is}
use Rattle.numbers.proofs.PatchLaws.{number_is, digit_is}
use Rattle.orders.specs.Corrections.{fill, filled}
use Rattle.correction.specs.Inner.Writing.{flag_fills}
use Rattle.std.specs.Prelude.{Option, Some, None}

-- a number by the code's sign and size
module _ (m : ℤ) (d n : ℕ) (s : SFits w64 m) (e : n ≡ size (to_z w64 (of_z w64 m))) where
  pub number_as : text_of (lt_z (to_z w64 (of_z w64 m)) (pos 0)) n d ≡ number_text m d
  unfolding number_text
  number_as = rw (below_is m s) (ap (λ (j : ℕ). text_of (is_below m) j d) (e ∙ ap size (to_z-of_z w64 m s)))

  -- the bytes that setting it leaves
  pub number-set : (f : List ℕ) {g : List ℕ} (p : Span) → d ≤ 6 → InCell f p (number_text m d) → g ≡ number_set f p (lt_z (to_z w64 (of_z w64 m)) (pos 0)) n d
      → g ≡ patch f p.start (at_right p.len (number_text m d))
  number-set f {g} p few i k =
      k ∙ number_is f p (lt_z (to_z w64 (of_z w64 m)) (pos 0)) n d few (rw number_as i) ∙ ap (λ (t : List ℕ). patch f p.start (at_right p.len t)) number_as

-- the bytes that setting a flag's digit leaves
pub flag-set : (f : List ℕ) {g : List ℕ} (p : Span) (v : ℕ) → (v ≤ 9) × InCell f p (flag_text v) → g ≡ digit_set f p v → g ≡ patch f p.start (at_right p.len (flag_text v))
flag-set f {g} p v i k = k ∙ digit_is f p v i.0 i.1

-- the cells of a measurement filled, with its flag and without
module _ (f : List ℕ) (p : Span) (t : List ℕ) (v : ℕ) (o : Option Span) where
  pub filled_both : {g h : List ℕ} {q : Span} → o ≡ Some q → g ≡ patch f p.start (at_right p.len t) → h ≡ patch g q.start (at_right q.len (flag_text v)) → h ≡ filled (fill p t ∷ flag_fills o v) f
  unfolding filled
  filled_both {g} {h} {q} e x y = rw e (y ∙ ap (λ (z : List ℕ). patch z q.start (at_right q.len (flag_text v))) x)

  pub filled-value : {g : List ℕ} → o ≡ None → g ≡ patch f p.start (at_right p.len t) → g ≡ filled (fill p t ∷ flag_fills o v) f
  unfolding filled
  filled-value {g} e x = rw e x
