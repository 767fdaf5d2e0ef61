-- The rules of a correction at each return of the functions that decide it.
use Prim.Native.Nat.{ℕ, ◌-◌, ◌%◌, ◌^◌, ◌≤◌, ◌<◌}
use mathlib.Core.Path.{◌≡◌, refl, sym, ap, ◌∙◌}
use mathlib.Core.Bool.{Bool, true, false, not, ◌||◌}
use lib.ListN.{length}
use lib.Dec.{eqb, ltb}
use lib.IntN.{pos}
use lib.Signed.{lt_z}
use mir.Syntax.{w64}
use mir.Val.{to_z, of_z, SFits}
use mir.ValLaws.{to_z-of_z}
use borrow.Author.Tests.{lt-ltb, le-ltb, ltb-false}
use Rattle.numbers.specs.Texts.{size, number_text, text_length}
use Rattle.numbers.proofs.TextLaws.{length_is}
use Rattle.orders.specs.declared.Order.{Order}
use Rattle.orders.specs.Corrections.{bad_number}
use Rattle.correction.proofs.WriteLaws.{number_as}

-- ---- 23, with the number's size n as the code has it
module _ (o : Order) where
  pub number_fine : 6 < o.decimals → true ≡ bad_number o
  unfolding bad_number
  number_fine h = rw (lt-ltb 6 o.decimals h)

  module _ (s : SFits w64 o.millionths) (n : ℕ) (e : n ≡ size (to_z w64 (of_z w64 o.millionths))) where
    size_is : n ≡ size o.millionths
    size_is = e ∙ ap size (to_z-of_z w64 o.millionths s)

    pub number_large : o.decimals ≤ 6 → 10 ^ 15 ≤ n → true ≡ bad_number o
    unfolding bad_number
    number_large h k = rw (le-ltb 6 o.decimals h, ← size_is, le-ltb n (10 ^ 15) k)

    pub number_exact : o.decimals ≤ 6 → n < 10 ^ 15 → (q : ℕ) → q ≡ 10 ^ (6 - o.decimals) → not (eqb (n % q) 0) ≡ bad_number o
    unfolding bad_number
    number_exact h k q p = rw (le-ltb 6 o.decimals h, ← size_is, lt-ltb n (10 ^ 15) k, p)

    -- 25, with the length l of the number's text
    module _ (w l : ℕ) (few : o.decimals ≤ 6) (k : l ≡ text_length (lt_z (to_z w64 (of_z w64 o.millionths)) (pos 0)) n o.decimals) where
      long_is : l ≡ length (number_text o.millionths o.decimals)
      long_is = k ∙ length_is (lt_z (to_z w64 (of_z w64 o.millionths)) (pos 0)) n o.decimals few ∙ ap length (number_as o.millionths o.decimals n s e)

      pub text_longer : w < l → ltb w (length (number_text o.millionths o.decimals)) ≡ true
      text_longer h = rw (← long_is) (lt-ltb w l h)

      pub text-fits : l ≤ w → ltb w (length (number_text o.millionths o.decimals)) ≡ false
      text-fits h = rw (← long_is) (le-ltb w l h)

  pub number-few : (b : Bool) → b ≡ bad_number o → b ≡ false → o.decimals ≤ 6
  unfolding bad_number
  number-few b e z =
      ltb-false 6 o.decimals (first (ltb 6 o.decimals) (not (ltb (size o.millionths) (10 ^ 15)) || not (eqb (size o.millionths % 10 ^ (6 - o.decimals)) 0)) (sym e ∙ z))
    where
      first : (a b : Bool) → (a || b) ≡ false → a ≡ false
      first true b e = e
      first false b e = refl
