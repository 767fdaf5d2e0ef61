-- A table filled row by row.
use Prim.Native.Nat.{ℕ, zero, suc, ◌+◌, ◌<◌}
use mathlib.Core.Path.{◌≡◌, refl, sym, ap, ◌∙◌}
use mathlib.Core.List.{List, [], ◌∷◌, ◌++◌}
use native.Mathlib.Nat.{not-suc-le-zero, le_of_suc-le-suc, add-zero}
use native.Mathlib.Numerals.{add-one}
use native.Mathlib.Omega.{arith}
use lib.ListN.{length, set, take, drop}
use Rattle.whole_columns.specs.Columns.{filled_from}

pub filled-length : {A : Type 0} (g : ℕ → A) (r n : ℕ) (xs : List A) → length (filled_from g r n xs) ≡ length xs
unfolding filled_from
filled-length g r zero xs = refl
filled-length g r (suc n) [] = refl
filled-length g r (suc n) (x ∷ xs) = ap suc (filled-length g (r + 1) n xs)

pub filled_none : {A : Type 0} (g : ℕ → A) (xs : List A) → xs ≡ filled_from g 1 0 xs
unfolding filled_from
filled_none g xs = refl

-- a refused call gives no rows and leaves its tables as they are
pub kept : {A : Type 0} (g : ℕ → A) (n : ℕ) (xs : List A) → n ≡ 0 → xs ≡ filled_from g 1 n xs
kept g n xs e = filled_none g xs ∙ ap (λ (m : ℕ). filled_from g 1 m xs) (sym e)

filled_more : {A : Type 0} (g : ℕ → A) (r n : ℕ) (xs : List A) → n < length xs → set (filled_from g r n xs) n (g (r + n)) ≡ filled_from g r (suc n) xs
unfolding filled_from
filled_more g r zero [] h = absurd (not-suc-le-zero h)
filled_more g r zero (x ∷ xs) h = ap (λ (k : ℕ). g k ∷ xs) (add-zero r)
filled_more g r (suc n) [] h = absurd (not-suc-le-zero h)
filled_more g r (suc n) (x ∷ xs) h =
    let k : r + suc n ≡ r + 1 + n = omega arith in
    ap (λ (ys : List _). g r ∷ ys) (ap (λ (j : ℕ). set (filled_from g (r + 1) n xs) n (g j)) k ∙ filled_more g (r + 1) n xs (le_of_suc-le-suc h))

-- one row more, the first being row 1
pub filled_row : {A : Type 0} (g : ℕ → A) (n : ℕ) (xs ys : List A) (a : A) → n < length xs → ys ≡ filled_from g 1 n xs → a ≡ g (n + 1) → set ys n a ≡ filled_from g 1 (n + 1) xs
filled_row g n xs ys a h e d =
    let k : n + 1 ≡ 1 + n = omega arith in
    ap (λ (zs : List _). set zs n a) e ∙ ap (λ (b : _). set (filled_from g 1 n xs) n b) (d ∙ ap g k) ∙ filled_more g 1 n xs h ∙ ap (λ (m : ℕ). filled_from g 1 m xs) (sym (add-one n))

-- the rows may be written apart from the entries past them
pub filled_part : {A : Type 0} (g : ℕ → A) (r n : ℕ) (xs : List A) → filled_from g r n (take n xs) ++ drop n xs ≡ filled_from g r n xs
unfolding filled_from
filled_part g r zero xs = refl
filled_part g r (suc n) [] = refl
filled_part g r (suc n) (x ∷ xs) = ap (λ (ys : List _). g r ∷ ys) (filled_part g (r + 1) n xs)
