-- The rows of a table: how long one is, what it takes range by range, and the character row by row.
use Prim.Native.Nat.{ℕ, zero, suc, ◌+◌, ◌-◌, ◌*◌, min, ◌≤◌, ◌<◌}
use mathlib.Core.Path.{◌≡◌, refl, sym, ap, ◌∙◌}
use mathlib.Core.Bool.{Bool, true, false, cond, ◌&&◌}
use mathlib.Core.List.{List, [], ◌∷◌}
use native.Mathlib.Omega.{arith}
use lib.ListN.{length, get_or, drop}
use lib.Seq.{drop-cons}
use Rattle.utf8.specs.Syntax.{Range, to, within, takes, character_in, alternatives, character}
use Rattle.utf8.specs.Rows.{ranges_at, row_in, rows_from, rows_in}

ranges-length : (bs : List ℕ) (p n : ℕ) → length (ranges_at bs p n) ≡ n
unfolding ranges_at
ranges-length bs p zero = refl
ranges-length bs p (suc n) = ap suc (ranges-length bs (p + 2) n)

pub row-length : (bs : List ℕ) → length (row_in bs) ≡ min (get_or bs 0 0) 4
unfolding row_in
row-length bs = ranges-length bs 1 (min (get_or bs 0 0) 4)

-- fewer bytes than ranges are not taken
pub takes-short : (rs : List Range) (xs : List ℕ) → length xs < length rs → takes rs xs ≡ false
takes-short [] xs h = absurd (omega arith)
takes-short (r ∷ rs) [] h = refl
takes-short (r ∷ rs) (x ∷ xs) h = go (within r x) (takes-short rs xs (omega arith))
  where
    go : (b : Bool) → takes rs xs ≡ false → (b && takes rs xs) ≡ false
    go true e = e
    go false e = refl

-- the ranges from number j on, counted from 0, and the bytes from j on
abbrev pub takes_from : List ℕ → ℕ → List ℕ → ℕ → Bool
takes_from bs n xs j = takes (ranges_at bs (2 * j + 1) (n - j)) (drop j xs)

pub takes_first : (bs : List ℕ) (n : ℕ) (xs : List ℕ) → n ≡ length (row_in bs) → takes (row_in bs) xs ≡ takes_from bs n xs 0
unfolding row_in
takes_first bs n xs e =
    let m : min (get_or bs 0 0) 4 ≡ n - 0 = omega (arith, e, row-length bs) in
    ap (λ (k : ℕ). takes (ranges_at bs 1 k) xs) m

module _ (bs : List ℕ) (n : ℕ) (xs : List ℕ) (j : ℕ) where
  takes_step : j < n → j < length xs → takes_from bs n xs j ≡ (within (to (get_or bs (2 * j + 1) 0) (get_or bs (2 * j + 2) 0)) (get_or xs j 0) && takes_from bs n xs (j + 1))
  unfolding ranges_at
  takes_step h l =
      let e : n - j ≡ suc (n - (j + 1)) = omega arith in
      let p : 2 * j + 1 + 2 ≡ 2 * (j + 1) + 1 = omega arith in
      let q : 2 * j + 1 + 1 ≡ 2 * j + 2 = omega arith in
      let s : suc j ≡ j + 1 = omega arith in
      rw (e, drop-cons xs j 0 l, p, q, s)

  pub takes_out : j < n → j < length xs → within (to (get_or bs (2 * j + 1) 0) (get_or bs (2 * j + 2) 0)) (get_or xs j 0) ≡ false → takes_from bs n xs j ≡ false
  takes_out h l e = takes_step h l ∙ rw e

  pub takes-on : j < n → j < length xs → within (to (get_or bs (2 * j + 1) 0) (get_or bs (2 * j + 2) 0)) (get_or xs j 0) ≡ true → takes_from bs n xs j ≡ takes_from bs n xs (j + 1)
  takes-on h l e = takes_step h l ∙ rw e

  pub takes_all : n ≤ j → takes_from bs n xs j ≡ true
  unfolding ranges_at
  takes_all h = let e : n - j ≡ 0 = omega arith in rw e

-- the rows from number k on, of nine
abbrev pub character_from : List (List ℕ) → List ℕ → ℕ → ℕ
character_from t xs k = character_in (rows_from t k (9 - k)) xs

module _ (t : List (List ℕ)) (xs : List ℕ) (k : ℕ) where
  rows_step : k < 9 → character_from t xs k ≡ cond (takes (row_in (get_or t k [])) xs) (length (row_in (get_or t k []))) (character_from t xs (k + 1))
  unfolding rows_from
  rows_step h =
      let e : 9 - k ≡ suc (9 - (k + 1)) = omega arith in
      ap (λ (n : ℕ). character_in (rows_from t k n) xs) e

  pub rows_taken : k < 9 → takes (row_in (get_or t k [])) xs ≡ true → character_from t xs k ≡ length (row_in (get_or t k []))
  rows_taken h e = rows_step h ∙ rw e

  pub rows_on : k < 9 → takes (row_in (get_or t k [])) xs ≡ false → character_from t xs k ≡ character_from t xs (k + 1)
  rows_on h e = rows_step h ∙ rw e

  pub rows_none : 9 ≤ k → character_from t xs k ≡ 0
  unfolding rows_from
  rows_none h = let e : 9 - k ≡ 0 = omega arith in ap (λ (n : ℕ). character_in (rows_from t k n) xs) e

-- where the rows are the alternatives, it is the character of rule 3
pub rows-character : (t : List (List ℕ)) (xs : List ℕ) (n : ℕ) → rows_in t ≡ alternatives → n ≡ character_in (rows_in t) xs → character xs ≡ n
unfolding character
rows-character t xs n e h = sym (h ∙ ap (λ (rows : List (List Range)). character_in rows xs) e)
