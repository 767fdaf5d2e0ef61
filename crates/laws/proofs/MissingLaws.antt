-- Missing readings: which decimals are missing, and that the check counts the pairs that the decimal call reads as missing.
use Prim.Native.Nat.{ℕ, zero, suc, ◌+◌, ◌-◌, ◌^◌, ◌≤◌, ◌<◌}
use mathlib.Core.Path.{◌≡◌, refl, sym, ap, subst, ◌∙◌}
use mathlib.Core.Logic.{◌↔◌, ◌⊎◌, inl, inr}
use mathlib.Core.List.{List, [], ◌∷◌}
use mathlib.Core.Bool.{Bool, true, false, cond, ◌&&◌}
use native.Mathlib.Nat.{add-zero}
use native.Mathlib.Omega.{arith}
use lib.ListN.{length, get_or, length-map}
use lib.Dec.{eqb, ltb}
use lib.IntN.{ℤ, pos, neg_ℤ}
use borrow.Author.Tests.{eqb-true, eqb-false, eq-eqb, ne_eqb, ltb-false}
use Rattle.text.specs.declared.Reading.TheVariants.{Present, Missing}
use Rattle.verdicts.specs.Verdicts.{Verdict, blank, wrong, out_of_range, good, signed, millionths_of}
use Rattle.verdicts.specs.Kinds.{Kind, measured, latitude, longitude, depth, kind_of}
use Rattle.verdicts.specs.Judge.{judge, judged_of}
use Rattle.text.specs.Reading.{double_of, is_missing, read_number, is_decimal, reading_of}
use Rattle.verdicts.specs.Rows.{is_missing_number, missing_in}
use Rattle.verdicts.proofs.SizeLaws.{Small}
use Rattle.verdicts.proofs.JudgeLaws.{largest, judge_small}
use Rattle.text.proofs.ReadingLaws.{decimal-below, reading-missing}
use Rattle.format.specs.Columns.{kind_of_name, kinds_of}
use Rattle.format.specs.Places.{Table, Outcome, accepted, refused, outcome_of}
use Rattle.format.specs.Profiles.{missing_in_row, missing_in_rows}
use Rattle.format.specs.Answers.{checked_by, checked_of, is_there, kind_at, rows_in, row_cells, cell_text, missing_of, reading_by, reading_for}
use Rattle.format.specs.Located.{is_measured}
use Rattle.laws.specs.Promises.{column_kind, cell_verdict, MissingExactly, PresentThere, is_missing_reading, measured_by, sum_from, missing_pairs, MissingCounted}
use Rattle.laws.proofs.AskedLaws.{Good, inside-there, rows-many, row_in_lem, row-many, cell-good, asked-there, reading-there}

-- ---- a decimal is missing exactly when it equals -999
reads-missing : (k : ℕ) (v : Verdict) → Good v → is_decimal (kind_of k) ≡ true → (reading_of k (judged_of 0 v) ≡ Missing) ↔ (millionths_of v ≡ neg_ℤ (pos 999000000))
reads-missing k blank g d = let z : ◌≡◌ {A = ℕ} 0 1 = cc g.is in absurd (omega arith)
reads-missing k wrong g d = let z : ◌≡◌ {A = ℕ} 0 1 = cc g.is in absurd (omega arith)
reads-missing k out_of_range g d = let z : ◌≡◌ {A = ℕ} 0 1 = cc g.is in absurd (omega arith)
reads-missing k (good m s x) g d = (λ e. ((reading-missing k (judged_of 0 (good m s x))).0 e).2, λ e. (reading-missing k (judged_of 0 (good m s x))).1 (d, refl, e))

either-decimal : (k : Kind) → (k ≡ measured) ⊎ (k ≡ depth) → is_decimal k ≡ true
either-decimal k (inl e) = ap is_decimal e
either-decimal k (inr e) = ap is_decimal e

pub missing_exactly : MissingExactly
unfolding reading_for
missing_exactly f t n e r c h k =
    let a = ap (reading_by f r c) (asked-there f t n e r c h) in
    let w = reads-missing (kind_at t c) (cell_verdict t f r c) (cell-good f t n e r c h) (either-decimal (column_kind t c) k) in
    (λ m. w.0 (sym a ∙ m), λ m. a ∙ w.1 m)

-- ---- one pair
shown : (b : Bool) (m : ℤ) → is_missing_reading (cond b Missing (Present m (double_of m))) ≡ b
shown true m = refl
shown false m = refl

less_one : (n : ℕ) → eqb n 998999999 ≡ eqb (suc n) 999000000
less_one n = go (eqb n 998999999) refl
  where
    go : (b : Bool) → eqb n 998999999 ≡ b → b ≡ eqb (suc n) 999000000
    go true e = sym (eq-eqb (suc n) 999000000 (omega (arith, eqb-true n 998999999 e)))
    go false e = sym (ne_eqb (suc n) 999000000 (λ h. eqb-false n 998999999 e (omega arith)))

signed-missing : (m : Bool) (s : ℕ) → is_missing (signed m s) ≡ (m && eqb s 999000000)
unfolding signed
signed-missing m s = go m s (ltb s (10 ^ 15)) refl
  where
    go : (m : Bool) (s : ℕ) (b : Bool) → ltb s (10 ^ 15) ≡ b → is_missing (cond b (cond m (neg_ℤ (pos s)) (pos s)) (pos 0)) ≡ (m && eqb s 999000000)
    go true zero true e = refl
    go true (suc n) true e = less_one n
    go false s true e = refl
    go true s false e = sym (ne_eqb s 999000000 (λ h. omega (arith, ltb-false s (10 ^ 15) e)))
    go false s false e = refl

number-missing : (v : Verdict) → Good v → is_missing_reading (read_number (millionths_of v)) ≡ is_missing_number v
number-missing blank g = let z : ◌≡◌ {A = ℕ} 0 1 = cc g.is in absurd (omega arith)
number-missing wrong g = let z : ◌≡◌ {A = ℕ} 0 1 = cc g.is in absurd (omega arith)
number-missing out_of_range g = let z : ◌≡◌ {A = ℕ} 0 1 = cc g.is in absurd (omega arith)
number-missing (good m s d) g = shown (is_missing (signed m s)) (signed m s) ∙ signed-missing m s

-- ---- a latitude or longitude is never so large
small-present : (m : Bool) (s : ℕ) → s ≤ 180000000 → read_number (signed m s) ≡ Present (signed m s) (double_of (signed m s))
small-present m s h = rw (signed-missing m s, ne_eqb s 999000000 (λ e. omega arith)) (go m)
  where
    go : (m : Bool) → cond (m && false) Missing (Present (signed m s) (double_of (signed m s))) ≡ Present (signed m s) (double_of (signed m s))
    go true = refl
    go false = refl

place-present : (k : Kind) (u : List ℕ) → largest k ≤ 180000000 → Good (judge k u) → read_number (millionths_of (judge k u)) ≡ Present (millionths_of (judge k u)) (double_of (millionths_of (judge k u)))
place-present k u h g =
    let s : Small (largest k) 6 (good g.minus g.size g.decimals) = subst (Small (largest k) 6) g.is (judge_small k u) in
    rw g.is (small-present g.minus g.size (omega (arith, s.0, h)))

place_largest : (k : Kind) → (k ≡ latitude) ⊎ (k ≡ longitude) → (is_decimal k ≡ true) × (largest k ≤ 180000000)
place_largest k (inl e) = rw e (refl, omega arith)
place_largest k (inr e) = rw e (refl, omega arith)

pub present-there : PresentThere
present-there f t n e r c h k =
    let w = place_largest (column_kind t c) k in
    reading-there f t n e r c h w.0 ∙ place-present (column_kind t c) (cell_text t f r c) w.1 (cell-good f t n e r c h)

module _ (f : List ℕ) (t : Table) (n : ℕ) (e : outcome_of f ≡ accepted t n) where
  -- what a pair counts, by the decimal call
  pair_of : ℕ → ℕ → ℕ
  pair_of r c = cond (is_measured t c && is_missing_reading (reading_for f r c)) 1 0

  pair_is : (r c : ℕ) → is_there t n r c ≡ true → missing_in (kind_at t c) (cell_verdict t f r c) ≡ pair_of r c
  unfolding missing_in pair_of
  pair_is r c h = go (eqb (kind_at t c) 0) refl
    where
      go : (b : Bool) → eqb (kind_at t c) 0 ≡ b → ◌≡◌ {A = ℕ} (cond (b && is_missing_number (cell_verdict t f r c)) 1 0) (cond (b && is_missing_reading (reading_for f r c)) 1 0)
      go true q =
          let k = eqb-true (kind_at t c) 0 q in
          rw (reading-there f t n e r c h (decimal-below (kind_at t c) (omega arith))) (ap (λ (z : Bool). cond z 1 0) (sym (number-missing (cell_verdict t f r c) (cell-good f t n e r c h))))
      go false q = refl

-- ---- sums along a row and over the rows
row-sum : (ks : List ℕ) (ts : List (List ℕ)) (k : ℕ) (g : ℕ → ℕ) → length ts ≡ length ks
    → ((j : ℕ) → j < length ks → missing_in (get_or ks j 0) (judge (kind_of (get_or ks j 0)) (get_or ts j [])) ≡ g (k + j)) → missing_in_row ks ts ≡ sum_from k (length ks) g
unfolding missing_in_row sum_from
row-sum [] ts k g l h = refl
row-sum (x ∷ ks) [] k g l h = absurd (omega (arith, l))
row-sum (x ∷ ks) (t ∷ ts) k g l h =
    let a : missing_in x (judge (kind_of x) t) ≡ g k = h 0 (omega arith) ∙ ap g (add-zero k) in
    let b : missing_in_row ks ts ≡ sum_from (k + 1) (length ks) g =
    row-sum ks ts (k + 1) g (omega (arith, l)) (λ j i. let w : k + suc j ≡ k + 1 + j = omega arith in h (suc j) (omega arith) ∙ ap g w) in
    omega (arith, a, b)

rows-sum : (ks : List ℕ) (rs : List (List (List ℕ))) (k : ℕ) (g : ℕ → ℕ)
    → ((j : ℕ) → j < length rs → missing_in_row ks (get_or rs j []) ≡ g (k + j)) → missing_in_rows ks rs ≡ sum_from k (length rs) g
unfolding missing_in_rows sum_from
rows-sum ks [] k g h = refl
rows-sum ks (r ∷ rs) k g h =
    let a : missing_in_row ks r ≡ g k = h 0 (omega arith) ∙ ap g (add-zero k) in
    let b : missing_in_rows ks rs ≡ sum_from (k + 1) (length rs) g = rows-sum ks rs (k + 1) g (λ j i. let w : k + suc j ≡ k + 1 + j = omega arith in h (suc j) (omega arith) ∙ ap g w) in
    omega (arith, a, b)

module _ (f : List ℕ) (t : Table) (n : ℕ) (e : outcome_of f ≡ accepted t n) where
  row_pairs : (r : ℕ) → 1 ≤ r → r ≤ n → missing_in_row (kinds_of t.names) (row_cells t f r) ≡ sum_from 1 (length t.names) (pair_of f t n e r)
  row_pairs r a b =
      let m : length (kinds_of t.names) ≡ length t.names = length-map t.names kind_of_name in
      subst (λ (k : ℕ). missing_in_row (kinds_of t.names) (row_cells t f r) ≡ sum_from 1 k (pair_of f t n e r)) m
      (row-sum (kinds_of t.names) (row_cells t f r) 1 (pair_of f t n e r) (row-many f t n e r a b) (λ j h. one j (omega (arith, h, m))))
    where
      one : (j : ℕ) → j < length t.names
          → missing_in (get_or (kinds_of t.names) j 0) (judge (kind_of (get_or (kinds_of t.names) j 0)) (get_or (row_cells t f r) j [])) ≡ pair_of f t n e r (1 + j)
      one j h =
          let w : 1 + j - 1 ≡ j = omega arith in
          subst (λ (k : ℕ). missing_in (get_or (kinds_of t.names) k 0) (judge (kind_of (get_or (kinds_of t.names) k 0)) (get_or (row_cells t f r) k [])) ≡ pair_of f t n e r (1 + j)) w
          (pair_is f t n e r (1 + j) (inside-there t n r (1 + j) (record { row = a; rows = b; column = omega arith; columns = omega arith })))

  file_pairs : missing_of t n f ≡ sum_from 1 n (λ r. sum_from 1 (length t.names) (pair_of f t n e r))
  file_pairs =
      let m = rows-many f t n e in
      subst (λ (k : ℕ). missing_of t n f ≡ sum_from 1 k (λ r. sum_from 1 (length t.names) (pair_of f t n e r))) m
      (rows-sum (kinds_of t.names) (rows_in t n f) 1 (λ r. sum_from 1 (length t.names) (pair_of f t n e r))
      (λ j h. let l : j < n = omega (arith, h, m) in ap (missing_in_row (kinds_of t.names)) (row_in_lem f t n e j l) ∙ row_pairs (1 + j) (omega arith) (omega arith)))

-- the check's missing readings are the pairs that the decimal call reads as missing
pub missing-counted : MissingCounted
unfolding checked_of missing_pairs pair_of sum_from
missing-counted f = by (outcome_of f) refl
  where
    by : (o : Outcome) → outcome_of f ≡ o
        → (checked_by f o).missing ≡ sum_from 1 (checked_by f o).rows (λ r. sum_from 1 (checked_by f o).columns (λ c. cond (measured_by c o && is_missing_reading (reading_for f r c)) 1 0))
    by (accepted t n) e = file_pairs f t n e
    by (refused a b d) e = refl
