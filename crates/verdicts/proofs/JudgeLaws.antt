-- A cell judged by its kind: whether one goes on at a place, the code's returns, what the code's record of a verdict has, and how large a kind's numbers are.
use Prim.Native.Nat.{ℕ, zero, suc, ◌-◌, ◌≤◌, ◌<◌, ◌/◌, ◌%◌, ◌^◌}
use mathlib.Core.Path.{◌≡◌, refl, sym, ap, ◌∙◌}
use mathlib.Core.List.{List, [], ◌∷◌}
use mathlib.Core.Bool.{Bool, true, false, cond, ◌&&◌}
use mathlib.Core.Logic.{⊎_elim}
use native.Mathlib.Nat.{eq-or-lt_of_le, pow-le-pow_right}
use native.Mathlib.Omega.{arith}
use lib.ListN.{length, get_or}
use lib.Dec.{eqb, leb, ltb}
use borrow.Author.Tests.{eqb-true, eq-eqb, ne_eqb, leb-true, le-leb, ltb-true, lt-ltb, le-ltb, ltb-false}
use Rattle.line_bytes.specs.Cells.{cell_at, cell_end, separates}
use Rattle.verdicts.specs.Judge.{stops_at, at_most, whole_of, in_set, in_flags, key_byte, key_text_of, date_of, clock_of, time_of, of_kind, is_free, unless_blank, judge, judged_of, judged_at, whole_at}
use Rattle.line_bytes.specs.Inner.Scans.{Stop}
use Rattle.verdicts.specs.declared.Judged.{Judged}
use Rattle.line_bytes.specs.Bytes.{bytes, is_digit, every, equal, numeral}
use Rattle.line_bytes.specs.Spaces.{trim}
use Rattle.verdicts.specs.Verdicts.{Verdict, blank, wrong, out_of_range, good, number_of}
use Rattle.verdicts.specs.Decimals.{decimal_of}
use Rattle.verdicts.specs.Dates.{is_date}
use Rattle.verdicts.specs.Kinds.{Kind, measured, latitude, longitude, depth, flag, ctd_flag, expocode, stnnbr, castno, date, time, free, kind_of}
use Rattle.verdicts.specs.Inner.Ranges.{top_of, ranged_of}
use Rattle.line_bytes.proofs.CellLaws.{both_true}
use Rattle.verdicts.proofs.SizeLaws.{Small, small_either, decimal_small}
use Rattle.line_bytes.proofs.DigitLaws.{numeral-below}
use Rattle.verdicts.proofs.KindLaws.{sized, in_year, in_day}

-- ---- whether a cell goes on at a place: the test that the code makes, and back
pub stop_from : (c : ℕ) (s : List ℕ) (i e : ℕ) → stops_at c s i e ≡ true → Stop c s i e
unfolding stops_at
stop_from c s i e h =
    let a = both_true (leb i e && ltb e (length s)) (eqb (get_or s e 0) 10 && separates c) h in
    let b = both_true (leb i e) (ltb e (length s)) a.0 in
    let d = both_true (eqb (get_or s e 0) 10) (separates c) a.1 in
    record { inside = leb-true i e b.0; room = ltb-true e (length s) b.1; feed = eqb-true (get_or s e 0) 10 d.0; parts = d.1 }

pub stop-holds : {c : ℕ} {s : List ℕ} {i e : ℕ} → Stop c s i e → stops_at c s i e ≡ true
unfolding stops_at
stop-holds {c} {s} {i} {e} t =
    rw (le-leb i e t.inside, lt-ltb e (length s) t.room, eq-eqb (get_or s e 0) 10 t.feed) t.parts

-- ---- a cell by its kind
ranged_judged : (top n : ℕ) (v : Verdict) → ranged_of top (judged_of n v) ≡ judged_of n (at_most top v)
ranged_judged top n blank = rw (le-ltb top 0 (omega arith))
ranged_judged top n wrong = rw (le-ltb top 0 (omega arith))
ranged_judged top n out_of_range = rw (le-ltb top 0 (omega arith))
ranged_judged top n (good m v d) = go (ltb top v)
  where
    go : (z : Bool) → cond z (judged_of n out_of_range) (judged_of n (good m v d)) ≡ judged_of n (cond z out_of_range (good m v d))
    go true = refl
    go false = refl

unless_most : (top : ℕ) (f : List ℕ → Verdict) (t : List ℕ) → at_most top (unless_blank f t) ≡ unless_blank (λ u. at_most top (f u)) t
unless_most top f [] = refl
unless_most top f (x ∷ t) = refl

most_small : (top high most : ℕ) (v : Verdict) → high ≤ top → Small high most v → at_most top v ≡ v
most_small top high most blank l h = refl
most_small top high most wrong l h = refl
most_small top high most out_of_range l h = refl
most_small top high most (good m v d) l h = rw (le-ltb top v (omega arith))

unless-decimal : (t : List ℕ) → at_most (10 ^ 15) (unless_blank decimal_of t) ≡ unless_blank decimal_of t
unless-decimal [] = refl
unless-decimal (x ∷ t) = most_small (10 ^ 15) 999999999999999 6 (decimal_of (x ∷ t)) (omega arith) (decimal_small (x ∷ t))

kind-beyond : (k : ℕ) → 10 < k → kind_of k ≡ free
unfolding kind_of
kind-beyond k l =
    rw (
      ne_eqb k 0 (λ z. omega arith),
      ne_eqb k 1 (λ z. omega arith),
      ne_eqb k 2 (λ z. omega arith),
      ne_eqb k 3 (λ z. omega arith),
      ne_eqb k 4 (λ z. omega arith),
      ne_eqb k 5 (λ z. omega arith),
      ne_eqb k 6 (λ z. omega arith),
      ne_eqb k 7 (λ z. omega arith),
      ne_eqb k 8 (λ z. omega arith),
      ne_eqb k 9 (λ z. omega arith),
      ne_eqb k 10 (λ z. omega arith),
    )

kind_most : (u : List ℕ) (k : ℕ) → k < 4 → at_most (top_of k) (unless_blank decimal_of (trim u)) ≡ judge (kind_of k) u
unfolding kind_of judge of_kind
kind_most u zero l = unless-decimal (trim u)
kind_most u (suc zero) l = unless_most 90000000 decimal_of (trim u)
kind_most u (suc (suc zero)) l = unless_most 180000000 decimal_of (trim u)
kind_most u (suc (suc (suc zero))) l = unless-decimal (trim u)
kind_most u (suc (suc (suc (suc k)))) l = absurd (omega arith)

module _ (n : ℕ) (u : List ℕ) (x : Judged) where
  pub kind-decimal : (k top : ℕ) (y : Judged) → k < 4 → top ≡ top_of k → y ≡ judged_of n (unless_blank decimal_of (trim u)) → x ≡ ranged_of top y
      → x ≡ judged_of n (judge (kind_of k) u)
  kind-decimal k top y l e g h =
      h ∙ rw (e, g) (ranged_judged (top_of k) n (unless_blank decimal_of (trim u)) ∙ ap (judged_of n) (kind_most u k l))

  pub kind-flag : (k : ℕ) → 4 ≤ k → k < 6 → x ≡ judged_of n (unless_blank (λ t. in_flags (eqb k 5) (whole_of 1 t)) (trim u)) → x ≡ judged_of n (judge (kind_of k) u)
  unfolding kind_of judge of_kind
  kind-flag k b l h =
      ⊎_elim (λ (g : 4 ≡ k). rw (sym g) (rw (sym g) at h))
      (λ (g : 4 < k). let e : k ≡ 5 = omega arith in rw e (rw e at h))
      (eq-or-lt_of_le b)

  pub kind-key : (k : ℕ) → 6 ≤ k → k < 8 → x ≡ judged_of n (unless_blank key_text_of (trim u)) → x ≡ judged_of n (judge (kind_of k) u)
  unfolding kind_of judge of_kind
  kind-key k b l h =
      ⊎_elim (λ (g : 6 ≡ k). rw (sym g) h)
      (λ (g : 6 < k). let e : k ≡ 7 = omega arith in rw e h)
      (eq-or-lt_of_le b)

  module _ (k : ℕ) where
    pub kind-castno : (y : Judged) → k ≡ 8 → y ≡ judged_of n (unless_blank (whole_of 9) (trim u)) → x ≡ ranged_of 999 y → x ≡ judged_of n (judge (kind_of k) u)
    unfolding kind_of judge of_kind
    kind-castno y e g h =
        rw e (h ∙ rw g (ranged_judged 999 n (unless_blank (whole_of 9) (trim u)) ∙ ap (judged_of n) (unless_most 999 (whole_of 9) (trim u))))

    pub kind-date : k ≡ 9 → x ≡ judged_of n (unless_blank date_of (trim u)) → x ≡ judged_of n (judge (kind_of k) u)
    unfolding kind_of judge of_kind
    kind-date e h = rw e h

    pub kind-time : k ≡ 10 → x ≡ judged_of n (unless_blank time_of (trim u)) → x ≡ judged_of n (judge (kind_of k) u)
    unfolding kind_of judge of_kind
    kind-time e h = rw e h

    pub kind-free : 10 < k → x ≡ judged_of n (good false 0 0) → x ≡ judged_of n (judge (kind_of k) u)
    unfolding judge
    kind-free l h = rw (kind-beyond k l) h

-- ---- how large a kind's numbers are
abbrev pub largest : Kind → ℕ
largest measured = 999999999999999
largest latitude = 90000000
largest longitude = 180000000
largest depth = 999999999999999
largest flag = 9
largest ctd_flag = 9
largest expocode = 0
largest stnnbr = 0
largest castno = 999
largest date = 99999999
largest time = 9999
largest free = 0

small_sized : (g : ℕ → Bool) (f : ℕ → Verdict) (n : ℕ) (t : List ℕ) → ((k : ℕ) → g k ≡ true → k ≤ n)
    → ((v : ℕ) → v ≤ 10 ^ n - 1 → Small (10 ^ n - 1) 6 (f v)) → Small (10 ^ n - 1) 6 (sized g f t)
small_sized g f n t b h = go (every is_digit t && g (length t)) refl
  where
    go : (z : Bool) → (every is_digit t && g (length t)) ≡ z → Small (10 ^ n - 1) 6 (cond z (f (numeral 0 t)) wrong)
    go true e =
        let p = both_true (every is_digit t) (g (length t)) e in
        let w : 10 ^ length t ≤ 10 ^ n = pow-le-pow_right (omega arith) (b (length t) p.1) in
        h (numeral 0 t) (omega (arith, numeral-below t 0 p.0))
    go false e = tt

pub whole_small : (most : ℕ) (t : List ℕ) → Small (10 ^ most - 1) 6 (whole_of most t)
unfolding whole_of
whole_small most t = small_sized (λ n. leb n most) (λ n. good false n 0) most t (λ k h. leb-true k most h) (λ v h. (h, omega arith))

small_most : (top high most : ℕ) (v : Verdict) → Small high most v → Small top most (at_most top v)
small_most top high most blank h = tt
small_most top high most wrong h = tt
small_most top high most out_of_range h = tt
small_most top high most (good m v d) h = go (ltb top v) refl
  where
    go : (z : Bool) → ltb top v ≡ z → Small top most (cond z out_of_range (good m v d))
    go true e = tt
    go false e = (ltb-false top v e, h.1)

small_flags : (ctd : Bool) (top most : ℕ) (v : Verdict) → Small top most v → Small top most (in_flags ctd v)
small_flags ctd top most blank h = tt
small_flags ctd top most wrong h = tt
small_flags ctd top most out_of_range h = tt
small_flags ctd top most (good m v d) h = small_either top most (in_set ctd v) (good m v d) out_of_range h tt

date_small : (t : List ℕ) → Small 99999999 6 (date_of t)
unfolding date_of
date_small t =
    small_sized (λ n. eqb n 8) in_year 8 t (λ k h. omega (arith, eqb-true k 8 h))
    (λ v h. small_either 99999999 6 (is_date v) (good false v 0) out_of_range (h, omega arith) tt)

time_small : (t : List ℕ) → Small 9999 6 (time_of t)
unfolding time_of clock_of
time_small t =
    small_either 9999 6 (equal t (bytes "-999")) (good true 999 0) _ (omega arith)
    (small_sized (λ n. eqb n 4) in_day 4 t (λ k h. omega (arith, eqb-true k 4 h))
    (λ v h. small_either 9999 6 (leb (v / 100) 23 && leb (v % 100) 59) (good false v 0) out_of_range (h, omega arith) tt))

kind_small : (k : Kind) (t : List ℕ) → Small (largest k) 6 (of_kind k t)
unfolding of_kind key_text_of
kind_small measured t = decimal_small t
kind_small latitude t = small_most 90000000 999999999999999 6 (decimal_of t) (decimal_small t)
kind_small longitude t = small_most 180000000 999999999999999 6 (decimal_of t) (decimal_small t)
kind_small depth t = decimal_small t
kind_small flag t = small_flags false 9 6 (whole_of 1 t) (whole_small 1 t)
kind_small ctd_flag t = small_flags true 9 6 (whole_of 1 t) (whole_small 1 t)
kind_small expocode t = small_either 0 6 (every key_byte t) (good false 0 0) wrong (omega arith) tt
kind_small stnnbr t = small_either 0 6 (every key_byte t) (good false 0 0) wrong (omega arith) tt
kind_small castno t = small_most 999 999999999 6 (whole_of 9 t) (whole_small 9 t)
kind_small date t = date_small t
kind_small time t = time_small t
kind_small free t = omega arith

pub unless_small : (top most : ℕ) (f : List ℕ → Verdict) (t : List ℕ) → ((u : List ℕ) → Small top most (f u)) → Small top most (unless_blank f t)
unless_small top most f [] h = tt
unless_small top most f (x ∷ t) h = h (x ∷ t)

pub judge_small : (k : Kind) (t : List ℕ) → Small (largest k) 6 (judge k t)
unfolding judge
judge_small k t =
    small_either (largest k) 6 (is_free k) (good false 0 0) (unless_blank (of_kind k) (trim t)) (omega arith)
    (unless_small (largest k) 6 (of_kind k) (trim t) (kind_small k))

-- ---- the code's record of a verdict
pub judged_at_lem : (n : ℕ) (v : Verdict) → (judged_of n v).at ≡ n
judged_at_lem n blank = refl
judged_at_lem n wrong = refl
judged_at_lem n out_of_range = refl
judged_at_lem n (good m v d) = refl

pub judged-number : (n : ℕ) (v : Verdict) → (judged_of n v).number ≡ number_of v
judged-number n blank = refl
judged-number n wrong = refl
judged-number n out_of_range = refl
judged-number n (good m v d) = refl

pub judged_small : (top most n : ℕ) (v : Verdict) → Small top most v → ((judged_of n v).size ≤ top) × ((judged_of n v).decimals ≤ most)
judged_small top most n blank h = omega arith
judged_small top most n wrong h = omega arith
judged_small top most n out_of_range h = omega arith
judged_small top most n (good m v d) h = h

-- where it has no refusal's number, the verdict is good
pub judged-good : (n : ℕ) (v : Verdict) → (judged_of n v).number ≡ 0 → v ≡ good (judged_of n v).minus (judged_of n v).size (judged_of n v).decimals
judged-good n blank h = absurd (omega arith)
judged-good n wrong h = absurd (omega arith)
judged-good n out_of_range h = absurd (omega arith)
judged-good n (good m v d) h = refl

-- ---- what the calls give
module _ {c : ℕ} {s : List ℕ} {i e : ℕ} (t : Stop c s i e) where
  pub judged-stop : (k : ℕ) → judged_at k c s i e ≡ judged_of (cell_end c s i) (judge (kind_of k) (cell_at c s i))
  unfolding judged_at
  judged-stop k = rw (stop-holds t)

  pub judged-end : (k : ℕ) → (judged_at k c s i e).at ≡ cell_end c s i
  judged-end k = rw (judged-stop k) (judged_at_lem (cell_end c s i) (judge (kind_of k) (cell_at c s i)))

  pub whole-stop : (most : ℕ) → most ≤ 9
      → whole_at most c s i e ≡ judged_of (cell_end c s i) (unless_blank (whole_of most) (trim (cell_at c s i)))
  unfolding whole_at
  whole-stop most h = rw (le-leb most 9 h, stop-holds t)

  pub whole-end : (most : ℕ) → most ≤ 9 → (whole_at most c s i e).at ≡ cell_end c s i
  whole-end most h = rw (whole-stop most h) (judged_at_lem (cell_end c s i) (unless_blank (whole_of most) (trim (cell_at c s i))))

sizes_either : (top i : ℕ) (z : Bool) (x : Judged) → (x.size ≤ top) × (x.decimals ≤ 6)
    → ((cond z x (judged_of i wrong)).size ≤ top) × ((cond z x (judged_of i wrong)).decimals ≤ 6)
sizes_either top i true x h = h
sizes_either top i false x h = omega arith

module _ (c : ℕ) (s : List ℕ) (i e : ℕ) where
  pub judged_sizes : (k : ℕ) → ((judged_at k c s i e).size ≤ largest (kind_of k)) × ((judged_at k c s i e).decimals ≤ 6)
  unfolding judged_at
  judged_sizes k =
      sizes_either (largest (kind_of k)) i (stops_at c s i e) (judged_of (cell_end c s i) (judge (kind_of k) (cell_at c s i)))
      (judged_small (largest (kind_of k)) 6 (cell_end c s i) (judge (kind_of k) (cell_at c s i)) (judge_small (kind_of k) (cell_at c s i)))

  pub whole_sizes : (most : ℕ) → ((whole_at most c s i e).size ≤ 10 ^ most - 1) × ((whole_at most c s i e).decimals ≤ 6)
  unfolding whole_at
  whole_sizes most =
      let v = unless_blank (whole_of most) (trim (cell_at c s i)) in
      sizes_either (10 ^ most - 1) i (leb most 9 && stops_at c s i e) (judged_of (cell_end c s i) v)
      (judged_small (10 ^ most - 1) 6 (cell_end c s i) v (unless_small (10 ^ most - 1) 6 (whole_of most) (trim (cell_at c s i)) (whole_small most)))
