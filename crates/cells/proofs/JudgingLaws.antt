-- Whole numbers, flags, key texts, dates and times by what is left of their cells.
use Prim.Native.Nat.{ℕ, zero, suc, ◌+◌, ◌-◌, ◌/◌, ◌%◌, ◌≤◌, ◌<◌}
use mathlib.Core.Path.{◌≡◌, refl, sym, ◌∙◌}
use mathlib.Core.List.{List, [], ◌∷◌}
use mathlib.Core.Bool.{Bool, true, false, cond, not, ◌&&◌, ◌||◌, and-false, true≢false}
use mathlib.Core.Logic.{⊎_elim}
use native.Mathlib.Nat.{add-zero, zero-add}
use native.Mathlib.Omega.{arith}
use lib.ListN.{length, get_or}
use lib.Dec.{eqb, leb, ltb}
use borrow.Author.Tests.{lt-ltb, eqb-true, eqb-false, eq-eqb, ne_eqb, le-leb, lt-leb, ltb-true, ltb-false}
use Rattle.verdicts.specs.declared.Judged.{Judged}
use Rattle.line_bytes.specs.Bytes.{is_space, is_digit, every, equal, numeral}
use Rattle.line_bytes.specs.Cells.{cell_at, cell_end}
use Rattle.verdicts.specs.Verdicts.{Verdict, blank, wrong, out_of_range, good}
use Rattle.verdicts.specs.Kinds.{kind_of}
use Rattle.verdicts.specs.Dates.{is_date}
use Rattle.verdicts.specs.Judge.{is_free, of_kind, judge, whole_of, in_set, in_flags, key_byte, key_text_of, date_of, clock_of, time_of, judged_of}
use Rattle.verdicts.specs.Inner.Ranges.{within_of}
use Rattle.line_bytes.specs.Inner.Scans.{Stop}
use Rattle.cells.specs.Inner.Runs.{Written, Spaced, Counted, Worded, word_byte, body, closing}
use Rattle.line_bytes.proofs.CellLaws.{is_end, inside-cell, stop_moved, stop-inside, cell_end_in, scan_undo}
use Rattle.line_bytes.proofs.DigitLaws.{digit_range, digit_low, digit-high, digit_yes}
use Rattle.cells.proofs.ScanLaws.{judged-blank, word-inside, word-outside, body_end, body_solid, body-digit, body-first, cell_end_digits}
use Rattle.cells.proofs.DecimalLaws.{closing-wrong}
use Rattle.verdicts.proofs.KindLaws.{sized, in_year, in_day}

-- ---- a kind that asks for a text: a cell without one is blank
kind_asks : (k : ℕ) → k < 11 → is_free (kind_of k) ≡ false
unfolding kind_of
kind_asks zero l = refl
kind_asks (suc zero) l = refl
kind_asks (suc (suc zero)) l = refl
kind_asks (suc (suc (suc zero))) l = refl
kind_asks (suc (suc (suc (suc zero)))) l = refl
kind_asks (suc (suc (suc (suc (suc zero))))) l = refl
kind_asks (suc (suc (suc (suc (suc (suc zero)))))) l = refl
kind_asks (suc (suc (suc (suc (suc (suc (suc zero))))))) l = refl
kind_asks (suc (suc (suc (suc (suc (suc (suc (suc zero)))))))) l = refl
kind_asks (suc (suc (suc (suc (suc (suc (suc (suc (suc zero))))))))) l = refl
kind_asks (suc (suc (suc (suc (suc (suc (suc (suc (suc (suc zero)))))))))) l = refl
kind_asks (suc (suc (suc (suc (suc (suc (suc (suc (suc (suc (suc k))))))))))) l = absurd (omega arith)

-- by the code's test, whose first half is b: d is whether a cell ends there
pub text_asked : (b d : Bool) (k : ℕ) → b ≡ d → (b && ltb k 11) ≡ false → k < 11 → d ≡ false
text_asked b d k e h l = sym e ∙ go b h
  where
    go : (b : Bool) → (b && ltb k 11) ≡ false → b ≡ false
    go true h = absurd (true≢false (sym (lt-ltb k 11 l) ∙ h))
    go false h = refl

module _ {c : ℕ} {s : List ℕ} {i e a : ℕ} (t : Stop c s i e) (r : Spaced s i e a) (k : ℕ) (x : Judged) where
  pub kind-blank : (b : Bool) → b ≡ is_end c (get_or s a 0) → (b && ltb k 11) ≡ true → x ≡ judged_of a blank
      → x ≡ judged_of (cell_end c s i) (judge (kind_of k) (cell_at c s i))
  unfolding judge
  kind-blank true d h g = rw (kind_asks k (ltb-true k 11 h)) (judged-blank t r (of_kind (kind_of k)) x (sym d) g)
  kind-blank false d h g = absurd (true≢false (sym h))

-- ---- a text of digits: what a run of them leaves of it
module _ {c : ℕ} {s : List ℕ} {j e : ℕ} (t : Stop c s j e) where
  every_digits : {i v q n w : ℕ} → Written s i v q n w → every is_digit (body c s i) ≡ every is_digit (body c s q)
  unfolding every
  every_digits Written.still = refl
  every_digits (Written.more {q} r l d) = every_digits r ∙ rw (body-digit t q l d) (rw d)

  length_digits : {i v q n w : ℕ} → Written s i v q n w → length (body c s i) ≡ n + length (body c s q)
  length_digits {i} Written.still = sym (zero-add (length (body c s i)))
  length_digits (Written.more {q} r l d) = length_digits r ∙ rw (body-digit t q l d) (omega arith)

  numeral_digits : {i v q n w : ℕ} → Written s i v q n w → numeral v (body c s i) ≡ numeral w (body c s q)
  unfolding numeral
  numeral_digits Written.still = refl
  numeral_digits (Written.more {q} r l d) = numeral_digits r ∙ rw (body-digit t q l d)

module _ {c : ℕ} {s : List ℕ} {i e limit q v : ℕ} (t : Stop c s i e) (r : Counted s i e limit 0 q v) (g : ℕ → Bool) (f : ℕ → Verdict) where
  -- the digits passed are too many already
  sized-over : ((k : ℕ) → q - i ≤ k → g k ≡ false) → sized g f (body c s i) ≡ wrong
  sized-over n =
      rw (length_digits t r.over, n (q - i + length (body c s q)) (omega arith), and-false (every is_digit (body c s i)))

  -- another byte ended them
  sized-run : q < limit → sized g f (body c s i) ≡ closing (cond (g (q - i)) (f v) wrong) (body c s q)
  unfolding every numeral
  sized-run l =
      rw (every_digits t r.over, length_digits t r.over, numeral_digits t r.over)
      (⊎_elim (λ (h : body c s q ≡ []). rw h (rw (add-zero (q - i))))
      (λ (h : (ys : List ℕ) × (body c s q ≡ get_or s q 0 ∷ ys)). rw h.1 (rw (r.stops l)))
      (body-first c s q (omega arith)))

-- ---- what is left of a text closed, y, and held to a set or a range: o is the verdict with it
module _ (n : ℕ) (t : List ℕ) (v : ℕ) (o : Verdict) (y : Judged) (h : y ≡ judged_of n (closing (good false v 0) t)) (x : Judged) where
  held : (z : Bool) → o ≡ cond z (good false v 0) out_of_range → x ≡ within_of z y → x ≡ judged_of n (closing o t)
  held true e g = rw e (g ∙ h)
  held false e g = rw e (g ∙ go t h)
    where
      go : (u : List ℕ) → y ≡ judged_of n (closing (good false v 0) u) → within_of false y ≡ judged_of n (closing out_of_range u)
      go [] h = rw h
      go (a ∷ u) h = rw h

-- ---- whole numbers
module _ {c : ℕ} {s : List ℕ} {i e q v : ℕ} (t : Stop c s i e) (r : Counted s i e (i + 10) 0 q v) (most : ℕ) (x : Judged) where
  pub whole_wide : most < q - i → x ≡ judged_of (cell_end c s q) wrong → x ≡ judged_of (cell_end c s i) (whole_of most (body c s i))
  unfolding whole_of
  whole_wide w h =
      rw (sized-over t r (λ n. leb n most) (λ n. good false n 0) (λ k l. lt-leb k most (omega arith)), cell_end_digits t r.over) h

  whole_run : most ≤ 9 → q - i ≤ most → whole_of most (body c s i) ≡ closing (good false v 0) (body c s q)
  unfolding whole_of
  whole_run b w = sized-run t r (λ n. leb n most) (λ n. good false n 0) (omega arith) ∙ rw (le-leb (q - i) most w)

  pub whole-none : is_end c (get_or s i 0) ≡ false → is_space (get_or s i 0) ≡ false → q ≡ i → x ≡ judged_of (cell_end c s q) wrong
      → x ≡ judged_of (cell_end c s i) (whole_of most (body c s i))
  unfolding whole_of every
  whole-none d n z h =
      let l : i < length s = omega arith in
      let o : is_digit (get_or s i 0) ≡ false = rw z at (r.stops (omega arith)) in
      rw (body_solid c s i l d n) (rw o (rw z at h))

  pub whole-good : most ≤ 9 → q - i ≤ most → x ≡ judged_of (cell_end c s q) (closing (good false v 0) (body c s q))
      → x ≡ judged_of (cell_end c s i) (whole_of most (body c s i))
  whole-good b w h = rw (whole_run b w, cell_end_digits t r.over) h

-- of the numbers up to 9 the set has all but 0, and 8 for CTD
set-digit : (ctd : Bool) (v : ℕ) → v ≤ 9 → in_set ctd v ≡ not (eqb v 0 || (ctd && eqb v 8))
set-digit ctd v h = go (eqb v 0) refl
  where
    go : (z : Bool) → eqb v 0 ≡ z → in_set ctd v ≡ not (z || (ctd && eqb v 8))
    go true e = rw (lt-leb 1 v (omega (arith, eqb-true v 0 e)))
    go false e = rw (le-leb 1 v (omega (arith, eqb-false v 0 e)), le-leb v 9 h)

cond_not : (z : Bool) (a b : Verdict) → cond (not z) a b ≡ cond z b a
cond_not true a b = refl
cond_not false a b = refl

module _ (x : ℕ) where
  digit-outside : (ltb x 48 || ltb 57 x) ≡ true → is_digit x ≡ false
  digit-outside h = go (ltb x 48) (ltb 57 x) refl refl h
    where
      go : (a b : Bool) → ltb x 48 ≡ a → ltb 57 x ≡ b → (a || b) ≡ true → is_digit x ≡ false
      go true b p q h = digit_low x (ltb-true x 48 p)
      go false true p q h = digit-high x (ltb-true 57 x q)
      go false false p q h = absurd (true≢false (sym h))

  pub digit-within : (ltb x 48 || ltb 57 x) ≡ false → is_digit x ≡ true
  digit-within h = go (ltb x 48) (ltb 57 x) refl refl h
    where
      go : (a b : Bool) → ltb x 48 ≡ a → ltb 57 x ≡ b → (a || b) ≡ false → is_digit x ≡ true
      go true b p q h = absurd (true≢false h)
      go false true p q h = absurd (true≢false h)
      go false false p q h = digit_yes x (ltb-false x 48 p) (ltb-false 57 x q)

  whole_one : (t : List ℕ) → is_digit x ≡ true → whole_of 1 (x ∷ t) ≡ closing (good false (x - 48) 0) t
  unfolding whole_of every numeral
  whole_one [] e = rw (e, zero-add (x - 48))
  whole_one (y ∷ t) e = rw (lt-leb (suc (suc (length t))) 1 (omega arith), and-false (is_digit x && (is_digit y && every is_digit t)))

  shifted : (k : ℕ) → 48 ≤ x → eqb (x - 48) k ≡ eqb x (48 + k)
  shifted k l = go (eqb x (48 + k)) refl
    where
      go : (z : Bool) → eqb x (48 + k) ≡ z → eqb (x - 48) k ≡ z
      go true e = eq-eqb (x - 48) k (omega (arith, eqb-true x (48 + k) e))
      go false e = ne_eqb (x - 48) k (λ h. eqb-false x (48 + k) e (omega arith))

  flag_one : (ctd : Bool) (t : List ℕ) → is_digit x ≡ true
      → in_flags ctd (whole_of 1 (x ∷ t)) ≡ closing (cond (eqb x 48 || (ctd && eqb x 56)) out_of_range (good false (x - 48) 0)) t
  flag_one ctd t e = rw (whole_one t e) (go t)
    where
      go : (u : List ℕ) → in_flags ctd (closing (good false (x - 48) 0) u) ≡ closing (cond (eqb x 48 || (ctd && eqb x 56)) out_of_range (good false (x - 48) 0)) u
      go [] =
          let b = digit_range x e in
          rw (set-digit ctd (x - 48) (omega arith), shifted 0 b.0, shifted 8 b.0)
          (cond_not (eqb x 48 || (ctd && eqb x 56)) (good false (x - 48) 0) out_of_range)
      go (y ∷ u) = refl

module _ {c : ℕ} {s : List ℕ} {a e : ℕ} (t : Stop c s a e) (ctd : Bool) where
  pub flag-wrong : (x : Judged) → is_end c (get_or s a 0) ≡ false → is_space (get_or s a 0) ≡ false → (ltb (get_or s a 0) 48 || ltb 57 (get_or s a 0)) ≡ true
      → x ≡ judged_of (cell_end c s a) wrong → x ≡ judged_of (cell_end c s a) (in_flags ctd (whole_of 1 (body c s a)))
  unfolding whole_of every
  flag-wrong x d n o h = rw (body_solid c s a (omega arith) d n) (rw (digit-outside (get_or s a 0) o) h)

  module _ (d : (ltb (get_or s a 0) 48 || ltb 57 (get_or s a 0)) ≡ false) (y : Judged)
      (h : y ≡ judged_of (cell_end c s (a + 1)) (closing (good false (get_or s a 0 - 48) 0) (body c s (a + 1)))) where
    within : Verdict
    within = cond (eqb (get_or s a 0) 48 || (ctd && eqb (get_or s a 0) 56)) out_of_range (good false (get_or s a 0 - 48) 0)

    flagged : judged_of (cell_end c s (a + 1)) (closing within (body c s (a + 1))) ≡ judged_of (cell_end c s a) (in_flags ctd (whole_of 1 (body c s a)))
    unfolding within
    flagged =
        let n = digit-within (get_or s a 0) d in
        rw (body-digit t a (omega arith) n, flag_one (get_or s a 0) ctd (body c s (a + 1)) n, cell_end_digits t (Written.more {v = 0} Written.still (omega arith) n))

    pub flag-held : (x : Judged) → x ≡ within_of (not (eqb (get_or s a 0) 48 || (ctd && eqb (get_or s a 0) 56))) y
        → x ≡ judged_of (cell_end c s a) (in_flags ctd (whole_of 1 (body c s a)))
    unfolding within
    flag-held x g =
        held _ (body c s (a + 1)) _ within y h x (not (eqb (get_or s a 0) 48 || (ctd && eqb (get_or s a 0) 56)))
        (sym (cond_not (eqb (get_or s a 0) 48 || (ctd && eqb (get_or s a 0) 56)) (good false (get_or s a 0 - 48) 0) out_of_range)) g
        ∙ flagged

-- ---- key texts
module _ {c : ℕ} {s : List ℕ} {i e q : ℕ} (t : Stop c s i e) (r : Worded c s i e q) (x : Judged) where
  cell_end_word : cell_end c s i ≡ cell_end c s q
  cell_end_word =
      scan_undo (λ (p : ℕ). cell_end c s p ≡ cell_end c s q) (λ p l d x. cell_end_in s p l c (word-inside c (get_or s p 0) d).0 ∙ x) r.over refl

  every_word : every key_byte (body c s i) ≡ every key_byte (body c s q)
  unfolding every
  every_word = scan_undo (λ (p : ℕ). every key_byte (body c s p) ≡ every key_byte (body c s q)) one r.over refl
    where
      one : (p : ℕ) → p < length s → word_byte c (get_or s p 0) ≡ true → every key_byte (body c s (p + 1)) ≡ every key_byte (body c s q)
          → every key_byte (body c s p) ≡ every key_byte (body c s q)
      one p l d x =
          let w = word-inside c (get_or s p 0) d in
          rw (body_solid c s p l w.0 w.1) (rw w.2 x)

  key-run : key_text_of (body c s i) ≡ closing (good false 0 0) (body c s q)
  unfolding key_text_of every
  key-run = rw every_word (go (is_end c (get_or s q 0)) refl)
    where
      go : (z : Bool) → is_end c (get_or s q 0) ≡ z → cond (every key_byte (body c s q)) (good false 0 0) wrong ≡ closing (good false 0 0) (body c s q)
      go true d = rw (body_end c s q (omega arith) d)
      go false d =
          ⊎_elim (λ (h : body c s q ≡ []). rw h)
          (λ (h : (ys : List ℕ) × (body c s q ≡ get_or s q 0 ∷ ys)). rw h.1 (rw (word-outside c (get_or s q 0) r.stops d)))
          (body-first c s q (omega arith))

  pub key_word : x ≡ judged_of (cell_end c s q) (closing (good false 0 0) (body c s q)) → x ≡ judged_of (cell_end c s i) (key_text_of (body c s i))
  key_word h = rw (key-run, cell_end_word) h

-- ---- dates and times: so many digits, and a range
module _ {c : ℕ} {s : List ℕ} {i e k q v : ℕ} (t : Stop c s i e) (r : Counted s i e (i + (k + 1)) 0 q v) (f : ℕ → Verdict) where
  fixed-other : (q - i ≡ k → ⊥) → sized (λ n. eqb n k) f (body c s i) ≡ wrong
  fixed-other n = go (ltb q (i + (k + 1))) refl
    where
      go : (z : Bool) → ltb q (i + (k + 1)) ≡ z → sized (λ n. eqb n k) f (body c s i) ≡ wrong
      go true l =
          sized-run t r (λ n. eqb n k) f (ltb-true q (i + (k + 1)) l)
          ∙ rw (ne_eqb (q - i) k n) (closing-wrong (body c s q))
      go false l =
          let w : i + (k + 1) ≤ q = ltb-false q (i + (k + 1)) l in
          sized-over t r (λ n. eqb n k) f (λ m b. ne_eqb m k (λ z. omega arith))

  fixed-run : q - i ≡ k → sized (λ n. eqb n k) f (body c s i) ≡ closing (f v) (body c s q)
  fixed-run n = sized-run t r (λ n. eqb n k) f (omega arith) ∙ rw (eq-eqb (q - i) k n)

module _ {c : ℕ} {s : List ℕ} {i e q v : ℕ} (t : Stop c s i e) (r : Counted s i e (i + 9) 0 q v) where
  pub date-other : (x : Judged) → (q - i ≡ 8 → ⊥) → x ≡ judged_of (cell_end c s q) wrong → x ≡ judged_of (cell_end c s i) (date_of (body c s i))
  unfolding date_of
  date-other x n h = rw (fixed-other {k = 8} t r in_year n, cell_end_digits t r.over) h

  module _ (n : q - i ≡ 8) (y : Judged) (h : y ≡ judged_of (cell_end c s q) (closing (good false v 0) (body c s q))) where
    dated : judged_of (cell_end c s q) (closing (in_year v) (body c s q)) ≡ judged_of (cell_end c s i) (date_of (body c s i))
    unfolding date_of
    dated = rw (fixed-run {k = 8} t r in_year n, cell_end_digits t r.over)

    pub date-held : (x : Judged) (z : Bool) → z ≡ is_date v → x ≡ within_of z y → x ≡ judged_of (cell_end c s i) (date_of (body c s i))
    date-held x z o g = held _ (body c s q) v (in_year v) y h x z (rw o) g ∙ dated

module _ {c : ℕ} {s : List ℕ} {i e q v : ℕ} (t : Stop c s i e) (r : Counted s i e (i + 5) 0 q v) where
  pub clock-other : (x : Judged) → (q - i ≡ 4 → ⊥) → x ≡ judged_of (cell_end c s q) wrong → x ≡ judged_of (cell_end c s i) (clock_of (body c s i))
  unfolding clock_of
  clock-other x n h = rw (fixed-other {k = 4} t r in_day n, cell_end_digits t r.over) h

  module _ (n : q - i ≡ 4) (y : Judged) (h : y ≡ judged_of (cell_end c s q) (closing (good false v 0) (body c s q))) where
    clocked : judged_of (cell_end c s q) (closing (in_day v) (body c s q)) ≡ judged_of (cell_end c s i) (clock_of (body c s i))
    unfolding clock_of
    clocked = rw (fixed-run {k = 4} t r in_day n, cell_end_digits t r.over)

    pub clock-held : (x : Judged) → x ≡ within_of (leb (v / 100) 23 && leb (v % 100) 59) y → x ≡ judged_of (cell_end c s i) (clock_of (body c s i))
    clock-held x g = held _ (body c s q) v (in_day v) y h x (leb (v / 100) 23 && leb (v % 100) 59) refl g ∙ clocked

-- ---- -999 after its sign
time_minus : (t : List ℕ) → time_of (45 ∷ t) ≡ cond (equal t (57 ∷ 57 ∷ 57 ∷ [])) (good true 999 0) wrong
unfolding time_of clock_of every equal
time_minus t = refl

time_clock : (x : ℕ) (t : List ℕ) → (x ≡ 45 → ⊥) → time_of (x ∷ t) ≡ clock_of (x ∷ t)
unfolding time_of equal
time_clock x t n = rw (ne_eqb x 45 n)

equal-end : (v : Verdict) (t : List ℕ) → cond (equal t []) v wrong ≡ closing v t
unfolding equal
equal-end v [] = refl
equal-end v (x ∷ t) = refl

module _ {c : ℕ} {s : List ℕ} {p e : ℕ} (t : Stop c s p e) (ys : List ℕ) where
  nine-end : get_or s p 0 ≡ 57 → is_end c (get_or s p 0) ≡ false
  nine-end h = rw h (inside-cell c 57 t.parts (omega arith) (λ z. omega arith))

  nine_in : get_or s p 0 ≡ 57 → equal (body c s p) (57 ∷ ys) ≡ equal (body c s (p + 1)) ys
  unfolding equal
  nine_in h = rw (body_solid c s p (omega arith) (nine-end h) (rw h)) (rw h)

  nine_out : (get_or s p 0 ≡ 57 → ⊥) → equal (body c s p) (57 ∷ ys) ≡ false
  unfolding equal
  nine_out n =
      ⊎_elim (λ (h : body c s p ≡ []). rw h)
      (λ (h : (zs : List ℕ) × (body c s p ≡ get_or s p 0 ∷ zs)). rw h.1 (rw (ne_eqb (get_or s p 0) 57 n)))
      (body-first c s p (omega arith))

module _ {c : ℕ} {s : List ℕ} {p e : ℕ} (t : Stop c s p e) where
  pub nine-next : get_or s p 0 ≡ 57 → Stop c s (p + 1) e
  nine-next h = stop_moved t (omega (arith, stop-inside t (nine-end t [] h)))

  nine-skip : get_or s p 0 ≡ 57 → cell_end c s p ≡ cell_end c s (p + 1)
  nine-skip h = cell_end_in s p (omega arith) c (nine-end t [] h)

module _ {c : ℕ} {s : List ℕ} {p e : ℕ} (t : Stop c s p e) where
  pub nines_two : get_or s p 0 ≡ 57 → get_or s (p + 1) 0 ≡ 57 → Stop c s (p + 2) e
  nines_two a b = let u = nine-next (nine-next t a) b in stop_moved t (omega arith)

  pub nines_three : get_or s p 0 ≡ 57 → get_or s (p + 1) 0 ≡ 57 → get_or s (p + 2) 0 ≡ 57 → Stop c s (p + 3) e
  nines_three a b d = let u = nine-next (nines_two a b) d in stop_moved t (omega arith)

  module _ (x : Judged) where
    nines-wrong : equal (body c s p) (57 ∷ 57 ∷ 57 ∷ []) ≡ false → x ≡ judged_of (cell_end c s p) wrong
        → x ≡ judged_of (cell_end c s p) (time_of (45 ∷ body c s p))
    nines-wrong d h = rw (time_minus (body c s p), d) h

    pub time-first : (get_or s p 0 ≡ 57 → ⊥) → x ≡ judged_of (cell_end c s p) wrong → x ≡ judged_of (cell_end c s p) (time_of (45 ∷ body c s p))
    time-first n h = nines-wrong (nine_out t (57 ∷ 57 ∷ []) n) h

    module _ (a : get_or s p 0 ≡ 57) where
      pub time_second : (get_or s (p + 1) 0 ≡ 57 → ⊥) → x ≡ judged_of (cell_end c s p) wrong → x ≡ judged_of (cell_end c s p) (time_of (45 ∷ body c s p))
      time_second n h = nines-wrong (nine_in t (57 ∷ 57 ∷ []) a ∙ nine_out (nine-next t a) (57 ∷ []) n) h

      module _ (b : get_or s (p + 1) 0 ≡ 57) where
        two : equal (body c s p) (57 ∷ 57 ∷ 57 ∷ []) ≡ equal (body c s (p + 2)) (57 ∷ [])
        two =
            let z : p + 1 + 1 ≡ p + 2 = omega arith in
            nine_in t (57 ∷ 57 ∷ []) a ∙ rw z at (nine_in (nine-next t a) (57 ∷ []) b)

        pub time_third : (get_or s (p + 2) 0 ≡ 57 → ⊥) → x ≡ judged_of (cell_end c s p) wrong → x ≡ judged_of (cell_end c s p) (time_of (45 ∷ body c s p))
        time_third n h = nines-wrong (two ∙ nine_out (nines_two a b) [] n) h

        pub time_nines : get_or s (p + 2) 0 ≡ 57 → x ≡ judged_of (cell_end c s (p + 3)) (closing (good true 999 0) (body c s (p + 3)))
            → x ≡ judged_of (cell_end c s p) (time_of (45 ∷ body c s p))
        time_nines d h =
            let z : p + 1 + 1 ≡ p + 2 = omega arith in
            let y : p + 2 + 1 ≡ p + 3 = omega arith in
            let u : cell_end c s p ≡ cell_end c s (p + 3) = nine-skip t a ∙ (rw z at (nine-skip (nine-next t a) b)) ∙ (rw y at (nine-skip (nines_two a b) d)) in
            let w : equal (body c s p) (57 ∷ 57 ∷ 57 ∷ []) ≡ equal (body c s (p + 3)) [] = two ∙ (rw y at (nine_in (nines_two a b) [] d)) in
            rw (time_minus (body c s p), w, u, equal-end (good true 999 0) (body c s (p + 3))) h

  -- ---- a time of day, or -999
  module _ (x : Judged) (d : is_end c (get_or s p 0) ≡ false) where
    pub time_minus_sign : get_or s p 0 ≡ 45 → x ≡ judged_of (cell_end c s (p + 1)) (time_of (45 ∷ body c s (p + 1))) → x ≡ judged_of (cell_end c s p) (time_of (body c s p))
    time_minus_sign m h = rw (body_solid c s p (omega arith) d (rw m), cell_end_in s p (omega arith) c d) (rw m h)

    pub time_of_day : is_space (get_or s p 0) ≡ false → (get_or s p 0 ≡ 45 → ⊥) → x ≡ judged_of (cell_end c s p) (clock_of (body c s p)) → x ≡ judged_of (cell_end c s p) (time_of (body c s p))
    time_of_day n m h =
        let b = body_solid c s p (omega arith) d n in
        rw (b, time_clock (get_or s p 0) (body c s (p + 1)) m) (rw b at h)
