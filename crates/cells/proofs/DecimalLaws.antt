-- A decimal read byte by byte, and what runs of digits make of it.
use Prim.Native.Nat.{ℕ, suc, ◌+◌, ◌-◌, ◌*◌, ◌^◌, ◌≤◌, ◌<◌}
use mathlib.Core.Path.{◌≡◌, refl, sym, ap, ◌∙◌}
use mathlib.Core.List.{List, [], ◌∷◌, ◌++◌}
use mathlib.Core.Bool.{Bool, true, false, cond, ◌&&◌, ◌||◌, and-false}
use mathlib.Core.Logic.{⊎_elim}
use native.Mathlib.Nat.{add-zero, zero-add}
use native.Mathlib.Omega.{arith}
use lib.ListN.{length, get_or}
use lib.Dec.{eqb, leb}
use borrow.Author.Tests.{ne_eqb, le-leb, lt-leb}
use Rattle.verdicts.specs.declared.Judged.{Judged}
use Rattle.line_bytes.specs.Bytes.{is_digit, every, numeral}
use Rattle.line_bytes.specs.Cells.{cell_end}
use Rattle.verdicts.specs.Verdicts.{Verdict, wrong, good}
use Rattle.verdicts.specs.Decimals.{front, fraction, settle, unsigned_of, decimal_of}
use Rattle.verdicts.specs.Judge.{judged_of}
use Rattle.line_bytes.specs.Inner.Scans.{Stop}
use Rattle.cells.specs.Inner.Runs.{Written, Begun, Counted, body, closing}
use Rattle.line_bytes.proofs.CellLaws.{is_end, inside-cell, cell_end_in}
use Rattle.cells.proofs.ScanLaws.{body_solid, body-digit, body-first, cell_end_digits}

-- The number v so far, b digits before the point and a after it; the flag says that the point was seen.
unfoldable dec : Bool → ℕ → ℕ → ℕ → Bool → List ℕ → Verdict
dec m v b a p [] = settle m v b a
dec m v b a true (x ∷ xs) = cond (is_digit x) (dec m (v * 10 + (x - 48)) b (a + 1) true xs) wrong
dec m v b a false (x ∷ xs) =
    cond (is_digit x) (dec m (v * 10 + (x - 48)) (b + 1) a false xs)
    (cond (eqb x 46) (dec m v b a true xs) wrong)

-- ---- it is the plain one
dec-after : (m : Bool) (t : List ℕ) (v b a : ℕ) → dec m v b a true t ≡ cond (every is_digit t) (settle m (numeral v t) b (a + length t)) wrong
unfolding dec every numeral
dec-after m [] v b a = ap (settle m v b) (omega arith)
dec-after m (x ∷ xs) v b a = go (is_digit x) (dec-after m xs (v * 10 + (x - 48)) b (a + 1))
  where
    go : (z : Bool)
        → dec m (v * 10 + (x - 48)) b (a + 1) true xs ≡ cond (every is_digit xs) (settle m (numeral (v * 10 + (x - 48)) xs) b (a + 1 + length xs)) wrong
        → cond z (dec m (v * 10 + (x - 48)) b (a + 1) true xs) wrong
        ≡ cond (z && every is_digit xs) (settle m (numeral (v * 10 + (x - 48)) xs) b (a + suc (length xs))) wrong
    go true ih = ih ∙ ap (λ (k : ℕ). cond (every is_digit xs) (settle m (numeral (v * 10 + (x - 48)) xs) b k) wrong) (omega arith)
    go false ih = refl

dec-before : (m : Bool) (t : List ℕ) (v b : ℕ)
    → dec m v b 0 false t
    ≡ cond (every is_digit (fraction t)) (settle m (numeral v (front t ++ fraction t)) (b + length (front t)) (length (fraction t))) wrong
unfolding dec every numeral front fraction
dec-before m [] v b = ap (λ (k : ℕ). settle m v k 0) (omega arith)
dec-before m (x ∷ xs) v b = go (is_digit x) refl (dec-before m xs (v * 10 + (x - 48)) (b + 1))
  where
    point : (y : Bool) → is_digit x ≡ false
        → cond y (dec m v b 0 true xs) wrong
        ≡ cond (every is_digit (cond y xs (x ∷ xs))) (settle m (numeral v (cond y xs (x ∷ xs))) (b + 0) (length (cond y xs (x ∷ xs)))) wrong
    point true e = dec-after m xs v b 0 ∙ rw (zero-add (length xs), add-zero b)
    point false e = rw e

    go : (z : Bool) → is_digit x ≡ z
        → dec m (v * 10 + (x - 48)) (b + 1) 0 false xs
        ≡ cond (every is_digit (fraction xs)) (settle m (numeral (v * 10 + (x - 48)) (front xs ++ fraction xs)) (b + 1 + length (front xs)) (length (fraction xs))) wrong
        → cond z (dec m (v * 10 + (x - 48)) (b + 1) 0 false xs) (cond (eqb x 46) (dec m v b 0 true xs) wrong)
        ≡ cond (every is_digit (cond z (fraction xs) (cond (eqb x 46) xs (x ∷ xs))))
        (settle m (numeral v (cond z (x ∷ front xs) [] ++ cond z (fraction xs) (cond (eqb x 46) xs (x ∷ xs))))
        (b + length (cond z (x ∷ front xs) []))
        (length (cond z (fraction xs) (cond (eqb x 46) xs (x ∷ xs)))))
        wrong
    go true e ih =
        ih ∙ ap (λ (k : ℕ). cond (every is_digit (fraction xs)) (settle m (numeral (v * 10 + (x - 48)) (front xs ++ fraction xs)) k (length (fraction xs))) wrong) (omega arith)
    go false e ih = point (eqb x 46) e

dec_plain : (m : Bool) (t : List ℕ) → unsigned_of m t ≡ dec m 0 0 0 false t
unfolding unsigned_of
dec_plain m t = sym (dec-before m t 0 0 ∙ rw (zero-add (length (front t))))

-- ---- the number of digits
settle-good : (m : Bool) (v b a : ℕ) → b ≤ 9 → a ≤ 6 → 1 ≤ b + a → settle m v b a ≡ good m (v * 10 ^ (6 - a)) a
unfolding settle
settle-good m v b a h k l = rw (le-leb b 9 h, le-leb a 6 k, le-leb 1 (b + a) l)

settle-none : (m : Bool) (v b a : ℕ) → b ≡ 0 → a ≡ 0 → settle m v b a ≡ wrong
unfolding settle
settle-none m v b a h k = rw (h, k)

settle-wide : (m : Bool) (v b a : ℕ) → 9 < b → settle m v b a ≡ wrong
unfolding settle
settle-wide m v b a h = rw (lt-leb b 9 h)

settle_fine : (m : Bool) (v b a : ℕ) → 6 < a → settle m v b a ≡ wrong
unfolding settle
settle_fine m v b a h = rw (lt-leb a 6 h, and-false (leb b 9))

wrong_both : (z : Bool) (d e : Verdict) → d ≡ wrong → e ≡ wrong → cond z d e ≡ wrong
wrong_both true d e p q = p
wrong_both false d e p q = q

dec_fine : (m : Bool) (t : List ℕ) (v b a : ℕ) → 6 < a → dec m v b a true t ≡ wrong
unfolding dec
dec_fine m [] v b a h = settle_fine m v b a h
dec_fine m (x ∷ xs) v b a h = wrong_both (is_digit x) _ _ (dec_fine m xs _ b (a + 1) (omega arith)) refl

dec-wide-after : (m : Bool) (t : List ℕ) (v b a : ℕ) → 9 < b → dec m v b a true t ≡ wrong
unfolding dec
dec-wide-after m [] v b a h = settle-wide m v b a h
dec-wide-after m (x ∷ xs) v b a h = wrong_both (is_digit x) _ _ (dec-wide-after m xs _ b (a + 1) h) refl

dec-wide : (m : Bool) (t : List ℕ) (v b a : ℕ) → 9 < b → dec m v b a false t ≡ wrong
unfolding dec
dec-wide m [] v b a h = settle-wide m v b a h
dec-wide m (x ∷ xs) v b a h =
    wrong_both (is_digit x) _ _ (dec-wide m xs _ (b + 1) a (omega arith))
    (wrong_both (eqb x 46) _ _ (dec-wide-after m xs v b a h) refl)

-- ---- a run of digits, and the byte after it
module _ {c : ℕ} {s : List ℕ} {j e : ℕ} (t : Stop c s j e) (m : Bool) where
  before_digits : {i v q n w : ℕ} (b : ℕ) → Written s i v q n w → dec m v b 0 false (body c s i) ≡ dec m w (b + n) 0 false (body c s q)
  unfolding dec
  before_digits b Written.still = rw (add-zero b)
  before_digits b (Written.more {q} {n} {v} r l d) =
      before_digits b r
      ∙ rw (body-digit t q l d) (rw d (ap (λ (k : ℕ). dec m (v * 10 + (get_or s q 0 - 48)) k 0 false (body c s (q + 1))) (omega arith)))

  after_digits : {i v q n w : ℕ} (b a : ℕ) → Written s i v q n w → dec m v b a true (body c s i) ≡ dec m w b (a + n) true (body c s q)
  unfolding dec
  after_digits b a Written.still = rw (add-zero a)
  after_digits b a (Written.more {q} {n} {v} r l d) =
      after_digits b a r
      ∙ rw (body-digit t q l d) (rw d (ap (λ (k : ℕ). dec m (v * 10 + (get_or s q 0 - 48)) b k true (body c s (q + 1))) (omega arith)))

module _ (c : ℕ) (s : List ℕ) (q : ℕ) (l : q < length s) (m : Bool) (v b a : ℕ) (n : is_digit (get_or s q 0) ≡ false) where
  done-before : eqb (get_or s q 0) 46 ≡ false → dec m v b a false (body c s q) ≡ closing (settle m v b a) (body c s q)
  unfolding dec
  done-before p =
      ⊎_elim (λ (h : body c s q ≡ []). rw h)
      (λ (h : (ys : List ℕ) × (body c s q ≡ get_or s q 0 ∷ ys)). rw h.1 (rw (n, p)))
      (body-first c s q l)

  done-after : dec m v b a true (body c s q) ≡ closing (settle m v b a) (body c s q)
  unfolding dec
  done-after =
      ⊎_elim (λ (h : body c s q ≡ []). rw h)
      (λ (h : (ys : List ℕ) × (body c s q ≡ get_or s q 0 ∷ ys)). rw h.1 (rw n))
      (body-first c s q l)

pub closing-wrong : (t : List ℕ) → closing wrong t ≡ wrong
closing-wrong [] = refl
closing-wrong (x ∷ xs) = refl

-- ---- the code's returns: after the digits before the point, and after those behind it
module _ {c : ℕ} {s : List ℕ} {p e q v : ℕ} (t : Stop c s p e) (r : Counted s p e (p + 10) 0 q v) (m : Bool) (x : Judged) where
  here : unsigned_of m (body c s p) ≡ dec m v (q - p) 0 false (body c s q)
  here = dec_plain m (body c s p) ∙ before_digits t m 0 r.over ∙ rw (zero-add (q - p))

  pub unsigned-wide : 9 < q - p → x ≡ judged_of (cell_end c s q) wrong → x ≡ judged_of (cell_end c s p) (unsigned_of m (body c s p))
  unsigned-wide w h = rw (here, dec-wide m (body c s q) v (q - p) 0 w, cell_end_digits t r.over) h

  module _ (n : get_or s q 0 ≡ 46 → ⊥) (w : q - p ≤ 9) where
    whole : unsigned_of m (body c s p) ≡ closing (settle m v (q - p) 0) (body c s q)
    whole = here ∙ done-before c s q (omega arith) m v (q - p) 0 (r.stops (omega arith)) (ne_eqb (get_or s q 0) 46 n)

    pub unsigned-none : q ≡ p → x ≡ judged_of (cell_end c s q) wrong → x ≡ judged_of (cell_end c s p) (unsigned_of m (body c s p))
    unsigned-none z h =
        rw (whole, settle-none m v (q - p) 0 (omega arith) refl, closing-wrong (body c s q), cell_end_digits t r.over) h

    pub unsigned-whole : (q ≡ p → ⊥) → x ≡ judged_of (cell_end c s q) (closing (good m (v * 1000000) 0) (body c s q))
        → x ≡ judged_of (cell_end c s p) (unsigned_of m (body c s p))
    unsigned-whole z h = rw (whole, settle-good m v (q - p) 0 w (omega arith) (omega arith), cell_end_digits t r.over) h

  module _ {f w : ℕ} (y : get_or s q 0 ≡ 46) (g : Counted s (q + 1) e (q + 8) v f w) where
    inner : is_end c (get_or s q 0) ≡ false
    inner = rw y (inside-cell c 46 t.parts (omega arith) (λ z. omega arith))

    there : unsigned_of m (body c s p) ≡ dec m w (q - p) (f - (q + 1)) true (body c s f)
    unfolding dec
    there =
        here
        ∙ rw (body_solid c s q (omega arith) inner (rw y)) (rw y (after_digits t m (q - p) 0 g.over ∙ rw (zero-add (f - (q + 1)))))

    past : cell_end c s p ≡ cell_end c s f
    past = cell_end_digits t r.over ∙ cell_end_in s q (omega arith) c inner ∙ cell_end_digits t g.over

    pub unsigned_fine : 6 < f - (q + 1) → x ≡ judged_of (cell_end c s f) wrong → x ≡ judged_of (cell_end c s p) (unsigned_of m (body c s p))
    unsigned_fine u h = rw (there, dec_fine m (body c s f) w (q - p) (f - (q + 1)) u, past) h

    module _ (u : f - (q + 1) ≤ 6) where
      done : unsigned_of m (body c s p) ≡ closing (settle m w (q - p) (f - (q + 1))) (body c s f)
      done = there ∙ done-after c s f (omega arith) m w (q - p) (f - (q + 1)) (g.stops (omega arith))

      pub unsigned-point : f - p ≡ 1 → x ≡ judged_of (cell_end c s f) wrong → x ≡ judged_of (cell_end c s p) (unsigned_of m (body c s p))
      unsigned-point z h =
          rw (done, settle-none m w (q - p) (f - (q + 1)) (omega arith) (omega arith), closing-wrong (body c s f), past) h

      pub unsigned-good : (k : ℕ) → q - p ≤ 9 → (f - p ≡ 1 → ⊥) → k ≡ 10 ^ (6 - (f - (q + 1)))
          → x ≡ judged_of (cell_end c s f) (closing (good m (w * k) (f - (q + 1))) (body c s f))
          → x ≡ judged_of (cell_end c s p) (unsigned_of m (body c s p))
      unsigned-good k b z j h =
          rw (done, settle-good m w (q - p) (f - (q + 1)) b u (omega arith), past) (rw j at h)

-- ---- the sign
module _ {c : ℕ} {s : List ℕ} {e a : ℕ} (t : Stop c s a e) (r : Begun c s a e) (x : Judged) where
  signed : (z y : Bool) (p : ℕ) → p ≡ cond (z || y) (a + 1) a
      → cond z (unsigned_of true (body c s (a + 1))) (cond y (unsigned_of false (body c s (a + 1))) (unsigned_of false (get_or s a 0 ∷ body c s (a + 1))))
      ≡ unsigned_of z (body c s p)
  signed true y p h = rw h
  signed false true p h = rw h
  signed false false p h = rw (h, body_solid c s a (omega arith) r.inside r.solid)

  after : (z : Bool) (p : ℕ) → p ≡ cond z (a + 1) a → cell_end c s a ≡ cell_end c s p
  after true p h = rw h (cell_end_in s a (omega arith) c r.inside)
  after false p h = rw h

  pub decimal-signed : (p : ℕ) → p ≡ cond (eqb (get_or s a 0) 45 || eqb (get_or s a 0) 43) (a + 1) a
      → x ≡ judged_of (cell_end c s p) (unsigned_of (eqb (get_or s a 0) 45) (body c s p))
      → x ≡ judged_of (cell_end c s a) (decimal_of (body c s a))
  unfolding decimal_of
  decimal-signed p h g =
      rw (body_solid c s a (omega arith) r.inside r.solid, signed (eqb (get_or s a 0) 45) (eqb (get_or s a 0) 43) p h, after (eqb (get_or s a 0) 45 || eqb (get_or s a 0) 43) p h) g
