-- What a run of spaces, of digits or of a word's bytes leaves of a cell: where it ends, its text, and what the digits write.
use Prim.Native.Nat.{ℕ, ◌+◌, ◌-◌, ◌*◌, ◌^◌, ◌≤◌, ◌<◌}
use mathlib.Core.Path.{◌≡◌, refl, sym, ◌∙◌}
use mathlib.Core.List.{List, [], ◌∷◌}
use mathlib.Core.Bool.{Bool, true, false, cond, not, ◌||◌, true≢false}
use mathlib.Core.Logic.{◌⊎◌, inl, inr}
use native.Mathlib.Numerals.{add-one}
use native.Mathlib.Nat.{pow-le-pow_right, pow-suc, mul-le-mul_left, mul_assoc}
use native.Mathlib.Omega.{arith}
use lib.ListN.{length, get_or}
use lib.Dec.{eqb}
use borrow.Author.Tests.{eqb-true, ne_eqb, not-true, not-false}
use Rattle.verdicts.specs.declared.Judged.{Judged}
use Rattle.line_bytes.specs.Bytes.{is_space, is_digit}
use Rattle.line_bytes.specs.Cells.{cell_at, cell_end, separates}
use Rattle.line_bytes.specs.Spaces.{trim_front, keep, trim_end, trim}
use Rattle.verdicts.specs.Verdicts.{Verdict, blank, wrong}
use Rattle.verdicts.specs.Judge.{key_byte, unless_blank, judged_of}
use Rattle.line_bytes.specs.Inner.Scans.{Stop, Scan}
use Rattle.cells.specs.declared.scans.Line.{Line}
use Rattle.cells.specs.Inner.Runs.{Written, Spaced, Begun, word_byte, body, closing}
use Rattle.line_bytes.proofs.CellLaws.{is_end, inside-cell, stop_moved, stop-inside, cell_in_lem, cell-end, cell_end_in, cell_end-end, scan_undo}
use Rattle.line_bytes.proofs.DigitLaws.{digit_range}
use Rattle.verdicts.proofs.SizeLaws.{numeral_scaled}

-- ---- a place of a line
pub stop_on : (l : Line) {i : ℕ} → i ≤ l.end → Stop l.separator l.bytes.now i l.end
stop_on l h = record { inside = h; room = l.room; feed = l.feed; parts = l.parts }

pub begun_on : (l : Line) {a : ℕ} → Begun l.separator l.bytes.now a l.end → Stop l.separator l.bytes.now a l.end
begun_on l b = stop_on l (omega arith)

-- ---- the bytes of a run stand inside a cell
space-inside : (c x : ℕ) → separates c ≡ true → is_space x ≡ true → is_end c x ≡ false
space-inside c x k e = rw (eqb-true x 32 e) (inside-cell c 32 k (omega arith) (λ h. omega arith))

digit-inside : (c x : ℕ) → separates c ≡ true → is_digit x ≡ true → is_end c x ≡ false
digit-inside c x k e = let d = digit_range x e in inside-cell c x k (omega arith) (λ h. omega arith)

digit_solid : (x : ℕ) → is_digit x ≡ true → is_space x ≡ false
digit_solid x e = let d = digit_range x e in ne_eqb x 32 (λ h. omega arith)

-- ---- what is left of a cell, without the spaces at its end
keep_solid : (x : ℕ) (t : List ℕ) → is_space x ≡ false → keep x t ≡ x ∷ t
unfolding keep
keep_solid x [] e = rw e
keep_solid x (y ∷ t) e = refl

keep-first : (x : ℕ) (t : List ℕ) → (keep x t ≡ []) ⊎ ((ys : List ℕ) × (keep x t ≡ x ∷ ys))
unfolding keep
keep-first x [] = go (is_space x)
  where
    go : (z : Bool) → (cond z [] (x ∷ []) ≡ []) ⊎ ((ys : List ℕ) × (cond z [] (x ∷ []) ≡ x ∷ ys))
    go true = inl refl
    go false = inr ([], refl)
keep-first x (y ∷ t) = inr (y ∷ t, refl)

module _ (c : ℕ) (s : List ℕ) (p : ℕ) (l : p < length s) where
  body-keep : is_end c (get_or s p 0) ≡ false → body c s p ≡ keep (get_or s p 0) (body c s (p + 1))
  unfolding body trim_end
  body-keep e = rw (cell_in_lem s p l c e)

  pub body_end : is_end c (get_or s p 0) ≡ true → body c s p ≡ []
  unfolding body trim_end
  body_end e = rw (cell-end s p l c e)

  pub body_solid : is_end c (get_or s p 0) ≡ false → is_space (get_or s p 0) ≡ false → body c s p ≡ get_or s p 0 ∷ body c s (p + 1)
  body_solid e n = body-keep e ∙ keep_solid (get_or s p 0) (body c s (p + 1)) n

  -- nothing is left, or the byte there is the first of it
  pub body-first : (body c s p ≡ []) ⊎ ((ys : List ℕ) × (body c s p ≡ get_or s p 0 ∷ ys))
  body-first = go (is_end c (get_or s p 0)) refl
    where
      go : (z : Bool) → is_end c (get_or s p 0) ≡ z → (body c s p ≡ []) ⊎ ((ys : List ℕ) × (body c s p ≡ get_or s p 0 ∷ ys))
      go true e = inl (body_end e)
      go false e = rw (body-keep e) (keep-first (get_or s p 0) (body c s (p + 1)))

-- something is left
abbrev Opens : ℕ → List ℕ → ℕ → Type 0
Opens c s p = (ys : List ℕ) × (body c s p ≡ get_or s p 0 ∷ ys)

module _ {c : ℕ} {s : List ℕ} {j e : ℕ} (t : Stop c s j e) where
  space-within : (p : ℕ) → is_space (get_or s p 0) ≡ true → is_end c (get_or s p 0) ≡ false
  space-within p d = space-inside c (get_or s p 0) t.parts d

  -- ---- spaces
  pub cell_end_spaces : {i q : ℕ} → Scan is_space s i q → cell_end c s i ≡ cell_end c s q
  cell_end_spaces {i} {q} r =
      scan_undo (λ (p : ℕ). cell_end c s p ≡ cell_end c s q) (λ p l d x. cell_end_in s p l c (space-within p d) ∙ x) r refl

  -- only spaces are left
  body_spaces : {i q : ℕ} → Scan is_space s i q → body c s q ≡ [] → body c s i ≡ []
  unfolding keep
  body_spaces r x = scan_undo (λ (p : ℕ). body c s p ≡ []) one r x
    where
      one : (p : ℕ) → p < length s → is_space (get_or s p 0) ≡ true → body c s (p + 1) ≡ [] → body c s p ≡ []
      one p l d x = body-keep c s p l (space-within p d) ∙ rw x (rw d)

  opens_spaces : {i q : ℕ} → Scan is_space s i q → Opens c s q → Opens c s i
  unfolding keep
  opens_spaces r x = scan_undo (Opens c s) one r x
    where
      one : (p : ℕ) → p < length s → is_space (get_or s p 0) ≡ true → Opens c s (p + 1) → Opens c s p
      one p l d (ys, x) = (get_or s (p + 1) 0 ∷ ys, body-keep c s p l (space-within p d) ∙ rw x)

  -- ---- digits
  pub cell_end_digits : {i v q n w : ℕ} → Written s i v q n w → cell_end c s i ≡ cell_end c s q
  cell_end_digits Written.still = refl
  cell_end_digits (Written.more {q} r l d) = cell_end_digits r ∙ cell_end_in s q l c (digit-inside c (get_or s q 0) t.parts d)

  pub body-digit : (q : ℕ) → q < length s → is_digit (get_or s q 0) ≡ true → body c s q ≡ get_or s q 0 ∷ body c s (q + 1)
  body-digit q l d = body_solid c s q l (digit-inside c (get_or s q 0) t.parts d) (digit_solid (get_or s q 0) d)

-- ---- a cell after its spaces: blank, or judged by what is left of it
trim_front-keep : (x : ℕ) (t : List ℕ) → is_space x ≡ true → trim_front (keep x t) ≡ trim_front t
unfolding trim_front keep
trim_front-keep x [] e = rw e
trim_front-keep x (y ∷ t) e = rw e

trim_front_solid : (x : ℕ) (t : List ℕ) → is_space x ≡ false → trim_front (x ∷ t) ≡ x ∷ t
unfolding trim_front
trim_front_solid x t e = rw e

module _ {c : ℕ} {s : List ℕ} {i e a : ℕ} (t : Stop c s i e) (r : Spaced s i e a) where
  trim_spaces : trim (cell_at c s i) ≡ trim_front (body c s a)
  unfolding trim body
  trim_spaces = scan_undo (λ (p : ℕ). trim_front (body c s p) ≡ trim_front (body c s a)) one r.over refl
    where
      one : (p : ℕ) → p < length s → is_space (get_or s p 0) ≡ true → trim_front (body c s (p + 1)) ≡ trim_front (body c s a)
          → trim_front (body c s p) ≡ trim_front (body c s a)
      one p l d x = rw (body-keep c s p l (space-within t p d)) (trim_front-keep (get_or s p 0) (body c s (p + 1)) d ∙ x)

  pub begun_at : is_end c (get_or s a 0) ≡ false → Begun c s a e
  begun_at d = record { short = stop-inside (stop_moved t r.high) d; inside = d; solid = r.stops }

  module _ (f : List ℕ → Verdict) (x : Judged) where
    pub judged-blank : is_end c (get_or s a 0) ≡ true → x ≡ judged_of a blank
        → x ≡ judged_of (cell_end c s i) (unless_blank f (trim (cell_at c s i)))
    unfolding trim_front
    judged-blank d h =
        rw (trim_spaces, body_end c s a (omega arith) d, cell_end_spaces t r.over, cell_end-end s a (omega arith) c d) h

    pub judged_solid : is_end c (get_or s a 0) ≡ false → x ≡ judged_of (cell_end c s a) (f (body c s a))
        → x ≡ judged_of (cell_end c s i) (unless_blank f (trim (cell_at c s i)))
    judged_solid d h =
        let b = body_solid c s a (omega arith) d r.stops in
        rw (trim_spaces, b, trim_front_solid (get_or s a 0) (body c s (a + 1)) r.stops, cell_end_spaces t r.over) (rw b at h)

  -- ---- the spaces after a cell's text: nothing is left, or something else
  module _ (v : Verdict) (x : Judged) where
    pub closed-good : is_end c (get_or s a 0) ≡ true → x ≡ judged_of a v → x ≡ judged_of (cell_end c s i) (closing v (body c s i))
    closed-good d h =
        rw (body_spaces t r.over (body_end c s a (omega arith) d), cell_end_spaces t r.over, cell_end-end s a (omega arith) c d) h

    pub closed-wrong : is_end c (get_or s a 0) ≡ false → x ≡ judged_of (cell_end c s a) wrong → x ≡ judged_of (cell_end c s i) (closing v (body c s i))
    closed-wrong d h =
        let o = opens_spaces t r.over (body c s (a + 1), body_solid c s a (omega arith) d r.stops) in
        rw (o.1, cell_end_spaces t r.over) h

-- ---- a word
pub word-inside : (c x : ℕ) → word_byte c x ≡ true → (is_end c x ≡ false) × (is_space x ≡ false) × (key_byte x ≡ true)
word-inside c x e = go (eqb x 44) (eqb x 32) (eqb x 47) (eqb x c) (eqb x 10) (not-true _ e)
  where
    go : (p q r u v : Bool) → (p || q || r || u || v) ≡ false → ((u || v) ≡ false) × (q ≡ false) × (not (p || q || r) ≡ true)
    go true q r u v e = absurd (true≢false e)
    go false true r u v e = absurd (true≢false e)
    go false false true u v e = absurd (true≢false e)
    go false false false u v e = (e, refl, refl)

-- the byte that ends a word ends its cell, or stands in no key text
pub word-outside : (c x : ℕ) → word_byte c x ≡ false → is_end c x ≡ false → key_byte x ≡ false
word-outside c x e d = go (eqb x 44) (eqb x 32) (eqb x 47) (eqb x c) (eqb x 10) (not-false _ e) d
  where
    go : (p q r u v : Bool) → (p || q || r || u || v) ≡ true → (u || v) ≡ false → not (p || q || r) ≡ false
    go true q r u v e d = refl
    go false true r u v e d = refl
    go false false true u v e d = refl
    go false false false u v e d = absurd (true≢false (sym e ∙ d))

pub word-short : {c : ℕ} {s : List ℕ} {p e : ℕ} → Stop c s p e → word_byte c (get_or s p 0) ≡ true → p < e
word-short {c} {s} {p} t d = stop-inside t (word-inside c (get_or s p 0) d).0

-- ---- what digits write
numeral_grow : (m v k d : ℕ) → v < m * 10 ^ k → d < 10 → v * 10 + d < m * 10 ^ (k + 1)
numeral_grow m v k d h l = rw (add-one k, pow-suc 10 k, ← mul_assoc m (10 ^ k) 10) (omega arith)

digits-below : {s : List ℕ} {i v0 q n v : ℕ} → Written s i v0 q n v → v < (v0 + 1) * 10 ^ n
digits-below Written.still = omega arith
digits-below {s} {i} {v0} (Written.more {q} {n} {v} r h e) =
    let d : (48 ≤ get_or s q 0) × (get_or s q 0 ≤ 57) = digit_range (get_or s q 0) e in
    numeral_grow (v0 + 1) v n (get_or s q 0 - 48) (digits-below r) (omega arith)

pub digits-room : {s : List ℕ} {i v0 q n v : ℕ} → Written s i v0 q n v → v0 < 10 ^ 9 → n ≤ 9 → v < 10 ^ 18
digits-room {s} {i} {v0} {q} {n} {v} r h l =
    let z : 10 ^ n ≤ 10 ^ 9 = pow-le-pow_right (omega arith) l in
    let y : (v0 + 1) * 10 ^ n ≤ (v0 + 1) * 10 ^ 9 = mul-le-mul_left (v0 + 1) z in
    omega (arith, digits-below r)

pub digits_small : {s : List ℕ} {i q n v : ℕ} → Written s i 0 q n v → n ≤ 9 → v < 10 ^ 9
digits_small {s} {i} {q} {n} {v} r l =
    let z : 10 ^ n ≤ 10 ^ 9 = pow-le-pow_right (omega arith) l in omega (arith, digits-below r)

pub digits_scaled : {s : List ℕ} {i v0 q n v : ℕ} → Written s i v0 q n v → v0 < 10 ^ 9 → n ≤ 6 → v * 10 ^ (6 - n) < 10 ^ 15
digits_scaled {s} {i} {v0} {q} {n} {v} r h l = numeral_scaled (v0 + 1) v n (omega arith) l (digits-below r)
