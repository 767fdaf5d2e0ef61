-- Spaces at the ends of a text: what trimming leaves, where it stands, and the searches for it by an index.
use Prim.Native.Nat.{ℕ, zero, suc, ◌+◌, ◌-◌, ◌≤◌, ◌<◌}
use mathlib.Core.Path.{◌≡◌, refl, sym, ap, ◌∙◌}
use mathlib.Core.List.{List, [], ◌∷◌, ◌++◌, append-nil, reverse}
use mathlib.Core.Logic.{◌↔◌, ◌⊎◌, inl, inr}
use mathlib.Core.Bool.{Bool, true, false, cond, not, ◌&&◌, and-false}
use native.Mathlib.Numerals.{add-one, sub-one}
use native.Mathlib.Nat.{le_refl, not-suc-le-zero, sub-zero, sub_self}
use native.Mathlib.Omega.{arith}
use lib.ListN.{length, get_or, take, drop, replicate, length-take, length-append}
use lib.Seq.{append_snoc, slice, slice-cons, length-slice, take-nil, take-suc, take-take, drop-drop, drop-append-le, length-take-le, slice_empty}
use lib.Dec.{leb}
use borrow.Author.Tests.{eq-eqb, ne_eqb, le-leb, lt-leb, leb-true, not-true}
use Rattle.std.specs.List.{prefix_len, take_while, slice_range}
use Rattle.std.proofs.lemmas.List.{length-reverse, reverse-append, reverse-reverse}
use Rattle.std.proofs.lemmas.List.Folds.{length-prefix_len}
use Rattle.line_bytes.specs.declared.Span.{Span}
use Rattle.line_bytes.specs.Bytes.{is_space, every}
use Rattle.line_bytes.specs.Spaces.{trim_front, keep, trim_end, trim, indent, trim_span}
use Rattle.line_bytes.proofs.EveryLaws.{every-cons}

-- ---- one byte at the front or at the end
pub trim_front-space : (x : ℕ) (xs : List ℕ) → is_space x ≡ true → trim_front (x ∷ xs) ≡ trim_front xs
unfolding trim_front
trim_front-space x xs e = rw e

pub trim_front-other : (x : ℕ) (xs : List ℕ) → is_space x ≡ false → trim_front (x ∷ xs) ≡ x ∷ xs
unfolding trim_front
trim_front-other x xs e = rw e

pub trim_end-space : (xs : List ℕ) (x : ℕ) → is_space x ≡ true → trim_end (xs ++ x ∷ []) ≡ trim_end xs
unfolding trim_end keep
trim_end-space [] x e = rw e
trim_end-space (y ∷ ys) x e = ap (keep y) (trim_end-space ys x e)

keep-cons : (x : ℕ) (ys : List ℕ) (y : ℕ) → keep x (ys ++ y ∷ []) ≡ x ∷ (ys ++ y ∷ [])
unfolding keep
keep-cons x [] y = refl
keep-cons x (z ∷ zs) y = refl

pub trim_end-other : (xs : List ℕ) (x : ℕ) → is_space x ≡ false → trim_end (xs ++ x ∷ []) ≡ xs ++ x ∷ []
unfolding trim_end keep
trim_end-other [] x e = rw e
trim_end-other (y ∷ ys) x e = ap (keep y) (trim_end-other ys x e) ∙ keep-cons y ys x

-- ---- the two ends do not depend on each other
trim_front-keep : (x : ℕ) (l : List ℕ) → is_space x ≡ false → trim_front (keep x l) ≡ keep x l
unfolding keep
trim_front-keep x [] e = rw e (trim_front-other x [] e)
trim_front-keep x (y ∷ ys) e = trim_front-other x (y ∷ ys) e

trim_front-keep-space : (x : ℕ) (l : List ℕ) → is_space x ≡ true → trim_front (keep x l) ≡ trim_front l
unfolding keep
trim_front-keep-space x [] e = rw e
trim_front-keep-space x (y ∷ ys) e = trim_front-space x (y ∷ ys) e

trim_front-trim_end_by : (x : ℕ) (xs : List ℕ) (b : Bool) → is_space x ≡ b → trim_front (trim_end xs) ≡ trim_end (trim_front xs) → trim_front (keep x (trim_end xs)) ≡ trim_end (cond b (trim_front xs) (x ∷ xs))
unfolding trim_end
trim_front-trim_end_by x xs true e h = trim_front-keep-space x (trim_end xs) e ∙ h
trim_front-trim_end_by x xs false e h = trim_front-keep x (trim_end xs) e

pub trim_front-trim_end : (t : List ℕ) → trim_front (trim_end t) ≡ trim_end (trim_front t)
unfolding trim_end trim_front
trim_front-trim_end [] = refl
trim_front-trim_end (x ∷ xs) = trim_front-trim_end_by x xs (is_space x) refl (trim_front-trim_end xs)

-- ---- lengths, and what is left as a part of the text
keep-take : (x : ℕ) (xs l : List ℕ) → l ≡ take (length l) xs → keep x l ≡ take (length (keep x l)) (x ∷ xs)
unfolding keep
keep-take x xs [] h = by (is_space x)
  where
    by : (b : Bool) → cond b [] (x ∷ []) ≡ take (length (cond b [] (x ∷ []))) (x ∷ xs)
    by true = refl
    by false = refl
keep-take x xs (y ∷ ys) h = ap (◌∷◌ x) h

pub trim_end-take : (t : List ℕ) → trim_end t ≡ take (length (trim_end t)) t
unfolding trim_end
trim_end-take [] = refl
trim_end-take (x ∷ xs) = keep-take x xs (trim_end xs) (trim_end-take xs)

pub trim_end-length : (t : List ℕ) → length (trim_end t) ≤ length t
trim_end-length t = omega (arith, simp length-take at (ap length (trim_end-take t)))

trim_front-length_by : (x : ℕ) (xs : List ℕ) (b : Bool) → length (trim_front xs) ≤ length xs → length (cond b (trim_front xs) (x ∷ xs)) ≤ suc (length xs)
trim_front-length_by x xs true h = omega arith
trim_front-length_by x xs false h = le_refl _

pub trim_front-length : (t : List ℕ) → length (trim_front t) ≤ length t
unfolding trim_front
trim_front-length [] = le_refl 0
trim_front-length (x ∷ xs) = trim_front-length_by x xs (is_space x) (trim_front-length xs)

trim_front-drop_by : (x : ℕ) (xs : List ℕ) (b : Bool) → trim_front xs ≡ drop (length xs - length (trim_front xs)) xs → cond b (trim_front xs) (x ∷ xs) ≡ drop (suc (length xs) - length (cond b (trim_front xs) (x ∷ xs))) (x ∷ xs)
trim_front-drop_by x xs true h =
    let e : suc (length xs) - length (trim_front xs) ≡ suc (length xs - length (trim_front xs)) = omega (arith, trim_front-length xs) in
    rw e h
trim_front-drop_by x xs false h = rw (sub_self (suc (length xs)))

pub trim_front-drop : (t : List ℕ) → trim_front t ≡ drop (length t - length (trim_front t)) t
unfolding trim_front
trim_front-drop [] = refl
trim_front-drop (x ∷ xs) = trim_front-drop_by x xs (is_space x) (trim_front-drop xs)

-- a part by its start and its length
pub slice-take : (f t : ℕ) (l : List ℕ) → slice f t l ≡ take (t - f) (drop f l)
slice-take zero t l = rw sub-zero
slice-take (suc f) zero l = let e : 0 - suc f ≡ 0 = omega arith in rw e
slice-take (suc f) (suc t) [] = sym (take-nil (suc t - suc f))
slice-take (suc f) (suc t) (x ∷ xs) = let e : suc t - suc f ≡ t - f = omega arith in rw e (slice-take f t xs)

pub trim-fits : (t : List ℕ) → indent t + length (trim t) ≤ length t
unfolding indent trim
trim-fits t = omega (arith, trim_front-length (trim_end t), trim_end-length t)

pub trim-part : (t : List ℕ) → trim t ≡ take (length (trim t)) (drop (indent t) t)
unfolding indent trim
trim-part t =
    let n = length (trim_end t) in
    let k = n - length (trim_front (trim_end t)) in
    let e : n - k ≡ length (trim_front (trim_end t)) = omega (arith, trim_front-length (trim_end t)) in
    trim_front-drop (trim_end t) ∙ ap (drop k) (trim_end-take t) ∙ slice-take k n t ∙ ap (λ (m : ℕ). take m (drop k t)) e

-- ---- a trimmed text has no space at either end
trim_front-trim_front_by : (x : ℕ) (xs : List ℕ) (b : Bool) → is_space x ≡ b → trim_front (trim_front xs) ≡ trim_front xs → trim_front (cond b (trim_front xs) (x ∷ xs)) ≡ cond b (trim_front xs) (x ∷ xs)
trim_front-trim_front_by x xs true e h = h
trim_front-trim_front_by x xs false e h = trim_front-other x xs e

trim_front-trim_front : (t : List ℕ) → trim_front (trim_front t) ≡ trim_front t
unfolding trim_front
trim_front-trim_front [] = refl
trim_front-trim_front (x ∷ xs) = trim_front-trim_front_by x xs (is_space x) refl (trim_front-trim_front xs)

trim_end-keep : (x : ℕ) (l : List ℕ) → trim_end l ≡ l → trim_end (keep x l) ≡ keep x l
unfolding trim_end keep
trim_end-keep x [] h = by (is_space x) refl
  where
    by : (b : Bool) → is_space x ≡ b → trim_end (cond b [] (x ∷ [])) ≡ cond b [] (x ∷ [])
    by true e = refl
    by false e = rw e
trim_end-keep x (y ∷ ys) h = ap (keep x) h

trim_end-trim_end : (t : List ℕ) → trim_end (trim_end t) ≡ trim_end t
unfolding trim_end
trim_end-trim_end [] = refl
trim_end-trim_end (x ∷ xs) = trim_end-keep x (trim_end xs) (trim_end-trim_end xs)

pub trim-trim_front : (t : List ℕ) → trim_front (trim t) ≡ trim t
unfolding trim
trim-trim_front t = trim_front-trim_front (trim_end t)

pub trim-trim_end : (t : List ℕ) → trim_end (trim t) ≡ trim t
unfolding trim
trim-trim_end t = sym (trim_front-trim_end (trim_end t)) ∙ ap trim_front (trim_end-trim_end t)

pub trim-trim : (t : List ℕ) → trim (trim t) ≡ trim t
unfolding trim
trim-trim t = ap trim_front (trim-trim_end t) ∙ trim-trim_front t

no-space : (b : Bool) → (b ≡ true → ⊥) → b ≡ false
no-space true f = absurd (f refl)
no-space false f = refl

pub trim-first : (t : List ℕ) (x : ℕ) (xs : List ℕ) → trim t ≡ x ∷ xs → is_space x ≡ false
trim-first t x xs e =
    no-space (is_space x) (λ h.
    let l : trim_front xs ≡ x ∷ xs = sym (trim_front-space x xs h) ∙ (rw e at (trim-trim_front t)) in
    omega (arith, trim_front-length xs, ap length l))

pub trim-last : (t xs : List ℕ) (x : ℕ) → trim t ≡ xs ++ x ∷ [] → is_space x ≡ false
trim-last t xs x e =
    no-space (is_space x) (λ h.
    let l : trim_end xs ≡ xs ++ x ∷ [] = sym (trim_end-space xs x h) ∙ (rw e at (trim-trim_end t)) in
    omega (arith, trim_end-length xs, simp length-append at (ap length l)))

-- ---- a text of spaces is trimmed to nothing, and one without is left as it is
keep_full : (x : ℕ) (l : List ℕ) → is_space x ≡ false → keep x l ≡ x ∷ l
unfolding keep
keep_full x [] e = rw e
keep_full x (y ∷ ys) e = refl

blank_by : (x : ℕ) (xs : List ℕ) (b : Bool) → is_space x ≡ b → (trim_front (trim_end xs) ≡ [] → every is_space xs ≡ true) → trim_front (keep x (trim_end xs)) ≡ [] → b && every is_space xs ≡ true
blank_by x xs true e f h = f (sym (trim_front-keep-space x (trim_end xs) e) ∙ h)
blank_by x xs false e f h =
    let l = ap length (sym (keep_full x (trim_end xs) e) ∙ sym (trim_front-keep x (trim_end xs) e) ∙ h) in
    absurd (omega arith)

blank_spaces : (t : List ℕ) → trim_front (trim_end t) ≡ [] → every is_space t ≡ true
unfolding trim_end every
blank_spaces [] h = refl
blank_spaces (x ∷ xs) h = blank_by x xs (is_space x) refl (blank_spaces xs) h

spaces-blank : (t : List ℕ) → every is_space t ≡ true → trim_front (trim_end t) ≡ []
unfolding trim_end trim_front
spaces-blank [] h = refl
spaces-blank (x ∷ xs) h =
    let w = every-cons is_space x xs h in
    trim_front-keep-space x (trim_end xs) w.0 ∙ spaces-blank xs w.1

pub trim-blank : (t : List ℕ) → (trim t ≡ []) ↔ (every is_space t ≡ true)
unfolding trim
trim-blank t = (blank_spaces t, spaces-blank t)

abbrev pub is_solid : ℕ → Bool
is_solid x = not (is_space x)

trim_front_solid : (t : List ℕ) → every is_solid t ≡ true → trim_front t ≡ t
unfolding trim_front
trim_front_solid [] h = refl
trim_front_solid (x ∷ xs) h = trim_front-other x xs (not-true (is_space x) (every-cons is_solid x xs h).0)

trim_end_solid : (t : List ℕ) → every is_solid t ≡ true → trim_end t ≡ t
unfolding trim_end
trim_end_solid [] h = refl
trim_end_solid (x ∷ xs) h =
    let w = every-cons is_solid x xs h in
    ap (keep x) (trim_end_solid xs w.1) ∙ keep_full x xs (not-true (is_space x) w.0)

pub trim_solid : (t : List ℕ) → every is_solid t ≡ true → trim t ≡ t
unfolding trim
trim_solid t h = ap trim_front (trim_end_solid t h) ∙ trim_front_solid t h

-- ---- spaces put at either end are trimmed
trim_front_pad : (n : ℕ) (t : List ℕ) → trim_front (replicate n 32 ++ t) ≡ trim_front t
trim_front_pad zero t = refl
trim_front_pad (suc n) t = trim_front-space 32 (replicate n 32 ++ t) refl ∙ trim_front_pad n t

trim_end_pad : (n : ℕ) (t : List ℕ) → trim_end (t ++ replicate n 32) ≡ trim_end t
trim_end_pad zero t = rw append-nil
trim_end_pad (suc n) t = rw (← (append_snoc t 32 (replicate n 32))) (trim_end_pad n (t ++ 32 ∷ []) ∙ trim_end-space t 32 refl)

pub trim_pad-front : (n : ℕ) (t : List ℕ) → trim (replicate n 32 ++ t) ≡ trim t
unfolding trim
trim_pad-front n t = trim_front-trim_end (replicate n 32 ++ t) ∙ ap trim_end (trim_front_pad n t) ∙ sym (trim_front-trim_end t)

pub trim_pad-end : (n : ℕ) (t : List ℕ) → trim (t ++ replicate n 32) ≡ trim t
unfolding trim
trim_pad-end n t = ap trim_front (trim_end_pad n t)

-- ---- by an index
module _ (s : List ℕ) where
  slice_snoc : (a k : ℕ) → a ≤ k → k < length s → slice a (suc k) s ≡ slice a k s ++ get_or s k 0 ∷ []
  slice_snoc a k h l =
      let m : a ≤ length (take k s) = rw (length-take-le k s (omega arith)) h in
      rw (take-suc s k 0 l, drop-append-le a (take k s) (get_or s k 0 ∷ []) m)

  pub trim_end-stop : (a j : ℕ) → a < j → j ≤ length s → (get_or s (j - 1) 0 ≡ 32 → ⊥) → trim_end (slice a j s) ≡ slice a j s
  trim_end-stop a zero h l f = absurd (not-suc-le-zero h)
  trim_end-stop a (suc k) h l f = rw (slice_snoc a k (omega arith) l) (trim_end-other (slice a k s) (get_or s k 0) (ne_eqb _ 32 (rw sub-one at f)))

  pub trim_end-step : (a j : ℕ) → a < j → j ≤ length s → get_or s (j - 1) 0 ≡ 32 → trim_end (slice a j s) ≡ trim_end (slice a (j - 1) s)
  trim_end-step a zero h l e = absurd (not-suc-le-zero h)
  trim_end-step a (suc k) h l e = rw (sub-one, slice_snoc a k (omega arith) l) (trim_end-space (slice a k s) (get_or s k 0) (eq-eqb _ 32 (rw sub-one at e)))

  pub trim_end-none : (a j : ℕ) → j ≤ a → a ≤ j → trim_end (slice a j s) ≡ slice a j s
  unfolding trim_end
  trim_end-none a j h k = let e : j ≡ a = omega arith in rw (e, slice_empty)

  pub trim_front-stop : (i e : ℕ) → i < e → e ≤ length s → (get_or s i 0 ≡ 32 → ⊥) → trim_front (slice i e s) ≡ slice i e s
  trim_front-stop i e h l f = rw (slice-cons i e s 0 h l) (trim_front-other _ _ (ne_eqb _ 32 f))

  pub trim_front-step : (i e : ℕ) → i < e → e ≤ length s → get_or s i 0 ≡ 32 → trim_front (slice i e s) ≡ trim_front (slice (i + 1) e s)
  trim_front-step i e h l q = rw (add-one i, slice-cons i e s 0 h l) (trim_front-space _ _ (eq-eqb _ 32 q))

  pub trim_front-none : (i e : ℕ) → e ≤ i → i ≤ e → trim_front (slice i e s) ≡ slice i e s
  unfolding trim_front
  trim_front-none i e h k = let q : i ≡ e = omega arith in rw (q, slice_empty)

-- ---- how many spaces stand at each end
front_spaces : (t : List ℕ) → length (trim_front t) + prefix_len is_space t ≡ length t
unfolding trim_front
front_spaces [] = refl
front_spaces (x ∷ xs) = go (is_space x) (front_spaces xs)
  where
    go : (b : Bool) → length (trim_front xs) + prefix_len is_space xs ≡ length xs
        → length (cond b (trim_front xs) (x ∷ xs)) + cond b (1 + prefix_len is_space xs) 0 ≡ suc (length xs)
    go true h = omega (arith, h)
    go false h = omega arith

back_spaces : (r : List ℕ) → length (trim_end (reverse r)) + prefix_len is_space r ≡ length r
unfolding trim_end
back_spaces [] = refl
back_spaces (x ∷ r) = rw (reverse-append (x ∷ []) r) (go (is_space x) refl (back_spaces r))
  where
    go : (b : Bool) → is_space x ≡ b → length (trim_end (reverse r)) + prefix_len is_space r ≡ length r
        → length (trim_end (reverse r ++ x ∷ [])) + cond b (1 + prefix_len is_space r) 0 ≡ suc (length r)
    go true e h = rw (trim_end-space (reverse r) x e) (omega (arith, h))
    go false e h = rw (trim_end-other (reverse r) x e) (omega (arith, length-append (reverse r) (x ∷ []), length-reverse r))

end_spaces : (t : List ℕ) → length (trim_end t) + prefix_len is_space (reverse t) ≡ length t
end_spaces t = rw (reverse-reverse t, length-reverse t) at (back_spaces (reverse t))

-- ---- the place of a trimmed part
module _ (s : List ℕ) (a e : ℕ) where
  pub span_other : (e < a) ⊎ (length s < e) → ◌≡◌ {A = Span} (record { start = 0; len = 0 }) (trim_span s a e)
  unfolding trim_span
  span_other (inl h) = rw (lt-leb a e h)
  span_other (inr k) = rw (lt-leb e (length s) k, and-false (leb a e))

  pub span-before : e < a → ◌≡◌ {A = Span} (record { start = 0; len = 0 }) (trim_span s a e)
  span-before h = span_other (inl h)

  module _ (h : a ≤ e) where
    pub span_past : length s < e → ◌≡◌ {A = Span} (record { start = 0; len = 0 }) (trim_span s a e)
    span_past k = span_other (inr k)

    module _ (k : e ≤ length s) where
      pub span-end : (z : ℕ) → a ≤ z → z ≤ e → trim_end (slice a e s) ≡ slice a z s → (z ≡ a + length (trim_end (slice a e s))) × (a ≤ z) × (z ≤ e) × (trim_end (slice a e s) ≡ slice a z s)
      span-end z l m q =
          let n : length (trim_end (slice a e s)) ≡ z - a = ap length q ∙ length-slice a z s (omega arith) in
          (omega arith, l, m, q)

      pub span-counted : (t : List ℕ) (m f : ℕ) → t ≡ slice_range s a e → m ≡ length (take_while is_space (reverse t)) → f ≡ length (take_while is_space (take (length t - m) t))
          → ◌≡◌ {A = Span} (record { start = a + f; len = (length t - m) - f }) (trim_span s a e)
      unfolding trim_span indent trim
      span-counted t m f p q r =
          let g : t ≡ slice a e s = p ∙ sym (slice-take a e s) in
          let x = end_spaces t in
          let n : m ≡ prefix_len is_space (reverse t) = q ∙ length-prefix_len is_space (reverse t) in
          let l : length t - m ≡ length (trim_end t) = omega (arith, n, x) in
          let u : take (length t - m) t ≡ trim_end t = ap (λ (j : ℕ). take j t) l ∙ sym (trim_end-take t) in
          let v : f ≡ prefix_len is_space (trim_end t) = r ∙ length-prefix_len is_space (take (length t - m) t) ∙ ap (prefix_len is_space) u in
          let y = front_spaces (trim_end t) in
          let i : a + f ≡ a + (length (trim_end t) - length (trim_front (trim_end t))) = omega (arith, v, y) in
          let j : (length t - m) - f ≡ length (trim_front (trim_end t)) = omega (arith, l, v, y) in
          rw (le-leb a e h, le-leb e (length s) k, sym g) (λ z. record { start = i z; len = j z })

      pub span-within : (z b : ℕ) → z ≤ e → a ≤ b → b ≤ z → trim_end (slice a e s) ≡ slice a z s → trim_front (slice a z s) ≡ slice b z s → ◌≡◌ {A = Span} (record { start = b; len = z - b }) (trim_span s a e)
      unfolding trim_span indent trim
      span-within z b l m n p q =
          let i : b ≡ a + (length (slice a z s) - length (slice b z s)) = omega (arith, length-slice a z s (omega arith), length-slice b z s (omega arith)) in
          let j : z - b ≡ length (slice b z s) = sym (length-slice b z s (omega arith)) in
          rw (le-leb a e h, le-leb e (length s) k, p, q) (λ x. record { start = i x; len = j x })

      -- its bytes are the trimmed ones
      pub span-bytes : take (trim_span s a e).len (drop (trim_span s a e).start s) ≡ trim (slice a e s)
      unfolding trim_span
      span-bytes =
          let t = slice a e s in
          let n = length (trim t) in
          let b : n ≤ (e - a) - indent t = omega (arith, trim-fits t, length-slice a e s k) in
          rw (le-leb a e h, le-leb e (length s) k)
          (sym (trim-part t
          ∙ ap (λ (u : List ℕ). take n (drop (indent t) u)) (slice-take a e s)
          ∙ ap (take n) (slice-take (indent t) (e - a) (drop a s) ∙ ap (take ((e - a) - indent t)) (drop-drop (indent t) a s))
          ∙ take-take n ((e - a) - indent t) (drop (a + indent t) s) b))

span-fits_by : (s : List ℕ) (a e : ℕ) (t u : Bool) → leb a e ≡ t → leb e (length s) ≡ u →
    let p = cond {A = Span} (t && u) (record { start = a + indent (slice a e s); len = length (trim (slice a e s)) }) (record { start = 0; len = 0 }) in
    p.start + p.len ≤ length s
span-fits_by s a e true true p q =
    let h = leb-true a e p in
    let k = leb-true e (length s) q in
    omega (arith, trim-fits (slice a e s), length-slice a e s k)
span-fits_by s a e true false p q = omega arith
span-fits_by s a e false u p q = omega arith

-- it lies within the text
pub span_fits : (s : List ℕ) (a e : ℕ) (p : Span) → p ≡ trim_span s a e → p.start + p.len ≤ length s
unfolding trim_span
span_fits s a e p q = rw q (span-fits_by s a e (leb a e) (leb e (length s)) refl refl)
