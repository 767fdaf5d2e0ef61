-- A text put into a file from the right: one byte in front of what is written, texts side by side, and spaces at the left.
use Prim.Native.Nat.{ℕ, suc, ◌+◌, ◌-◌, ◌/◌, ◌%◌, ◌^◌, ◌≤◌, ◌<◌}
use mathlib.Core.Path.{◌≡◌, refl, sym, ap, subst, ◌∙◌}
use mathlib.Core.List.{List, [], ◌∷◌, ◌++◌, append-nil}
use mathlib.Core.Bool.{Bool, true, false}
use native.Mathlib.Nat.{one-le-pow}
use native.Mathlib.Omega.{arith}
use borrow.Rule.Slice.PartMut.{put_mid}
use lib.ListN.{length, set, take, drop, replicate, length-drop, length-append, length-replicate}
use lib.Seq.{append_snoc, drop-drop, length-take-le}
use borrow.Author.Tests.{ne_eqb}
use Rattle.line_bytes.specs.declared.Span.{Span}
use Rattle.numbers.specs.Texts.{last_digits, whole_text, fraction_text, sign_text, at_right}
use Rattle.numbers.specs.Patches.{patch}
use Rattle.numbers.specs.Inner.Puts.{Room, PutBefore, InCell}
use Rattle.numbers.proofs.DigitLaws.{last-length, whole-last}
use Rattle.numbers.proofs.PatchLaws.{patch_nil, patch-length, patch-front, patch-join}

-- ---- texts put
pub put-none : (f : List ℕ) (e : ℕ) → PutBefore f e [] f e
put-none f e = record { starts = omega arith; bytes = sym (patch_nil f e) }

pub put-more : {f t g s h : List ℕ} {e i a : ℕ} → e ≤ length f → PutBefore f e t g i → PutBefore g i s h a → PutBefore f e (s ++ t) h a
put-more {f} {t} {g} {s} {h} {e} {i} {a} l p q = record {
  starts = omega (arith, p.starts, q.starts, length-append s t);
  bytes = q.bytes ∙ ap (λ (x : List ℕ). patch x a s) p.bytes ∙ patch-join f s t a i q.starts (omega (arith, p.starts));
}

pub put-length : {f t g : List ℕ} {e a : ℕ} → e ≤ length f → PutBefore f e t g a → length g ≡ length f
put-length {f} {t} {g} {e} {a} l p = ap length p.bytes ∙ patch-length f a t (omega (arith, p.starts))

-- one byte more
pub put_byte : {f t g : List ℕ} {e i : ℕ} (x : ℕ) → 0 < i → e ≤ length f → PutBefore f e t g i → PutBefore f e (x ∷ t) (set g (i - 1) x) (i - 1)
put_byte {f} {t} {g} {e} {i} x h l p =
    let k : i ≡ suc (i - 1) = omega arith in
    record {
      starts = omega (arith, p.starts);
      bytes =
          ap (λ (b : List ℕ). set b (i - 1) x) (p.bytes ∙ ap (λ (j : ℕ). patch f j t) k)
          ∙ patch-front f (i - 1) t x (omega (arith, p.starts));
    }

-- ---- the loop's invariant: digits
pub record Digits (f : List ℕ) (e count n start : ℕ) (g : List ℕ) (at rest : ℕ) : Type 0 where
  pub done : List ℕ
  pub put : PutBefore f e done g at
  pub whole : last_digits (at - start) rest ++ done ≡ last_digits count n
  pub low : start ≤ at
  pub same : length g ≡ length f

module _ (f : List ℕ) (e count n : ℕ) (r : Room f e (last_digits count n)) where
  pub digits-room : count ≤ e
  digits-room = omega (arith, r.fits, last-length count n)

  pub digits-start : Digits f e count n (e - count) f e n
  digits-start =
      let k : e - (e - count) ≡ count = omega (arith, digits-room) in
      record { done = []; put = put-none f e; whole = append-nil (last_digits (e - (e - count)) n) ∙ ap (λ (j : ℕ). last_digits j n) k; low = omega arith; same = refl }

  pub digits_turn : {g : List ℕ} {at rest : ℕ} → e - count < at → Digits f e count n (e - count) g at rest
      → Digits f e count n (e - count) (set g (at - 1) (48 + rest % 10)) (at - 1) (rest / 10)
  unfolding last_digits
  digits_turn {g} {at} {rest} h d =
      let j = at - 1 - (e - count) in
      let k : at - (e - count) ≡ suc j = omega arith in
      let p = put_byte (48 + rest % 10) (omega arith) r.inside d.put in
      record {
        done = (48 + rest % 10) ∷ d.done;
        put = p;
        whole = sym (append_snoc (last_digits j (rest / 10)) (48 + rest % 10) d.done) ∙ ap (λ (i : ℕ). last_digits i rest ++ d.done) (sym k) ∙ d.whole;
        low = omega arith;
        same = put-length r.inside p;
      }

  pub digits-end : {g : List ℕ} {at rest : ℕ} → at ≤ e - count → Digits f e count n (e - count) g at rest → PutBefore f e (last_digits count n) g (e - count)
  unfolding last_digits
  digits-end {g} {at} {rest} h d =
      let i : at ≡ e - count = omega (arith, d.low) in
      let k : at - (e - count) ≡ 0 = omega arith in
      let w : d.done ≡ last_digits count n = ap (λ (j : ℕ). last_digits j rest ++ d.done) (sym k) ∙ d.whole in
      rw (← i) (rw (← w) d.put)

-- the bytes from start up to e, all set to spaces
pub filled : (f t : List ℕ) (start e : ℕ) → start ≤ e → e ≤ length f → t ≡ replicate (length (take (e - start) (drop start f))) 32
    → put_mid start (e - start) f t ≡ patch f start (replicate (e - start) 32)
unfolding patch
filled f t start e h l q =
    let k : length (take (e - start) (drop start f)) ≡ e - start = length-take-le (e - start) (drop start f) (omega (arith, length-drop start f)) in
    rw (q, k)
    (ap (λ (r : List ℕ). take start f ++ (replicate (e - start) 32 ++ r))
    (drop-drop (e - start) start f ∙ ap (λ (j : ℕ). drop (start + j) f) (sym (length-replicate {A = ℕ} (e - start) 32))))

-- ---- a text in two parts, the right one put first
module _ {f T : List ℕ} {e : ℕ} (s t : List ℕ) (q : T ≡ s ++ t) (r : Room f e T) where
  long : length T ≡ length s + length t
  long = ap length q ∙ length-append s t

  pub room_right : Room f e t
  room_right = record { fits = omega (arith, long, r.fits); inside = r.inside }

  pub room_left : {g : List ℕ} {i : ℕ} → PutBefore f e t g i → Room g i s
  room_left {g} {i} p = record { fits = omega (arith, long, r.fits, p.starts); inside = omega (arith, p.starts, put-length r.inside p, r.inside) }

  pub put_both : {g h : List ℕ} {i a : ℕ} → PutBefore f e t g i → PutBefore g i s h a → PutBefore f e T h a
  put_both {g} {h} {i} {a} p k = rw q (put-more r.inside p k)

-- another text, equal to it
pub room_as : {f s t : List ℕ} {e : ℕ} → s ≡ t → Room f e s → Room f e t
room_as {f} {s} {t} {e} q r = subst (λ (x : List ℕ). Room f e x) q r

pub put_as : {f s t g : List ℕ} {e a : ℕ} → s ≡ t → PutBefore f e s g a → PutBefore f e t g a
put_as {f} {s} {t} {g} {e} {a} q p = subst (λ (x : List ℕ). PutBefore f e x g a) q p

-- ---- the parts of a number's text
pub sign_minus : (b : Bool) → b ≡ true → 45 ∷ [] ≡ sign_text b
sign_minus b e = rw e

pub sign-none : (b : Bool) → b ≡ false → [] ≡ sign_text b
sign-none b e = rw e

pub point-none : (d n : ℕ) → d ≡ 0 → [] ≡ fraction_text d n
point-none d n e = rw e

pub point-some : (d n q : ℕ) → (d ≡ 0 → ⊥) → q ≡ 10 ^ (6 - d) → fraction_text d n ≡ (46 ∷ []) ++ last_digits d (n % 1000000 / q)
point-some d n q f e = rw (ne_eqb d 0 f, e)

pub place-some : (d q : ℕ) → q ≡ 10 ^ (6 - d) → 0 < q
place-some d q e = rw e (one-le-pow (6 - d) 10 (omega arith))

pub whole_by-count : (n k : ℕ) → n < 10 ^ 20 → k ≡ length (whole_text n) → whole_text n ≡ last_digits k n
whole_by-count n k h e = rw e (whole-last n h)

-- ---- a cell set: its text at the right, spaces to the left
module _ {f t : List ℕ} {p : Span} (c : InCell f p t) where
  pub cell_room : Room f (p.start + p.len) t
  cell_room = record { fits = omega (arith, c.fits); inside = c.inside }

  -- what is left of the cell at the left of its text
  pub cell_left : {g : List ℕ} {a : ℕ} → PutBefore f (p.start + p.len) t g a → (p.start ≤ a) × (a ≤ length g)
  cell_left {g} {a} w = (omega (arith, w.starts, c.fits), omega (arith, w.starts, put-length c.inside w, c.inside))

  pub cell_set : {g h : List ℕ} {a : ℕ} → PutBefore f (p.start + p.len) t g a → h ≡ patch g p.start (replicate (a - p.start) 32) → h ≡ patch f p.start (at_right p.len t)
  unfolding at_right
  cell_set {g} {h} {a} w e =
      let k : a - p.start ≡ p.len - length t = omega (arith, w.starts, c.fits) in
      e ∙ ap (λ (x : List ℕ). patch x p.start (replicate (a - p.start) 32)) w.bytes
      ∙ patch-join f (replicate (a - p.start) 32) t p.start a (omega (arith, length-replicate {A = ℕ} (a - p.start) 32, w.starts, c.fits)) (omega (arith, w.starts, c.inside))
      ∙ ap (λ (j : ℕ). patch f p.start (replicate j 32 ++ t)) k
