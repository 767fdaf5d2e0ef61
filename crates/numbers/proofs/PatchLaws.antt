-- The bytes of a file replaced by a text: the length stays, patches side by side are one, and a text is set in a cell that has room for it.
use Prim.Native.Nat.{ℕ, suc, ◌+◌, ◌≤◌, ◌<◌, ◌-◌}
use mathlib.Core.Path.{◌≡◌, sym, ap, ◌∙◌, refl}
use mathlib.Core.List.{List, [], ◌∷◌, ◌++◌, append_assoc}
use mathlib.Core.Bool.{Bool, true, false, and-eq-true_iff, ◌&&◌}
use native.Mathlib.Omega.{arith}
use lib.ListN.{length, get_or, set, take, drop, take-append-drop, length-append, length-drop}
use lib.Seq.{take-suc, set_at, length-take-le, append_snoc, take-append-le, take-take, drop_at}
use lib.Dec.{leb}
use borrow.Author.Tests.{le-leb, lt-leb, leb-true, leb-false}
use Rattle.line_bytes.specs.declared.Span.{Span}
use Rattle.numbers.specs.Texts.{text_of, text_length, flag_text, at_right}
use Rattle.numbers.specs.Patches.{patch, has_room, text_set, number_set, digit_set}
use Rattle.numbers.specs.Inner.Puts.{InCell}
use Rattle.numbers.proofs.TextLaws.{at_right-length}

-- ---- patches
pub patch_nil : (f : List ℕ) (i : ℕ) → patch f i [] ≡ f
unfolding patch
patch_nil f i = let k : i + 0 ≡ i = omega arith in ap (λ (j : ℕ). take i f ++ drop j f) k ∙ take-append-drop i f

pub patch-length : (f : List ℕ) (i : ℕ) (t : List ℕ) → i + length t ≤ length f → length (patch f i t) ≡ length f
unfolding patch
patch-length f i t h =
    length-append (take i f) (t ++ drop (i + length t) f)
    ∙ omega (arith, length-take-le i f (omega arith), length-append t (drop (i + length t) f), length-drop (i + length t) f)

-- a store in front of a patch makes it one longer
pub patch-front : (f : List ℕ) (i : ℕ) (t : List ℕ) (x : ℕ) → i < length f → set (patch f (suc i) t) i x ≡ patch f i (x ∷ t)
unfolding patch
patch-front f i t x h =
    let rest : List ℕ = t ++ drop (suc i + length t) f in
    let k : suc i + length t ≡ i + suc (length t) = omega arith in
    ap (λ (p : List ℕ). set (p ++ rest) i x) (take-suc f i 0 h)
    ∙ ap (λ (p : List ℕ). set p i x) (append_snoc (take i f) (get_or f i 0) rest)
    ∙ set_at (take i f) (get_or f i 0) rest x i (length-take-le i f (omega arith))
    ∙ ap (λ (j : ℕ). take i f ++ (x ∷ (t ++ drop j f))) k

-- two patches side by side are one
pub patch-join : (f s t : List ℕ) (a i : ℕ) → a + length s ≡ i → i + length t ≤ length f → patch (patch f i t) a s ≡ patch f a (s ++ t)
unfolding patch
patch-join f s t a i e l =
    let k : i + length t ≡ a + length (s ++ t) = omega (arith, length-append s t) in
    let rest : List ℕ = t ++ drop (i + length t) f in
    ap (λ (x : List ℕ). x ++ (s ++ drop (a + length s) (take i f ++ rest)))
    (take-append-le a (take i f) rest (omega (arith, length-take-le i f (omega arith))) ∙ take-take a i f (omega arith))
    ∙ ap (λ (x : List ℕ). take a f ++ (s ++ x)) (drop_at (take i f) rest (a + length s) (length-take-le i f (omega arith) ∙ sym e))
    ∙ ap (λ (x : List ℕ). take a f ++ x) (sym (append_assoc s t (drop (i + length t) f)))
    ∙ ap (λ (j : ℕ). take a f ++ ((s ++ t) ++ drop j f)) k

-- ---- a cell with room for a text
pub in_cell : (f : List ℕ) (p : Span) (t : List ℕ) → has_room (length f) p (length t) ≡ true → InCell f p t
in_cell f p t e =
    let w = (and-eq-true_iff (leb (length t) p.len) (leb (p.start + p.len) (length f))).0 e in
    record { fits = leb-true (length t) p.len w.0; inside = leb-true (p.start + p.len) (length f) w.1 }

module _ {f t : List ℕ} {p : Span} (c : InCell f p t) where
  cell-length : {h : List ℕ} → h ≡ patch f p.start (at_right p.len t) → length h ≡ length f
  cell-length {h} e =
      let l = at_right-length p.len t c.fits in
      ap length e ∙ patch-length f p.start (at_right p.len t) (omega (arith, l, c.inside))

  pub cell-after : {h : List ℕ} (q : Span) {u : List ℕ} → h ≡ patch f p.start (at_right p.len t) → InCell f q u → InCell h q u
  cell-after q e i = record { fits = i.fits; inside = rw (cell-length e) i.inside }

  -- a text that has room is set
  pub text-set : text_set f p t ≡ patch f p.start (at_right p.len t)
  unfolding text_set
  text-set = rw (le-leb (length t) p.len c.fits, le-leb (p.start + p.len) (length f) c.inside)

-- one that has none is not
pub text-kept : (f : List ℕ) (p : Span) (t : List ℕ) → has_room (length f) p (length t) ≡ false → f ≡ text_set f p t
unfolding text_set
text-kept f p t e = rw e

-- ---- a number and a digit set, by the code's answer whether there is room
module _ (f : List ℕ) (p : Span) (b : Bool) (n d : ℕ) where
  pub number-none : 6 < d → f ≡ number_set f p b n d
  number-none h = rw (lt-leb d 6 h)

  pub number_is : d ≤ 6 → InCell f p (text_of b n d) → number_set f p b n d ≡ patch f p.start (at_right p.len (text_of b n d))
  number_is few c = rw (le-leb d 6 few) (text-set c)

  module _ (few : d ≤ 6) {l : ℕ} {r : Bool} (long : l ≡ text_length b n d) (room : r ≡ has_room (length f) p l) where
    has_room_lem : r ≡ has_room (length f) p (length (text_of b n d))
    has_room_lem = room ∙ ap (λ (k : ℕ). has_room (length f) p k) (long ∙ rw (le-leb d 6 few))

    pub number-kept : r ≡ false → f ≡ number_set f p b n d
    number-kept z = text-kept f p (text_of b n d) (sym has_room_lem ∙ z) ∙ rw (le-leb d 6 few)

    pub number_in_lem : r ≡ true → InCell f p (text_of b n d)
    number_in_lem z = in_cell f p (text_of b n d) (sym has_room_lem ∙ z)

module _ (f : List ℕ) (p : Span) (v : ℕ) where
  pub digit-none : 9 < v → f ≡ digit_set f p v
  digit-none h = rw (lt-leb v 9 h)

  pub digit_is : v ≤ 9 → InCell f p (flag_text v) → digit_set f p v ≡ patch f p.start (at_right p.len (flag_text v))
  digit_is few c = rw (le-leb v 9 few) (text-set c)

  module _ (few : v ≤ 9) {r : Bool} (room : r ≡ has_room (length f) p 1) where
    pub digit-kept : r ≡ false → f ≡ digit_set f p v
    digit-kept z = text-kept f p (flag_text v) (sym room ∙ z) ∙ rw (le-leb v 9 few)

    pub digit_in : r ≡ true → InCell f p (flag_text v)
    digit_in z = in_cell f p (flag_text v) (sym room ∙ z)

-- ---- room in a cell, by its two tests
pub room-none : (n k : ℕ) (p : Span) → n < p.start → false ≡ has_room n p k
room-none n k p h = go (leb k p.len)
  where
    go : (b : Bool) → false ≡ (b && leb (p.start + p.len) n)
    go true = sym (lt-leb (p.start + p.len) n (omega arith))
    go false = refl

pub room-some : (n k : ℕ) (p : Span) → p.start ≤ n → (leb k p.len && leb p.len (n - p.start)) ≡ has_room n p k
room-some n k p h = ap (λ (b : Bool). leb k p.len && b) (same (leb (p.start + p.len) n) refl)
  where
    same : (b : Bool) → leb (p.start + p.len) n ≡ b → leb p.len (n - p.start) ≡ b
    same true e = le-leb p.len (n - p.start) (omega (arith, leb-true (p.start + p.len) n e))
    same false e = lt-leb p.len (n - p.start) (omega (arith, leb-false (p.start + p.len) n e))
