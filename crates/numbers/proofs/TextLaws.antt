-- The text of a number and of a digit: plain bytes, set at the right of a cell, and judged as the number it was made of, exactly where that can be written.
use Prim.Native.Nat.{ℕ, zero, suc, ◌+◌, ◌-◌, ◌*◌, ◌/◌, ◌%◌, ◌^◌, ◌≤◌, ◌<◌}
use mathlib.Core.Path.{◌≡◌, refl, sym, ap, ◌∙◌}
use mathlib.Core.List.{List, [], ◌∷◌, ◌++◌}
use mathlib.Core.Logic.{◌↔◌}
use mathlib.Core.Bool.{Bool, true, false, cond, not, ◌&&◌, false≢true}
use native.Mathlib.Omega.{arith}
use lib.ListN.{length, replicate, length-append, length-replicate}
use lib.Dec.{eqb, leb, ltb}
use lib.IntN.{ℤ, pos, negsuc}
use borrow.Author.Tests.{le-leb, lt-leb, leb-true, ne_eqb, eqb-true, lt-ltb, ltb-true, ltb-false}
use Rattle.line_bytes.specs.Bytes.{comma, is_digit, every, numeral}
use Rattle.line_bytes.specs.Inner.Lines.{is_plain}
use Rattle.line_bytes.specs.Spaces.{trim}
use Rattle.verdicts.specs.Verdicts.{Verdict, wrong, good, signed, is_good, size_of}
use Rattle.verdicts.specs.Decimals.{front, fraction, settle, unsigned_of, decimal_of}
use Rattle.verdicts.specs.Kinds.{measured, kind_of}
use Rattle.verdicts.specs.Judge.{judge, of_kind, whole_of, unless_blank}
use Rattle.line_bytes.proofs.CellLaws.{both_true}
use Rattle.line_bytes.proofs.EveryLaws.{every-cons}
use Rattle.line_bytes.proofs.DigitLaws.{digit_yes, digit_range}
use Rattle.line_bytes.proofs.SpaceLaws.{is_solid, trim_solid, trim_pad-front}
use Rattle.numbers.specs.Texts.{size, is_below, last_digits, whole_text, fraction_text, sign_text, text_of, text_length, number_text, flag_text, at_right}
use Rattle.numbers.proofs.DigitLaws.{every_append, every_one, every-after, every_from, numeral-append, last-length, last_digits_lem, last-numeral, whole_digits_lem, whole-some, whole_length, whole-many, whole-numeral}

-- ---- at the right of a cell
pub at_right-length : (w : ℕ) (t : List ℕ) → length t ≤ w → length (at_right w t) ≡ w
unfolding at_right
at_right-length w t h = length-append (replicate (w - length t) 32) t ∙ rw (length-replicate {A = ℕ} (w - length t) 32) (omega arith)

at_right-trim : (w : ℕ) (t : List ℕ) → every is_solid t ≡ true → trim (at_right w t) ≡ t
unfolding at_right
at_right-trim w t h = trim_pad-front (w - length t) t ∙ trim_solid t h

-- ---- how long a text is
pub fraction-none : (d n : ℕ) → d ≡ 0 → 0 ≡ length (fraction_text d n)
fraction-none d n e = rw e

pub fraction-some : (d n : ℕ) → (d ≡ 0 → ⊥) → d + 1 ≡ length (fraction_text d n)
fraction-some d n f = rw (ne_eqb d 0 f) (omega (arith, last-length d (n % 1000000 / 10 ^ (6 - d))))

text-length : (b : Bool) (n d : ℕ) → length (text_of b n d) ≡ length (sign_text b) + length (whole_text (n / 1000000)) + length (fraction_text d n)
text-length b n d =
    let w = whole_text (n / 1000000) in
    omega (arith, length-append (sign_text b) (w ++ fraction_text d n), length-append w (fraction_text d n))

pub length_none : (b : Bool) (n d : ℕ) → 6 < d → 0 ≡ text_length b n d
length_none b n d h = rw (lt-leb d 6 h)

pub length_is : (b : Bool) (n d : ℕ) → d ≤ 6 → text_length b n d ≡ length (text_of b n d)
length_is b n d h = rw (le-leb d 6 h)

pub length_some : (b : Bool) (n d : ℕ) → d ≤ 6 → {x y z : ℕ} → x ≡ length (sign_text b) → y ≡ length (whole_text (n / 1000000)) → z ≡ length (fraction_text d n) → x + y + z ≡ text_length b n d
length_some b n d h {x} {y} {z} e f g = omega (arith, e, f, g, length_is b n d h, text-length b n d)

-- ---- the bytes of a text: digits, a point, a minus
module _ (p : ℕ → Bool) (digits : (x : ℕ) → is_digit x ≡ true → p x ≡ true) (point : p 46 ≡ true) (minus : p 45 ≡ true) where
  fraction-every : (d n : ℕ) → every p (fraction_text d n) ≡ true
  unfolding every
  fraction-every d n = go (eqb d 0)
    where
      go : (b : Bool) → every p (cond b [] (46 ∷ last_digits d (n % 1000000 / 10 ^ (6 - d)))) ≡ true
      go true = refl
      go false =
          let q = n % 1000000 / 10 ^ (6 - d) in
          every-after p 46 (last_digits d q) point (every_from p is_digit digits (last_digits d q) (last_digits_lem d q))

  sign-every : (b : Bool) → every p (sign_text b) ≡ true
  unfolding every
  sign-every true = every_one p 45 minus
  sign-every false = refl

  number-every : (m : ℤ) (d : ℕ) → every p (number_text m d) ≡ true
  unfolding number_text
  number-every m d =
      every_append p (sign_text (is_below m)) _ (sign-every (is_below m))
      (every_append p (whole_text (size m / 1000000)) _ (every_from p is_digit digits _ (whole_digits_lem 19 (size m / 1000000))) (fraction-every d (size m)))

digit_solid : (x : ℕ) → is_digit x ≡ true → is_solid x ≡ true
digit_solid x h = let r = digit_range x h in rw (ne_eqb x 32 (omega arith))

number_solid : (m : ℤ) (d : ℕ) → every is_solid (number_text m d) ≡ true
number_solid m d = number-every is_solid digit_solid refl refl m d

-- a plain byte that may stand in a cell: no comma
abbrev pub is_cell_byte : ℕ → Bool
is_cell_byte x = is_plain x && not (eqb x comma)

digit_plain : (x : ℕ) → is_digit x ≡ true → is_cell_byte x ≡ true
digit_plain x h = let r = digit_range x h in rw (le-leb 32 x (omega arith), le-leb x 126 (omega arith), ne_eqb x 44 (omega arith))

spaces_plain : (n : ℕ) → every is_cell_byte (replicate n 32) ≡ true
unfolding every
spaces_plain zero = refl
spaces_plain (suc n) = every-after is_cell_byte 32 (replicate n 32) refl (spaces_plain n)

at_right_plain : (w : ℕ) (t : List ℕ) → every is_cell_byte t ≡ true → every is_cell_byte (at_right w t) ≡ true
unfolding at_right
at_right_plain w t h = every_append is_cell_byte (replicate (w - length t) 32) t (spaces_plain (w - length t)) h

pub number_plain : (m : ℤ) (d w : ℕ) → every is_cell_byte (at_right w (number_text m d)) ≡ true
number_plain m d w = at_right_plain w (number_text m d) (number-every is_cell_byte digit_plain refl refl m d)

flag-digit : (v : ℕ) → v ≤ 9 → is_digit (48 + v) ≡ true
flag-digit v h = digit_yes (48 + v) (omega arith) (omega arith)

pub flag_plain : (v w : ℕ) → v ≤ 9 → every is_cell_byte (at_right w (flag_text v)) ≡ true
flag_plain v w h = at_right_plain w (flag_text v) (every_one is_cell_byte (48 + v) (digit_plain (48 + v) (flag-digit v h)))

-- ---- a number judged
-- what can be written without loss
pub record Writable (m : ℤ) (d : ℕ) : Type 0 where
  pub few : d ≤ 6
  pub small : size m < 10 ^ 15
  pub exact : size m % 10 ^ (6 - d) ≡ 0

-- digits, and then nothing or a point
module _ (w : List ℕ) (h : every is_digit w ≡ true) where
  digits-front : (f : List ℕ) → front f ≡ [] → front (w ++ f) ≡ w
  unfolding front
  digits-front f e = go w h
    where
      go : (w : List ℕ) → every is_digit w ≡ true → front (w ++ f) ≡ w
      go [] h = e
      go (x ∷ xs) h = let k = every-cons is_digit x xs h in rw k.0 (ap (◌∷◌ x) (go xs k.1))

  digits-fraction : (f : List ℕ) → fraction (w ++ f) ≡ fraction f
  unfolding fraction
  digits-fraction f = go w h
    where
      go : (w : List ℕ) → every is_digit w ≡ true → fraction (w ++ f) ≡ fraction f
      go [] h = refl
      go (x ∷ xs) h = let k = every-cons is_digit x xs h in rw k.0 (go xs k.1)

-- a point and d decimals, if any
fraction-front : (d n : ℕ) → front (fraction_text d n) ≡ []
unfolding front
fraction-front d n = go (eqb d 0)
  where
    go : (b : Bool) → front (cond b [] (46 ∷ last_digits d (n % 1000000 / 10 ^ (6 - d)))) ≡ []
    go true = refl
    go false = refl

fraction_rest : (d n : ℕ) → fraction (fraction_text d n) ≡ last_digits d (n % 1000000 / 10 ^ (6 - d))
unfolding fraction last_digits
fraction_rest d n = go (eqb d 0) refl
  where
    go : (b : Bool) → eqb d 0 ≡ b → fraction (cond b [] (46 ∷ last_digits d (n % 1000000 / 10 ^ (6 - d)))) ≡ last_digits d (n % 1000000 / 10 ^ (6 - d))
    go true e = let z : d ≡ 0 = eqb-true d 0 e in rw z
    go false e = refl

-- the decimals of a number of millionths are as many digits, and with the whole part they are the number where it is exact in them
pub up-to_six : (P : ℕ → Type 0) → P 0 → P 1 → P 2 → P 3 → P 4 → P 5 → P 6 → (d : ℕ) → d ≤ 6 → P d
up-to_six P a b c e f g h zero l = a
up-to_six P a b c e f g h (suc zero) l = b
up-to_six P a b c e f g h (suc (suc zero)) l = c
up-to_six P a b c e f g h (suc (suc (suc zero))) l = e
up-to_six P a b c e f g h (suc (suc (suc (suc zero)))) l = f
up-to_six P a b c e f g h (suc (suc (suc (suc (suc zero))))) l = g
up-to_six P a b c e f g h (suc (suc (suc (suc (suc (suc zero)))))) l = h
up-to_six P a b c e f g h (suc (suc (suc (suc (suc (suc (suc d))))))) l = absurd (omega arith)

decimals-few : (n d : ℕ) → d ≤ 6 → n % 1000000 / 10 ^ (6 - d) < 10 ^ d
decimals-few n = up-to_six (λ d. n % 1000000 / 10 ^ (6 - d) < 10 ^ d) (omega arith) (omega arith) (omega arith) (omega arith) (omega arith) (omega arith) (omega arith)

decimals_exact : (n d : ℕ) → d ≤ 6 → n % 10 ^ (6 - d) ≡ 0 → (n / 1000000 * 10 ^ d + n % 1000000 / 10 ^ (6 - d)) * 10 ^ (6 - d) ≡ n
decimals_exact n =
    up-to_six (λ d. n % 10 ^ (6 - d) ≡ 0 → (n / 1000000 * 10 ^ d + n % 1000000 / 10 ^ (6 - d)) * 10 ^ (6 - d) ≡ n)
    (λ e. omega arith) (λ e. omega arith) (λ e. omega arith) (λ e. omega arith) (λ e. omega arith) (λ e. omega arith) (λ e. omega arith)

exact_multiple : (v n d : ℕ) → d ≤ 6 → v * 10 ^ (6 - d) ≡ n → n % 10 ^ (6 - d) ≡ 0
exact_multiple v n =
    up-to_six (λ d. v * 10 ^ (6 - d) ≡ n → n % 10 ^ (6 - d) ≡ 0)
    (λ e. omega arith) (λ e. omega arith) (λ e. omega arith) (λ e. omega arith) (λ e. omega arith) (λ e. omega arith) (λ e. omega arith)

-- a text that begins with a digit has no sign
decimal_digits : (w f : List ℕ) → every is_digit w ≡ true → 1 ≤ length w → decimal_of (w ++ f) ≡ unsigned_of false (w ++ f)
unfolding decimal_of
decimal_digits [] f h k = absurd (omega arith)
decimal_digits (x ∷ xs) f h k =
    let r = digit_range x (every-cons is_digit x xs h).0 in
    rw (ne_eqb x 45 (omega arith), ne_eqb x 43 (omega arith))

settled : (b : Bool) (v w a n : ℕ) → 1 ≤ w → w ≤ 9 → a ≤ 6 → v * 10 ^ (6 - a) ≡ n → settle b v w a ≡ good b n a
unfolding settle
settled b v w a n p q h e = rw (le-leb w 9 q, le-leb a 6 h, le-leb 1 (w + a) (omega arith)) (ap (λ (k : ℕ). good b k a) e)

-- and what is settled as good
settled_only : (b : Bool) (v w a n : ℕ) → settle b v w a ≡ good b n a → (w ≤ 9) × (a ≤ 6) × (v * 10 ^ (6 - a) ≡ n)
unfolding settle
settled_only b v w a n = go (leb w 9 && (leb a 6 && leb 1 (w + a))) refl
  where
    go : (c : Bool) → (leb w 9 && (leb a 6 && leb 1 (w + a))) ≡ c → cond c (good b (v * 10 ^ (6 - a)) a) wrong ≡ good b n a → (w ≤ 9) × (a ≤ 6) × (v * 10 ^ (6 - a) ≡ n)
    go true q e =
        let x = both_true (leb w 9) (leb a 6 && leb 1 (w + a)) q in
        (leb-true w 9 x.0, leb-true a 6 (both_true (leb a 6) (leb 1 (w + a)) x.1).0, ap size_of e)
    go false q e = absurd (false≢true (ap is_good e))

-- the text of any number with any decimals: its digits are settled
module _ (n d : ℕ) where
  abbrev whole : List ℕ
  whole = whole_text (n / 1000000)

  abbrev decimals : List ℕ
  decimals = last_digits d (n % 1000000 / 10 ^ (6 - d))

  unsigned-text : (b : Bool) → unsigned_of b (whole ++ fraction_text d n) ≡ settle b (numeral 0 (whole ++ decimals)) (length whole) d
  unfolding unsigned_of
  unsigned-text b =
      let w = whole_digits_lem 19 (n / 1000000) in
      let f : front (whole ++ fraction_text d n) ≡ whole = digits-front whole w (fraction_text d n) (fraction-front d n) in
      let r : fraction (whole ++ fraction_text d n) ≡ decimals = digits-fraction whole w (fraction_text d n) ∙ fraction_rest d n in
      rw (f, r) (rw (last_digits_lem d (n % 1000000 / 10 ^ (6 - d)), last-length d (n % 1000000 / 10 ^ (6 - d))))

  signed-text : (b : Bool) → decimal_of (text_of b n d) ≡ settle b (numeral 0 (whole ++ decimals)) (length whole) d
  unfolding decimal_of
  signed-text true = unsigned-text true
  signed-text false = decimal_digits whole (fraction_text d n) (whole_digits_lem 19 (n / 1000000)) (whole-some 19 (n / 1000000)) ∙ unsigned-text false

  written : d ≤ 6 → n < 10 ^ 15 → numeral 0 (whole ++ decimals) ≡ n / 1000000 * 10 ^ d + n % 1000000 / 10 ^ (6 - d)
  written few small =
      numeral-append 0 whole decimals ∙ ap (λ (k : ℕ). numeral k decimals) (whole-numeral 19 (n / 1000000) (omega arith))
      ∙ last-numeral d (n % 1000000 / 10 ^ (6 - d)) (n / 1000000) (decimals-few n d few)

  -- good where it is small enough and exact in its decimals
  good-text : (b : Bool) → d ≤ 6 → n < 10 ^ 15 → n % 10 ^ (6 - d) ≡ 0 → decimal_of (text_of b n d) ≡ good b n d
  good-text b few small exact =
      signed-text b ∙ ap (λ (v : ℕ). settle b v (length whole) d) (written few small)
      ∙ settled b _ (length whole) d n (whole-some 19 (n / 1000000)) (whole_length 19 8 (n / 1000000) (omega arith)) few (decimals_exact n d few exact)

  -- and only there: nine digits before the point are too few for a larger one
  whole_small : length whole ≤ 9 → n < 10 ^ 15
  whole_small h = go (ltb (n / 1000000) (10 ^ 9)) refl
    where
      go : (c : Bool) → ltb (n / 1000000) (10 ^ 9) ≡ c → n < 10 ^ 15
      go true e = omega (arith, ltb-true (n / 1000000) (10 ^ 9) e)
      go false e = absurd (omega (arith, whole-many 19 9 (n / 1000000) (omega arith) (ltb-false (n / 1000000) (10 ^ 9) e)))

  good-only : (b : Bool) → decimal_of (text_of b n d) ≡ good b n d → (d ≤ 6) × (n < 10 ^ 15) × (n % 10 ^ (6 - d) ≡ 0)
  good-only b e =
      let x = settled_only b (numeral 0 (whole ++ decimals)) (length whole) d n (sym (signed-text b) ∙ e) in
      (x.1, whole_small x.0, exact_multiple (numeral 0 (whole ++ decimals)) n d x.1 x.2)

pub number-some : (m : ℤ) (d : ℕ) → 1 ≤ length (number_text m d)
unfolding number_text
number-some m d =
    omega (arith, text-length (is_below m) (size m) d, whole-some 19 (size m / 1000000))

not-blank : (f : List ℕ → Verdict) (t : List ℕ) → 1 ≤ length t → unless_blank f t ≡ f t
not-blank f [] h = absurd (omega arith)
not-blank f (x ∷ xs) h = refl

-- at the right of its cell too
number-decimal : (m : ℤ) (d w : ℕ) → judge measured (at_right w (number_text m d)) ≡ decimal_of (number_text m d)
unfolding judge of_kind
number-decimal m d w = rw (at_right-trim w (number_text m d) (number_solid m d)) (not-blank decimal_of (number_text m d) (number-some m d))

pub number_judged : (m : ℤ) (d w : ℕ) → Writable m d → length (number_text m d) ≤ w → judge (kind_of 0) (at_right w (number_text m d)) ≡ good (is_below m) (size m) d
unfolding number_text kind_of
number_judged m d w h k = number-decimal m d w ∙ good-text (size m) d (is_below m) h.few h.small h.exact

-- a number's text judged as that number, exactly where it may be written
pub number_exactly : (m : ℤ) (d : ℕ) → (Writable m d) ↔ (judge measured (number_text m d) ≡ good (is_below m) (size m) d)
unfolding number_text judge of_kind
number_exactly m d = (
  (λ h. number-here ∙ good-text (size m) d (is_below m) h.few h.small h.exact),
  (λ e. let x = good-only (size m) d (is_below m) (sym number-here ∙ e) in record { few = x.0; small = x.1; exact = x.2 }),
)
  where
    number-here : judge measured (number_text m d) ≡ decimal_of (number_text m d)
    number-here = rw (trim_solid (number_text m d) (number_solid m d)) (not-blank decimal_of (number_text m d) (number-some m d))

pub number-signed : (m : ℤ) → size m < 10 ^ 15 → signed (is_below m) (size m) ≡ m
unfolding signed
number-signed (pos n) h = rw (lt-ltb n (10 ^ 15) h)
number-signed (negsuc n) h = rw (lt-ltb (suc n) (10 ^ 15) h)

-- ---- a digit judged
pub flag-whole : (v : ℕ) → v ≤ 9 → whole_of 1 (flag_text v) ≡ good false v 0
unfolding whole_of every numeral
flag-whole v h = rw (flag-digit v h) (ap (λ (k : ℕ). good false k 0) (omega arith))

pub flag-trim : (w v : ℕ) → v ≤ 9 → trim (at_right w (flag_text v)) ≡ flag_text v
flag-trim w v h = at_right-trim w (flag_text v) (every_one is_solid (48 + v) (digit_solid (48 + v) (flag-digit v h)))
