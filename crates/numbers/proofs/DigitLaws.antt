-- The digits of a number: that they are digits, how many there are, and the number they write.
use Prim.Native.Nat.{ℕ, zero, suc, ◌+◌, ◌-◌, ◌*◌, ◌/◌, ◌%◌, ◌^◌, ◌≤◌, ◌<◌}
use mathlib.Core.Path.{◌≡◌, refl, sym, ap, ◌∙◌}
use mathlib.Core.List.{List, [], ◌∷◌, ◌++◌}
use mathlib.Core.Bool.{Bool, true, false, cond}
use native.Mathlib.Nat.{pow-suc, mul_assoc, one-le-pow}
use native.Mathlib.Numerals.{add-one}
use native.Mathlib.Omega.{arith}
use lib.ListN.{length, length-append}
use lib.Dec.{ltb}
use borrow.Author.Tests.{ltb-true, ltb-false, lt-ltb}
use Rattle.line_bytes.specs.Bytes.{is_digit, every, numeral}
use Rattle.line_bytes.proofs.EveryLaws.{every-cons}
use Rattle.line_bytes.proofs.DigitLaws.{digit_yes}
use Rattle.numbers.specs.Texts.{last_digits, whole_digits, whole_text}

-- ---- a test at every byte of two texts, and one that follows from another
module _ (p : ℕ → Bool) where
  pub every_append : (xs ys : List ℕ) → every p xs ≡ true → every p ys ≡ true → every p (xs ++ ys) ≡ true
  unfolding every
  every_append [] ys h k = k
  every_append (x ∷ xs) ys h k = let w = every-cons p x xs h in rw w.0 (every_append xs ys w.1 k)

  pub every_one : (x : ℕ) → p x ≡ true → every p (x ∷ []) ≡ true
  unfolding every
  every_one x h = rw h

  pub every-after : (x : ℕ) (xs : List ℕ) → p x ≡ true → every p xs ≡ true → every p (x ∷ xs) ≡ true
  unfolding every
  every-after x xs h k = rw h k

  pub every_from : (q : ℕ → Bool) → ((x : ℕ) → q x ≡ true → p x ≡ true) → (xs : List ℕ) → every q xs ≡ true → every p xs ≡ true
  unfolding every
  every_from q f [] h = refl
  every_from q f (x ∷ xs) h = let w = every-cons q x xs h in rw (f x w.0) (every_from q f xs w.1)

-- ---- one digit at the end
digit_is : (n : ℕ) → is_digit (48 + n % 10) ≡ true
digit_is n = digit_yes (48 + n % 10) (omega arith) (omega arith)

pub numeral-append : (v : ℕ) (xs ys : List ℕ) → numeral v (xs ++ ys) ≡ numeral (numeral v xs) ys
unfolding numeral
numeral-append v [] ys = refl
numeral-append v (x ∷ xs) ys = numeral-append (v * 10 + (x - 48)) xs ys

numeral-digit : (v n : ℕ) → numeral v ((48 + n % 10) ∷ []) ≡ v * 10 + n % 10
unfolding numeral
numeral-digit v n = omega arith

one_more : (xs : List ℕ) (x : ℕ) → length (xs ++ x ∷ []) ≡ length xs + 1
one_more xs x = length-append xs (x ∷ [])

-- ---- the last k digits
pub last-length : (k n : ℕ) → length (last_digits k n) ≡ k
unfolding last_digits
last-length zero n = refl
last-length (suc k) n = one_more (last_digits k (n / 10)) _ ∙ omega (arith, last-length k (n / 10))

pub last_digits_lem : (k n : ℕ) → every is_digit (last_digits k n) ≡ true
unfolding last_digits every
last_digits_lem zero n = refl
last_digits_lem (suc k) n = every_append is_digit (last_digits k (n / 10)) _ (last_digits_lem k (n / 10)) (every_one is_digit (48 + n % 10) (digit_is n))

pub last-numeral : (k n v : ℕ) → n < 10 ^ k → numeral v (last_digits k n) ≡ v * 10 ^ k + n
unfolding last_digits numeral
last-numeral zero n v h = omega arith
last-numeral (suc k) n v h =
    let p : n < 10 ^ k * 10 = rw pow-suc at h in
    let i : numeral v (last_digits k (n / 10)) ≡ v * 10 ^ k + n / 10 = last-numeral k (n / 10) v (omega arith) in
    let e : v * 10 ^ suc k ≡ v * 10 ^ k * 10 = rw pow-suc (sym (mul_assoc v (10 ^ k) 10)) in
    numeral-append v (last_digits k (n / 10)) _ ∙ numeral-digit (numeral v (last_digits k (n / 10))) n ∙ omega arith

-- ---- the digits with no needless zero
whole_zero : (n : ℕ) → whole_digits 0 n ≡ (48 + n % 10) ∷ []
unfolding whole_digits
whole_zero n = refl

whole_by : (P : List ℕ → Type 0) (k n : ℕ) → (n < 10 → P ((48 + n % 10) ∷ [])) → (10 ≤ n → P (whole_digits k (n / 10) ++ (48 + n % 10) ∷ [])) → P (whole_digits (suc k) n)
unfolding whole_digits
whole_by P k n f g = go (ltb n 10) refl
  where
    go : (b : Bool) → ltb n 10 ≡ b → P (cond b ((48 + n % 10) ∷ []) (whole_digits k (n / 10) ++ (48 + n % 10) ∷ []))
    go true e = f (ltb-true n 10 e)
    go false e = g (ltb-false n 10 e)

pub whole_digits_lem : (k n : ℕ) → every is_digit (whole_digits k n) ≡ true
whole_digits_lem zero n = rw whole_zero (every_one is_digit (48 + n % 10) (digit_is n))
whole_digits_lem (suc k) n =
    whole_by (λ xs. every is_digit xs ≡ true) k n (λ h. every_one is_digit (48 + n % 10) (digit_is n))
    (λ h. every_append is_digit (whole_digits k (n / 10)) _ (whole_digits_lem k (n / 10)) (every_one is_digit (48 + n % 10) (digit_is n)))

pub whole-some : (k n : ℕ) → 1 ≤ length (whole_digits k n)
whole-some zero n = rw whole_zero (omega arith)
whole-some (suc k) n = whole_by (λ xs. 1 ≤ length xs) k n (λ h. omega arith) (λ h. omega (arith, one_more (whole_digits k (n / 10)) (48 + n % 10)))

-- a number below 10^j has at most j digits
pub whole_length : (k j n : ℕ) → n < 10 ^ suc j → length (whole_digits k n) ≤ suc j
whole_length zero j n h = rw whole_zero (omega arith)
whole_length (suc k) zero n h = whole_by (λ xs. length xs ≤ 1) k n (λ l. omega arith) (λ l. absurd (omega arith))
whole_length (suc k) (suc j) n h =
    let p : n < 10 ^ suc j * 10 = rw pow-suc at h in
    let i : length (whole_digits k (n / 10)) ≤ suc j = whole_length k j (n / 10) (omega arith) in
    whole_by (λ xs. length xs ≤ suc (suc j)) k n (λ l. omega arith) (λ l. omega (arith, one_more (whole_digits k (n / 10)) (48 + n % 10)))

-- and one of at least 10^j has more than j
pub whole-many : (k j n : ℕ) → j ≤ k → 10 ^ j ≤ n → suc j ≤ length (whole_digits k n)
whole-many k zero n l h = whole-some k n
whole-many zero (suc j) n l h = absurd (omega arith)
whole-many (suc k) (suc j) n l h =
    let p : 10 ^ j * 10 ≤ n = rw pow-suc at h in
    let o : 1 ≤ 10 ^ j = one-le-pow j 10 (omega arith) in
    let i : suc j ≤ length (whole_digits k (n / 10)) = whole-many k j (n / 10) (omega arith) (omega arith) in
    whole_by (λ xs. suc (suc j) ≤ length xs) k n (λ t. absurd (omega arith)) (λ t. omega (arith, one_more (whole_digits k (n / 10)) (48 + n % 10)))

pub whole-numeral : (k n : ℕ) → n < 10 ^ suc k → numeral 0 (whole_digits k n) ≡ n
whole-numeral zero n h = rw whole_zero (numeral-digit 0 n ∙ omega arith)
whole-numeral (suc k) n h =
    let p : n < 10 ^ suc k * 10 = rw pow-suc at h in
    let i : numeral 0 (whole_digits k (n / 10)) ≡ n / 10 = whole-numeral k (n / 10) (omega arith) in
    whole_by (λ xs. numeral 0 xs ≡ n) k n (λ l. numeral-digit 0 n ∙ omega arith)
    (λ l. numeral-append 0 (whole_digits k (n / 10)) _ ∙ numeral-digit (numeral 0 (whole_digits k (n / 10))) n ∙ omega arith)

-- ---- one digit after the other, from the right
pub whole_one : (n : ℕ) → n < 10 → length (whole_text n) ≡ 1
unfolding whole_digits
whole_one n h = rw (lt-ltb n 10 h)

refl-last : (n : ℕ) → (48 + n % 10) ∷ [] ≡ last_digits 1 n
unfolding last_digits
refl-last n = refl

snoc-last : (k n : ℕ) → last_digits k (n / 10) ++ (48 + n % 10) ∷ [] ≡ last_digits (suc k) n
unfolding last_digits
snoc-last k n = refl

-- they are the last ones, as many as there are
whole-last_by : (k n : ℕ) → n < 10 ^ suc k → whole_digits k n ≡ last_digits (length (whole_digits k n)) n
whole-last_by zero n h = rw whole_zero (refl-last n)
whole-last_by (suc k) n h =
    let p : n < 10 ^ suc k * 10 = rw pow-suc at h in
    let i : whole_digits k (n / 10) ≡ last_digits (length (whole_digits k (n / 10))) (n / 10) = whole-last_by k (n / 10) (omega arith) in
    whole_by (λ xs. xs ≡ last_digits (length xs) n) k n (λ l. refl-last n)
    (λ l. ap (λ (xs : List ℕ). xs ++ (48 + n % 10) ∷ []) i ∙ snoc-last (length (whole_digits k (n / 10))) n
    ∙ ap (λ (j : ℕ). last_digits j n) (sym (one_more (whole_digits k (n / 10)) (48 + n % 10) ∙ add-one _)))

pub whole-last : (n : ℕ) → n < 10 ^ 20 → whole_text n ≡ last_digits (length (whole_text n)) n
whole-last n h = whole-last_by 19 n h

-- n has one digit more than the largest power of ten in it says
pub whole_power : (n k : ℕ) → 10 ^ k ≤ n → n < 10 * 10 ^ k → k < 20 → (k + 1 ≡ length (whole_text n)) × (k + 1 ≤ 20)
whole_power n k h l b =
    let p : 10 ^ suc k ≡ 10 ^ k * 10 = pow-suc 10 k in
    (omega (arith, whole-many 19 k n (omega arith) h, whole_length 19 k n (omega arith)), omega arith)

-- ---- how many digits a number of less than 21 has
whole_fuel : (k n : ℕ) → n < 10 ^ suc k → whole_digits k n ≡ whole_digits (suc k) n
unfolding whole_digits
whole_fuel zero n h = rw (lt-ltb n 10 h)
whole_fuel (suc k) n h =
    let p : n < 10 ^ suc k * 10 = rw pow-suc at h in
    ap (λ (xs : List ℕ). cond (ltb n 10) ((48 + n % 10) ∷ []) (xs ++ (48 + n % 10) ∷ [])) (whole_fuel k (n / 10) (omega arith))

pub whole-more : (n : ℕ) → 10 ≤ n → n < 10 ^ 20 → length (whole_text n) ≡ length (whole_text (n / 10)) + 1
whole-more n h l = whole_by (λ xs. length xs ≡ length (whole_text (n / 10)) + 1) 18 n (λ k. absurd (omega arith))
    (λ k. one_more (whole_digits 18 (n / 10)) (48 + n % 10) ∙ ap (λ (xs : List ℕ). length xs + 1) (whole_fuel 18 (n / 10) (omega arith)))

pub whole-few : (n : ℕ) → n < 10 ^ 20 → length (whole_text n) ≤ 20
whole-few n h = whole_length 19 19 n h
