-- How long the report's lines are.
use Prim.Native.Nat.{ℕ, zero, suc, ◌+◌, ◌/◌, ◌%◌, ◌^◌, ◌≤◌, ◌<◌}
use mathlib.Core.Path.{◌≡◌, refl}
use mathlib.Core.List.{List, [], ◌∷◌, ◌++◌}
use mathlib.Core.Bool.{Bool, true, false, cond}
use native.Mathlib.Nat.{pow-suc}
use native.Mathlib.Omega.{arith}
use lib.ListN.{length, length-append}
use lib.Dec.{ltb}
use borrow.Author.Tests.{ltb-false}
use Rattle.line_bytes.specs.Bytes.{bytes}
use Rattle.numbers.specs.Texts.{whole_digits, whole_text}
use Rattle.format.specs.declared.Checked.{Checked}
use Rattle.format.specs.declared.FileKind.{FileKind}
use Rattle.format.specs.declared.FileKind.TheVariants.{Unknown, Bottle, Ctd}
use Rattle.format.specs.declared.ProfileRecord.{ProfileRecord}
use Rattle.report_text.specs.Report.{field, number, refused_line, kind_field, accepted_line, station_text, profile_line}

-- ---- a number has 20 digits at the most, and a small one fewer
module _ (k n : ℕ) where
  abbrev digits_by : Bool → List ℕ
  digits_by z = cond z ((48 + n % 10) ∷ []) (whole_digits k (n / 10) ++ (48 + n % 10) ∷ [])

  one_more : (d : ℕ) → length (whole_digits k (n / 10)) ≤ suc d → length (digits_by false) ≤ suc (suc d)
  one_more d h = omega (arith, h, length-append (whole_digits k (n / 10)) ((48 + n % 10) ∷ []))

pub digits_most : (k n : ℕ) → length (whole_digits k n) ≤ suc k
unfolding whole_digits
digits_most zero n = omega arith
digits_most (suc k) n = go (ltb n 10) (digits_most k (n / 10))
  where
    go : (z : Bool) → length (whole_digits k (n / 10)) ≤ suc k → length (digits_by k n z) ≤ suc (suc k)
    go true h = omega arith
    go false h = one_more k n k h

pub digits-few : (d k n : ℕ) → n < 10 ^ suc d → length (whole_digits k n) ≤ suc d
unfolding whole_digits
digits-few d zero n h = omega arith
digits-few zero (suc k) n h = go (ltb n 10) refl
  where
    go : (z : Bool) → ltb n 10 ≡ z → length (digits_by k n z) ≤ 1
    go true q = omega arith
    go false q = absurd (omega (arith, h, ltb-false n 10 q))
digits-few (suc d) (suc k) n h = go (ltb n 10) (digits-few d k (n / 10) (omega (arith, h, pow-suc 10 (suc d))))
  where
    go : (z : Bool) → length (whole_digits k (n / 10)) ≤ suc d → length (digits_by k n z) ≤ suc (suc d)
    go true g = omega arith
    go false g = one_more k n d g

-- ---- a text of at most b bytes: a word or a field before another one
record Within (b : ℕ) (y : List ℕ) : Type 0 where
  within : length y ≤ b

line-end : Within 1 (10 ∷ [])
line-end = record { within = omega arith }

word-before : {b : ℕ} {y : List ℕ} (t : List ℕ) → Within b y → Within (length t + b) (t ++ y)
word-before {b} {y} t h = record { within = omega (arith, length-append t y, h.within) }

field-before : {b : ℕ} {y : List ℕ} (t : List ℕ) (a : ℕ) → length t ≤ a → Within b y → Within (suc (a + b)) (field t ++ y)
field-before {b} {y} t a g h = record { within = omega (arith, length-append t y, g, h.within) }

number-before : {b : ℕ} {y : List ℕ} (n : ℕ) → Within b y → Within (21 + b) (number n ++ y)
number-before {b} {y} n h = record { within = omega (arith, length-append (whole_text n) y, digits_most 19 n, h.within) }

kind-before : {b : ℕ} {y : List ℕ} (k : FileKind) → Within b y → Within (7 + b) (kind_field k ++ y)
kind-before Unknown h = record { within = omega (arith, h.within) }
kind-before Bottle h = record { within = omega (arith, h.within) }
kind-before Ctd h = record { within = omega (arith, h.within) }

-- ---- the lines
pub refused-long : (c : Checked) → length (refused_line c) ≤ 71
unfolding refused_line
refused-long c = (word-before (bytes "refused") (number-before c.number (number-before c.line (number-before c.column line-end)))).within

pub accepted-long : (c : Checked) → length (accepted_line c) ≤ 100
unfolding accepted_line
accepted-long c =
    (word-before (bytes "accepted")
    (kind-before c.kind (number-before c.columns (number-before c.rows (number-before c.profiles (number-before c.missing line-end)))))
    ).within

-- a profile's line, by the digits of its numbers and the lengths of its texts
pub profile-long : (f : List ℕ) (k : ℕ) (p : ProfileRecord) (a b e s d : ℕ) → length (whole_text p.first) ≤ a → length (whole_text p.rows) ≤ b
    → length (station_text f k (bytes "EXPOCODE")) ≤ e → length (station_text f k (bytes "STNNBR")) ≤ s → length (whole_text p.castno) ≤ d
    → length (profile_line f k p) ≤ 13 + a + b + e + s + d
unfolding profile_line
profile-long f k p a b e s d x y u v w =
    let long = word-before (bytes "profile") (field-before (whole_text p.first) a x (field-before (whole_text p.rows) b y
    (field-before (station_text f k (bytes "EXPOCODE")) e u (field-before (station_text f k (bytes "STNNBR")) s v (field-before (whole_text p.castno) d w line-end))))) in
    omega (arith, long.within)
