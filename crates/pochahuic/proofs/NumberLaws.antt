-- The numbers of an answer, from what the call below answered.
use Prim.Native.Nat.{ℕ}
use mathlib.Core.Path.{◌≡◌, sym, ap, ◌∙◌}
use mathlib.Core.List.{List, [], ◌∷◌}
use lib.ListN.{get_or}
use lib.IntN.{ℤ, pos}
use lib.Ieee.{Float, binary64, of_bits}
use Rattle.text.specs.declared.Reading.{Reading}
use Rattle.text.specs.declared.Reading.TheVariants.{Present, Missing, Refused}
use Rattle.text.proofs.DoubleLaws.{nought}
use Rattle.format.specs.declared.Checked.{Checked}
use Rattle.format.specs.declared.CellPlace.{CellPlace}
use Rattle.format.specs.declared.Flagged.{Flagged}
use Rattle.format.specs.declared.CastTime.{CastTime}
use Rattle.format.specs.declared.CastTime.TheVariants.{Given, Missing as Untimed}
use Rattle.format.specs.declared.ProfileRecord.{ProfileRecord}
use Rattle.orders.specs.declared.Order.{Order}
use Rattle.orders.specs.declared.Answer.{Answer}
use Rattle.orders.specs.declared.Answer.TheVariants.{Applied, Refused as Denied}
use Rattle.orders.specs.declared.ListLine.{ListLine}
use Rattle.orders.specs.Corrections.{order_of, answer_of, corrected_of, numbers_of}
use Rattle.format.specs.ReadingNumbers.{reading_case, read_millionths, read_value}
use Rattle.pochahuic.specs.Numbers.{kind_number, check_numbers, place_numbers, refusal_of, flag_numbers, time_numbers, profile_numbers, answer_number, line_numbers}

pub check_answered : (x y : Checked) → x ≡ y → (k : ℕ) → k ≡ kind_number x.kind
    → (x.number ≡ y.number) × (x.number ∷ x.line ∷ x.column ∷ k ∷ x.columns ∷ x.rows ∷ x.profiles ∷ x.missing ∷ [] ≡ check_numbers y)
check_answered x y e k h = (ap (λ (z : Checked). z.number) e, ap (λ (i : ℕ). x.number ∷ x.line ∷ x.column ∷ i ∷ x.columns ∷ x.rows ∷ x.profiles ∷ x.missing ∷ []) h ∙ ap check_numbers e)

pub place_answered : (x y : CellPlace) → x ≡ y → (ns : List ℕ) → ns ≡ place_numbers x → (x.number ≡ y.number) × (ns ≡ place_numbers y)
place_answered x y e ns h = (ap (λ (z : CellPlace). z.number) e, h ∙ ap place_numbers e)

pub flag_answered : (x y : Flagged) → x ≡ y → (x.number ≡ y.number) × (flag_numbers x ≡ flag_numbers y)
flag_answered x y e = (ap (λ (z : Flagged). z.number) e, ap flag_numbers e)

-- ---- a decimal: what a reading r is answered by
abbrev ReadAs : Reading → ℕ → ℤ → Float → List ℕ → Type 0
ReadAs r k m v out = (k ≡ reading_case r) × ((m ≡ read_millionths r) × ((v ≡ read_value r) × (out ≡ refusal_of r)))

module _ (r x : Reading) (e : r ≡ x) where
  pub present_answered : (m : ℤ) (v : Float) → r ≡ Present m v → (z : ℤ) → z ≡ m → ReadAs x 0 z v (0 ∷ 0 ∷ 0 ∷ [])
  present_answered m v h z same = let is = sym h ∙ e in (ap reading_case is, (same ∙ ap read_millionths is, (ap read_value is, ap refusal_of is)))

  pub missing_answered : r ≡ Missing → ReadAs x 1 (pos 0) (of_bits binary64 0) (0 ∷ 0 ∷ 0 ∷ [])
  missing_answered h = let is = sym h ∙ e in (ap reading_case is, (ap read_millionths is, (nought ∙ ap read_value is, ap refusal_of is)))

  pub refused_answered : (a b c : ℕ) → r ≡ Refused a b c → ReadAs x 2 (pos 0) (of_bits binary64 0) (a ∷ b ∷ c ∷ [])
  refused_answered a b c h = let is = sym h ∙ e in (ap reading_case is, (ap read_millionths is, (nought ∙ ap read_value is, ap refusal_of is)))

-- ---- a profile, its time as three numbers
three : (t : CastTime) (ns : List ℕ) → ns ≡ time_numbers t → get_or ns 0 0 ∷ get_or ns 1 0 ∷ get_or ns 2 0 ∷ [] ≡ time_numbers t
three (Given h m) ns e = ap (λ (l : List ℕ). get_or l 0 0 ∷ get_or l 1 0 ∷ get_or l 2 0 ∷ []) e
three Untimed ns e = ap (λ (l : List ℕ). get_or l 0 0 ∷ get_or l 1 0 ∷ get_or l 2 0 ∷ []) e

pub profile_answered : (x y : ProfileRecord) → x ≡ y → (ns : List ℕ) → ns ≡ time_numbers x.time
    → (x.number ≡ y.number) × (x.number ∷ x.line ∷ x.column ∷ x.first ∷ x.rows ∷ x.castno ∷ x.date ∷ get_or ns 0 0 ∷ get_or ns 1 0 ∷ get_or ns 2 0 ∷ [] ≡ profile_numbers y)
profile_answered x y e ns h = (
  ap (λ (z : ProfileRecord). z.number) e,
  ap (λ (l : List ℕ). x.number ∷ x.line ∷ x.column ∷ x.first ∷ x.rows ∷ x.castno ∷ x.date ∷ l) (three x.time ns h) ∙ ap profile_numbers e,
)

-- ---- a correction: the call below was given the order o, which is the order p asked for, and left the bytes g
pub order_along : (r c : ℕ) {z m : ℤ} → z ≡ m → (d v : ℕ) → order_of r c z d v ≡ order_of r c m d v
order_along r c e d v = ap (λ (i : ℤ). order_of r c i d v) e

module _ (f : List ℕ) {o p : Order} (same : o ≡ p) {r : Answer} (e : r ≡ answer_of f o) {g : List ℕ} (left : g ≡ corrected_of f o) where
  pub applied_answered : r ≡ Applied → (0 ≡ answer_number (answer_of f p)) × ((g ≡ corrected_of f p) × (0 ∷ 0 ∷ 0 ∷ [] ≡ numbers_of (answer_of f p)))
  applied_answered h = let is = sym h ∙ e ∙ ap (answer_of f) same in (ap answer_number is, (left ∙ ap (corrected_of f) same, ap numbers_of is))

  pub denied_answered : (n l c : ℕ) → r ≡ Denied n l c
      → (n ≡ answer_number (answer_of f p)) × ((g ≡ corrected_of f p) × (n ∷ l ∷ c ∷ [] ≡ numbers_of (answer_of f p)))
  denied_answered n l c h = let is = sym h ∙ e ∙ ap (answer_of f) same in (ap answer_number is, (left ∙ ap (corrected_of f) same, ap numbers_of is))

pub line_answered : (x y : ListLine) → x ≡ y → (z : ℤ) → z ≡ x.millionths → (x.number ≡ y.number) × ((z ≡ y.millionths) × (line_numbers x ≡ line_numbers y))
line_answered x y e z same = (ap (λ (l : ListLine). l.number) e, (same ∙ ap (λ (l : ListLine). l.millionths) e, ap line_numbers e))
