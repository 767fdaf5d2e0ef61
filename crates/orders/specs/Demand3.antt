-- Demand 3, in the words of document 01, "The words of demand 3": one claim, with no condition on the file or the list. It speaks of the definitions that
-- the promises of the calls cite: check (outcome_of, checked_of), profile (profile_of), decimal (reading_for), flag (flagged_of) and correct (answer_of, corrected_of).
-- Its proof is proofs/Demand3Laws.antt.
use Rattle.std.specs.Prelude.{ℕ, ◌+◌, ◌≤◌, ◌<◌, ◌≡◌, List, [], ◌∷◌, map, Bool, true, false, cond, ◌&&◌, length, get_or, eqb}
use Rattle.std.proofs.Math.Option.{Option, none, some}
use Rattle.line_bytes.specs.declared.Span.{Span}
use Rattle.text.specs.Reading.{read_number}
use Rattle.format.specs.declared.Flagged.{Flagged}
use Rattle.format.specs.Places.{Table, accepted, refused, outcome_of}
use Rattle.format.specs.Answers.{checked_of, reading_for, flagged_of}
use Rattle.format.specs.Located.{flag_column_of, cells_of}
use Rattle.format.specs.Records.{profile_of}
use Rattle.laws.specs.Promises.{missing_pairs}
use Rattle.numbers.specs.Patches.{text_at}
use Rattle.orders.specs.declared.Order.{Order}
use Rattle.orders.specs.declared.Answer.{Answer}
use Rattle.orders.specs.declared.Answer.TheVariants.{Applied, Refused}
use Rattle.orders.specs.Corrections.{Test, tests_of, own_text, answer_of, Fill, fills_of, filled_text, corrected_of}

-- ---- a correction names the measurement at the row and column it gives, whether the file has them or not
pub record Measurement : Type 0 where
  pub row : ℕ
  pub column : ℕ

abbrev pub measurement_of : List ℕ → Order → Measurement
measurement_of f o = record { row = o.row; column = o.column }

-- measurements are different when row or column differs
abbrev pub Same : List ℕ → Order → Order → Type 0
Same f o p = measurement_of f o ≡ measurement_of f p

abbrev pub Different : List ℕ → Order → Order → Type 0
Different f o p = Same f o p → ⊥

-- ---- a list starts from any bytes, and each correction is made on the bytes the one before left
unfoldable pub corrected_all : List ℕ → List Order → List ℕ
corrected_all f [] = f
corrected_all f (o ∷ os) = corrected_all (corrected_of f o) os

unfoldable pub answers_to : List ℕ → List Order → List Answer
answers_to f [] = []
answers_to f (o ∷ os) = answer_of f o ∷ answers_to (corrected_of f o) os

-- ---- refused exactly where document 01 says so, and otherwise the cells filled just as it says
-- the answer of the first test that holds, with line and column 0; applied where none does
pub data IsFirst : List Test → Answer → Type 0 where
  nothing : IsFirst [] Applied
  here : {x : Test} {xs : List Test} → x.holds ≡ true → IsFirst (x ∷ xs) (Refused x.number 0 0)
  later : {x : Test} {xs : List Test} {a : Answer} → x.holds ≡ false → IsFirst xs a → IsFirst (x ∷ xs) a

-- none of the tests holds
abbrev pub NoneHolds : List Test → Type 0
NoneHolds [] = Unit {0}
NoneHolds (x ∷ xs) = (x.holds ≡ false) × NoneHolds xs

-- the check accepts, and none of the tests 21 to 25 holds
pub record MayApply (f : List ℕ) (o : Order) : Type 0 where
  pub table : Table
  pub rows : ℕ
  pub accepts : outcome_of f ≡ accepted table rows
  pub passes : NoneHolds (tests_of table rows (own_text table f o) o)

pub record Exactly (f : List ℕ) (o : Order) : Type 0 where
  pub only : answer_of f o ≡ Applied → MayApply f o
  pub always : MayApply f o → answer_of f o ≡ Applied
  pub file : (a b c : ℕ) → outcome_of f ≡ refused a b c → answer_of f o ≡ Refused a b c
  pub first : (t : Table) (n : ℕ) → outcome_of f ≡ accepted t n → IsFirst (tests_of t n (own_text t f o) o) (answer_of f o)
  pub unchanged : (a b c : ℕ) → answer_of f o ≡ Refused a b c → corrected_of f o ≡ f
  -- what it fills are the measurement's cells, with each text at the right of its cell
  pub cells : map (λ (x : Fill). x.place) (fills_of f o) ≡ cells_of f o.row o.column
  pub fills : answer_of f o ≡ Applied → map (λ (x : Fill). text_at (corrected_of f o) x.place) (fills_of f o) ≡ map filled_text (fills_of f o)

-- the answers, one for each correction of the list
abbrev pub EachExactly : List ℕ → List Order → List Answer → Type 0
EachExactly f [] [] = Unit {0}
EachExactly f [] (a ∷ rest) = ⊥
EachExactly f (o ∷ os) [] = ⊥
EachExactly f (o ∷ os) (a ∷ rest) = (a ≡ answer_of f o) × Exactly f o × EachExactly (corrected_of f o) os rest

-- ---- every measurement set by an applied correction reads as the last one applied to it ordered
abbrev pub names : List ℕ → Order → Measurement → Bool
names f o m = eqb o.row m.row && eqb o.column m.column

abbrev pub if_applied : Answer → Bool → Order → Option Order
if_applied Applied b o = cond b (some o) none
if_applied (Refused x y z) b o = none

abbrev pub or_else : Option Order → Option Order → Option Order
or_else (some o) x = some o
or_else none x = x

-- the last correction of the list that is of a sort, names m and is applied
unfoldable pub last_that : (Order → Bool) → List ℕ → List Order → Measurement → Option Order
last_that p f [] m = none
last_that p f (o ∷ os) m = or_else (last_that p (corrected_of f o) os m) (if_applied (answer_of f o) (p o && names f o m) o)

-- of any sort
abbrev pub any : Order → Bool
any o = true

abbrev pub last_to : List ℕ → List Order → Measurement → Option Order
last_to f os m = last_that any f os m

-- reads as ordered: present with the ordered millionths, or missing if -999 was ordered; its flag column, if there is one, gives the ordered flag
abbrev pub flag_is : ℕ → Flagged
flag_is v = record { number = 0; line = 0; column = 0; flag = v }

pub record ReadsAs (f : List ℕ) (m : Measurement) (o : Order) : Type 0 where
  pub value : reading_for f m.row m.column ≡ read_number o.millionths
  pub flag : 0 < flag_column_of f m.column → flagged_of f m.row (flag_column_of f m.column) ≡ flag_is o.flag

-- ---- all bytes outside the cells of those measurements are the old ones
abbrev pub Within : Span → ℕ → Type 0
Within p i = (p.start ≤ i) × (i < p.start + p.len)

abbrev pub InNone : List Span → ℕ → Type 0
InNone [] i = Unit {0}
InNone (p ∷ ps) i = (Within p i → ⊥) × InNone ps i

-- ---- an accepted file is still accepted: of the check's answer all stays but the count of missing readings, which is that of the readings then, and every
-- profile's record stays
pub record Kept (f g : List ℕ) : Type 0 where
  pub outcome : outcome_of g ≡ outcome_of f
  pub number : (checked_of g).number ≡ (checked_of f).number
  pub line : (checked_of g).line ≡ (checked_of f).line
  pub column : (checked_of g).column ≡ (checked_of f).column
  pub kind : (checked_of g).kind ≡ (checked_of f).kind
  pub columns : (checked_of g).columns ≡ (checked_of f).columns
  pub rows : (checked_of g).rows ≡ (checked_of f).rows
  pub profiles : (checked_of g).profiles ≡ (checked_of f).profiles
  pub missing : (checked_of g).missing ≡ missing_pairs g
  pub records : (k : ℕ) → profile_of g k ≡ profile_of f k
  pub long : length g ≡ length f

-- ---- the claim for a list
pub record AfterList (f : List ℕ) (os : List Order) : Type 0 where
  pub answers : EachExactly f os (answers_to f os)
  pub kept : Kept f (corrected_all f os)
  pub reads : (m : Measurement) (o : Order) → last_to f os m ≡ some o → ReadsAs (corrected_all f os) m o
  pub outside : (i z : ℕ) → ((m : Measurement) (o : Order) → last_to f os m ≡ some o → InNone (cells_of f m.row m.column) i)
      → get_or (corrected_all f os) i z ≡ get_or f i z

-- the claim for two corrections: either order leaves the same bytes, and each gets the answer it gets alone, on the file before the first of the two
pub record EitherOrder (f : List ℕ) (o p : Order) : Type 0 where
  pub bytes : corrected_all f (o ∷ p ∷ []) ≡ corrected_all f (p ∷ o ∷ [])
  pub answers : answers_to f (o ∷ p ∷ []) ≡ answer_of f o ∷ answer_of f p ∷ []
  pub swapped : answers_to f (p ∷ o ∷ []) ≡ answer_of f p ∷ answer_of f o ∷ []

pub record Demand3 : Type 0 where
  pub list : (f : List ℕ) (os : List Order) → AfterList f os
  pub different : (f : List ℕ) (o p : Order) → Different f o p → EitherOrder f o p
  -- both are applied: the file is what the later alone would have left
  pub same : (f : List ℕ) (o p : Order) → Same f o p → answer_of f o ≡ Applied → answer_of (corrected_of f o) p ≡ Applied
      → corrected_all f (o ∷ p ∷ []) ≡ corrected_all f (p ∷ [])
