-- Document 01, "A correction" and refusals 21 to 25: what a correction is answered, and the bytes it leaves.
use Rattle.std.specs.Prelude.{ℕ, ◌-◌, ◌%◌, ◌^◌, List, [], ◌∷◌, map, Bool, false, cond, not, ◌||◌, length, eqb, ltb, ℤ}
use Rattle.line_bytes.specs.declared.Span.{Span}
use Rattle.line_bytes.specs.Names.{begins_ctd}
use Rattle.verdicts.specs.Judge.{in_set}
use Rattle.format.specs.Places.{Table, Outcome, accepted, refused, outcome_of}
use Rattle.format.specs.Answers.{is_there, cell_place}
use Rattle.format.specs.Located.{name_at, is_measured, flag_column, has_flag}
use Rattle.numbers.specs.Texts.{size, number_text, flag_text, at_right}
use Rattle.numbers.specs.Patches.{text_at, patch}
use Rattle.orders.specs.declared.Order.{Order}
use Rattle.orders.specs.declared.Answer.{Answer}
use Rattle.orders.specs.declared.Answer.TheVariants.{Applied, Refused}

-- a correction gives row, column, millionths, number of decimals and flag
abbrev pub order_of : ℕ → ℕ → ℤ → ℕ → ℕ → Order
order_of r c m d v = record { row = r; column = c; millionths = m; decimals = d; flag = v }

-- ---- the measurement's cells as a correction fills them: columns of its row, and a text for each; a text only where there is a cell
pub record Entry : Type 0 where
  pub column : ℕ
  pub text : List ℕ

abbrev pub entry : ℕ → List ℕ → Entry
entry c t = record { column = c; text = t }

-- the value's text
abbrev pub value_entry : Order → Entry
value_entry o = entry o.column (number_text o.millionths o.decimals)

-- the flag digit, if there is a flag column
abbrev pub flag_entries : Table → Order → List Entry
flag_entries t o = cond (has_flag t o.column) (entry (flag_column t o.column) (flag_text o.flag) ∷ []) []

abbrev pub entries_of : Table → Order → List Entry
entries_of t o = value_entry o ∷ flag_entries t o

-- the numbers among them
abbrev pub number_entries : Table → Order → List Entry
number_entries t o = value_entry o ∷ []

-- ---- the refusals of a correction, each in the words of the table. The table of the file is t, with n rows.
-- 21: no such row or column
abbrev pub no_such_cell : Table → ℕ → Order → Bool
no_such_cell t n o = not (is_there t n o.row o.column)

-- 22: the column isn't of the kind that is corrected, measured
abbrev pub not_correctable : Table → Order → Bool
not_correctable t o = not (is_measured t o.column)

-- 23: decimals above 6, value not below 10^15 millionths in size, or not exact in those decimals
unfoldable pub bad_number : Order → Bool
bad_number o = ltb 6 o.decimals || (not (ltb (size o.millionths) (10 ^ 15)) || not (eqb (size o.millionths % 10 ^ (6 - o.decimals)) 0))

-- 24: flag not in the set (verdicts, Judge), or not 0 where there is no flag column; by whether the column has one, and whether its name begins with CTD
abbrev pub wrong_flag : Bool → Bool → ℕ → Bool
wrong_flag flagged ctd v = not (cond flagged (in_set ctd v) (eqb v 0))

unfoldable pub bad_flag : Table → Order → Bool
bad_flag t o = wrong_flag (has_flag t o.column) (begins_ctd (name_at t o.column)) o.flag

-- 25: text longer than the value cell; own gives the text that the row has in a column, of which nothing but the width is looked at
unfoldable pub any_longer : (ℕ → List ℕ) → List Entry → Bool
any_longer own [] = false
any_longer own (e ∷ es) = ltb (length (own e.column)) (length e.text) || any_longer own es

abbrev pub text_too_long : Table → (ℕ → List ℕ) → Order → Bool
text_too_long t own o = any_longer own (number_entries t o)

-- ---- the answer: the file's refusal, or the first of the tests that holds, with line and column 0
pub record Test : Type 0 where
  pub number : ℕ
  pub holds : Bool

abbrev pub test : ℕ → Bool → Test
test n b = record { number = n; holds = b }

-- in number order
abbrev pub tests_of : Table → ℕ → (ℕ → List ℕ) → Order → List Test
tests_of t n own o =
    test 21 (no_such_cell t n o)
    ∷ test 22 (not_correctable t o)
    ∷ test 23 (bad_number o)
    ∷ test 24 (bad_flag t o)
    ∷ test 25 (text_too_long t own o)
    ∷ []

unfoldable pub first_that : List Test → Answer
first_that [] = Applied
first_that (x ∷ xs) = cond x.holds (Refused x.number 0 0) (first_that xs)

-- the text of column c in the row of a correction, with its spaces
abbrev pub own_text : Table → List ℕ → Order → ℕ → List ℕ
own_text t f o c = text_at f (cell_place t f o.row c)

abbrev pub answer_by : List ℕ → Order → Outcome → Answer
answer_by f o (accepted t n) = first_that (tests_of t n (own_text t f o) o)
answer_by f o (refused a b c) = Refused a b c

unfoldable pub answer_of : List ℕ → Order → Answer
answer_of f o = answer_by f o (outcome_of f)

-- document 01's numbers for an answer: number, line and column, 0 each where it is applied
abbrev pub numbers_of : Answer → List ℕ
numbers_of Applied = 0 ∷ 0 ∷ 0 ∷ []
numbers_of (Refused a b c) = a ∷ b ∷ c ∷ []

-- ---- the bytes left
-- a text to be set at the right of the cell at a place
pub record Fill : Type 0 where
  pub place : Span
  pub text : List ℕ

abbrev pub fill : Span → List ℕ → Fill
fill p t = record { place = p; text = t }

-- an entry of row r, by its place in the file
abbrev pub fill_at : Table → List ℕ → ℕ → Entry → Fill
fill_at t f r e = fill (cell_place t f r e.column) e.text

-- what a correction fills, none where the file is refused
abbrev pub fills_by : List ℕ → Order → Outcome → List Fill
fills_by f o (accepted t n) = map (fill_at t f o.row) (entries_of t o)
fills_by f o (refused a b c) = []

abbrev pub fills_of : List ℕ → Order → List Fill
fills_of f o = fills_by f o (outcome_of f)

-- what the cell then holds
abbrev pub filled_text : Fill → List ℕ
filled_text x = at_right x.place.len x.text

unfoldable pub filled : List Fill → List ℕ → List ℕ
filled [] f = f
filled (x ∷ xs) f = filled xs (patch f x.place.start (filled_text x))

-- a refused correction hands on the bytes it got
abbrev pub left_by : Answer → List ℕ → List ℕ → List ℕ
left_by Applied new old = new
left_by (Refused a b c) new old = old

unfoldable pub corrected_of : List ℕ → Order → List ℕ
corrected_of f o = left_by (answer_of f o) (filled (fills_of f o) f) f
