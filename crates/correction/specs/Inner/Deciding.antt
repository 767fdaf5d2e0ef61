-- The words of the contracts of the functions that decide a correction.
use Rattle.std.specs.Prelude.{ℕ, ◌≡◌, List, [], ◌∷◌, cond, not, length, ltb, Option, Some, None, Result, Ok, Err}
use Rattle.format.specs.declared.Located.{Located}
use Rattle.format.specs.declared.Refusal.{Refusal}
use Rattle.numbers.specs.Texts.{number_text}
use Rattle.orders.specs.declared.Order.{Order}
use Rattle.orders.specs.declared.Answer.TheVariants.{Applied, Refused}
use Rattle.correction.specs.declared.writing.CellPlaces.{CellPlaces}
use Rattle.orders.specs.Corrections.{bad_number, wrong_flag, Test, test, answer_of, filled, corrected_of}
use Rattle.correction.specs.Inner.Writing.{Writes, fills_at}

-- the number of the first test that holds
unfoldable pub first_broken : List Test → Option ℕ
first_broken [] = None
first_broken (x ∷ xs) = cond x.holds (Some x.number) (first_broken xs)

-- the tests from 22 on, by what is known of the cells of a measurement that is there
abbrev pub tests_at : Located → Order → List Test
tests_at x o =
    test 22 (not x.measured)
    ∷ test 23 (bad_number o)
    ∷ test 24 (wrong_flag x.flagged x.ctd o.flag)
    ∷ test 25 (ltb x.value.len (length (number_text o.millionths o.decimals)))
    ∷ []

-- the correction o of f is applied, and filling the cells at these places makes it
pub record Applies (f : List ℕ) (o : Order) (p : CellPlaces) : Type 0 where
  pub answer : answer_of f o ≡ Applied
  pub writes : Writes f p o
  pub fills : filled (fills_at p o) f ≡ corrected_of f o

-- what the correction o of f is answered: applied, by the places of its cells, or refused
abbrev pub Decides : List ℕ → Order → Result CellPlaces Refusal → Type 0
Decides f o (Ok p) = Applies f o p
Decides f o (Err e) = answer_of f o ≡ Refused e.number e.line e.column
