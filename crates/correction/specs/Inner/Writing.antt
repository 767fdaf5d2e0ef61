-- The words of the contract of the function that writes a correction's texts into the lent file.
use Rattle.std.specs.Prelude.{ℕ, ◌≤◌, List, [], ◌∷◌, Option, Some, None, IfSome}
use Rattle.line_bytes.specs.declared.Span.{Span}
use Rattle.numbers.specs.Texts.{number_text, flag_text}
use Rattle.numbers.specs.Inner.Puts.{InCell}
use Rattle.orders.specs.declared.Order.{Order}
use Rattle.correction.specs.declared.writing.CellPlaces.{CellPlaces}
use Rattle.orders.specs.Corrections.{Fill, fill}

-- a measurement's cells may be written: the value's, and the flag's where there is one
pub record Writes (f : List ℕ) (p : CellPlaces) (o : Order) : Type 0 where
  pub few : o.decimals ≤ 6
  pub number : InCell f p.value (number_text o.millionths o.decimals)
  pub digit : IfSome p.flag (λ q. (o.flag ≤ 9) × InCell f q (flag_text o.flag))

-- what is filled in at these places
abbrev pub flag_fills : Option Span → ℕ → List Fill
flag_fills (Some q) v = fill q (flag_text v) ∷ []
flag_fills None v = []

abbrev pub fills_at : CellPlaces → Order → List Fill
fills_at p o = fill p.value (number_text o.millionths o.decimals) ∷ flag_fills p.flag o.flag
