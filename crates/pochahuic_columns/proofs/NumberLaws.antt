-- The numbers of an answer, from what the call below answered.
use Prim.Native.Nat.{ℕ}
use mathlib.Core.Path.{◌≡◌, ap, ◌∙◌}
use mathlib.Core.List.{List, ◌++◌}
use Rattle.format.specs.declared.HeaderPlace.{HeaderPlace}
use Rattle.format.specs.declared.Named.{Named}
use Rattle.format.specs.declared.Opened.{Opened}
use Rattle.pochahuic.specs.Numbers.{check_numbers}
use Rattle.whole_columns.specs.declared.ColumnRead.{ColumnRead}
use Rattle.whole_columns.specs.Columns.{filled_from}
use Rattle.pochahuic_columns.specs.Numbers.{start_numbers, open_numbers, named_numbers, header_numbers, column_numbers}

pub open_answered : (x y : Opened) → x ≡ y → (ns : List ℕ) → ns ≡ check_numbers x.checked
    → (x.checked.number ≡ y.checked.number) × (ns ++ start_numbers x ≡ open_numbers y)
open_answered x y e ns h = (ap (λ (z : Opened). z.checked.number) e, ap (λ (l : List ℕ). l ++ start_numbers x) h ∙ ap open_numbers e)

pub named_answered : (x y : Named) → x ≡ y → (x.number ≡ y.number) × (named_numbers x ≡ named_numbers y)
named_answered x y e = (ap (λ (z : Named). z.number) e, ap named_numbers e)

pub header_answered : (x y : HeaderPlace) → x ≡ y → (x.number ≡ y.number) × (header_numbers x ≡ header_numbers y)
header_answered x y e = (ap (λ (z : HeaderPlace). z.number) e, ap header_numbers e)

pub column_answered : (x y : ColumnRead) → x ≡ y → (ns : List ℕ) → ns ≡ column_numbers x → (x.number ≡ y.number) × (ns ≡ column_numbers y)
column_answered x y e ns h = (ap (λ (z : ColumnRead). z.number) e, h ∙ ap column_numbers e)

-- a table filled with so many rows as were answered
pub filled_along : {A : Type 0} (entry : ℕ → A) (before after : List A) {x y : ColumnRead} → x ≡ y
    → after ≡ filled_from entry 1 x.rows before → after ≡ filled_from entry 1 y.rows before
filled_along entry before after e h = h ∙ ap (λ (z : ColumnRead). filled_from entry 1 z.rows before) e
