-- A kind of file as the code has it; no promise of a public call cites these words.
use Rattle.std.specs.Prelude.{ℕ, Bool, cond, eqb}
use Rattle.format.specs.Columns.{Sort, bottle, ctd}

-- the kind of the number 1 and of any other, and that of the code's test for a bottle file
abbrev pub sort_of : ℕ → Sort
sort_of k = cond (eqb k 1) bottle ctd

abbrev pub sort_for : Bool → Sort
sort_for b = cond b bottle ctd
