-- The answers of the calls on a file opened once, on its names, units and headers and on whole columns, as numbers, for programs in other languages: refusal
-- number, line and column first, 0 each where nothing is refused. A name's or a unit's place is given as a cell's is (place_numbers of the crate pochahuic).
use Rattle.std.specs.Prelude.{ℕ, List, [], ◌∷◌, ◌++◌}
use Rattle.format.specs.declared.Opened.{Opened}
use Rattle.format.specs.declared.Named.{Named}
use Rattle.format.specs.declared.HeaderPlace.{HeaderPlace}
use Rattle.pochahuic.specs.Numbers.{check_numbers}
use Rattle.whole_columns.specs.declared.ColumnRead.{ColumnRead}

-- ---- a file opened: the check's numbers, then where its headers, its names line and its first data line start
abbrev pub start_numbers : Opened → List ℕ
start_numbers x = x.headers ∷ x.names ∷ x.first ∷ []

abbrev pub open_numbers : Opened → List ℕ
open_numbers x = check_numbers x.checked ++ start_numbers x

-- ---- the column of a name: its number
abbrev pub named_numbers : Named → List ℕ
named_numbers x = x.number ∷ x.line ∷ x.column ∷ x.place ∷ []

-- ---- a header: start and length of its name, and of its value
abbrev pub header_numbers : HeaderPlace → List ℕ
header_numbers x = x.number ∷ x.line ∷ x.column ∷ x.name.start ∷ x.name.len ∷ x.value.start ∷ x.value.len ∷ []

-- ---- a whole column: how many rows were given
abbrev pub column_numbers : ColumnRead → List ℕ
column_numbers x = x.number ∷ x.line ∷ x.column ∷ x.rows ∷ []
