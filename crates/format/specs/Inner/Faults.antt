-- The first broken rule of each list, as the contracts of the code's inner functions say it. No promise of a public call cites them.
use Rattle.std.specs.Prelude.{ℕ, zero, suc, List, Bool}
use Rattle.format.specs.Faults.{Fault, first_of, clean, breaks}
use Rattle.format.specs.LineRules.{byte_rules, line_rules, unended_rules}
use Rattle.format.specs.Headers.{first_header_rules, header_rules}
use Rattle.format.specs.Columns.{Sort, name_rules, flag_rules, names_line_rules}
use Rattle.format.specs.Rows.{cell_rules, row_rules, bound_rules}

unfoldable pub byte_fault : Bool → List ℕ → Fault
byte_fault control x = first_of (byte_rules control x)

unfoldable pub line_fault : Bool → List ℕ → Fault
line_fault control x = first_of (line_rules control x)

unfoldable pub unended_fault : List ℕ → Fault
unended_fault x = first_of (unended_rules x)

unfoldable pub first_header_fault : List ℕ → Fault
first_header_fault x = first_of (first_header_rules x)

unfoldable pub header_fault : List (List ℕ) → List ℕ → Fault
header_fault earlier x = first_of (header_rules earlier x)

unfoldable pub name_fault : ℕ → List (List ℕ) → List (List ℕ) → Fault
name_fault c earlier ts = first_of (name_rules c earlier ts)

unfoldable pub flag_fault : ℕ → List (List ℕ) → List (List ℕ) → Fault
flag_fault c ns ts = first_of (flag_rules c ns ts)

unfoldable pub names_line_fault : Sort → List ℕ → Fault
names_line_fault k x = first_of (names_line_rules k x)

unfoldable pub cell_fault : ℕ → List ℕ → List (List ℕ) → Fault
cell_fault c ks ts = first_of (cell_rules c ks ts)

unfoldable pub row_fault : List ℕ → List (List ℕ) → Fault
row_fault ks ts = first_of (row_rules ks ts)

unfoldable pub bound_fault : List (List ℕ) → List (List ℕ) → Fault
bound_fault ns ts = first_of (bound_rules ns ts)

-- a number and a column as a fault, 0 being none
abbrev pub as_fault : ℕ → ℕ → Fault
as_fault zero c = clean
as_fault (suc n) c = breaks (suc n) c
