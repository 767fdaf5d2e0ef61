-- The words of the contracts of the names line's rules; no promise of a public call cites them.
use Rattle.std.specs.Prelude.{ℕ, ◌+◌, ◌-◌, ◌≤◌, ◌<◌, ◌≡◌, List, ◌++◌, map, Bool, not, ◌||◌, length, get_or, take, replicate, eqb, leb, Some, None, Result, Ok, Err}
use Rattle.line_bytes.specs.Bytes.{comma, line_feed}
use Rattle.line_bytes.specs.Cells.{line_at, pieces}
use Rattle.line_bytes.specs.declared.Span.{Span}
use Rattle.columns.specs.declared.Cells.{Cells}
use Rattle.columns.specs.declared.Columns.{Columns}
use Rattle.format.specs.declared.BrokenRule.{BrokenRule}
use Rattle.format.specs.Faults.{Fault, clean, breaks}
use Rattle.format.specs.Columns.{is_flag, has_parameter, names_of, kinds_of, Sort}
use Rattle.format.specs.Grid.{starts}
use Rattle.format.specs.Inner.Faults.{names_line_fault}
use Rattle.format.specs.Inner.Names.{names_at}

-- where piece k starts, the first starting at c
unfoldable pub start_of : ℕ → List (List ℕ) → ℕ → ℕ
start_of c ts k = c + starts (map length ts) k

-- the line ends at q, where one of its cells does
unfoldable pub is_last : List ℕ → ℕ → Bool
is_last s q = leb (length s) q || eqb (get_or s q 0) line_feed

-- the places of the first cells of the line that goes on at `at`
pub record Placed (s : List ℕ) (at : ℕ) (ps : List Span) : Type 0 where
  pub few : length ps ≤ 256
  pub names : names_at s ps ≡ take (length ps) (names_of (line_at s at))
  pub begin : (k : ℕ) (d : Span) → k < length ps → (get_or ps k d).start ≡ start_of at (pieces comma (line_at s at)) k
  pub inside : (k : ℕ) (d : Span) → k < length ps → (get_or ps k d).start ≤ at + length s

-- the cells of the line, 256 at the most
pub record CellsFound (s : List ℕ) (at : ℕ) (r : Cells) : Type 0 where
  pub wide : length r.places ≡ 256
  pub few : r.count ≤ 256
  pub placed : Placed s at (take r.count r.places)
  pub all : r.over ≡ None → r.count ≡ length (pieces comma (line_at s at))
  pub more : (i : ℕ) → r.over ≡ Some i
      → (r.count ≡ 256) × (256 < length (pieces comma (line_at s at))) × (i ≡ start_of at (pieces comma (line_at s at)) 256) × (i ≤ at + length s)

-- rule 12 of a name among the names ns
unfoldable pub keeps_parameter : List (List ℕ) → List ℕ → Bool
keeps_parameter ns n = not (is_flag n) || has_parameter ns n

-- the code's columns of the names ns: their kinds, filled up with zeros; or the broken rule
abbrev pub filled : List ℕ → List ℕ
filled ks = ks ++ replicate (256 - length ks) 0

abbrev pub broken : ℕ → ℕ → BrokenRule
broken n c = record { number = n; column = c }

abbrev pub columns_by : List (List ℕ) → Fault → Result Columns BrokenRule
columns_by ns clean = Ok (record { count = length ns; kinds = filled (kinds_of ns) })
columns_by ns (breaks n c) = Err (broken n c)

-- those of the names line x of a bottle or a CTD file
unfoldable pub columns_for : Sort → List ℕ → Result Columns BrokenRule
columns_for k x = columns_by (names_of x) (names_line_fault k x)

-- what they say, as a caller uses it
pub record ColumnsRead (k : Sort) (x : List ℕ) (r : Columns) : Type 0 where
  pub fault : names_line_fault k x ≡ clean
  pub few : r.count ≤ 256
  pub many : r.count ≡ length (names_of x)
  pub kinds : take r.count r.kinds ≡ kinds_of (names_of x)
