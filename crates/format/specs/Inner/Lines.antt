-- The words of the contracts of a line's reading: where it starts and ends, and its rules 1 to 5; no promise of a public call cites them.
use Rattle.std.specs.Prelude.{ℕ, ◌+◌, ◌-◌, ◌<◌, ◌≡◌, List, Bool, cond, length, drop, ltb, Result, Ok, Err}
use Rattle.line_bytes.specs.Bytes.{line_feed}
use Rattle.line_bytes.specs.Cells.{line_at, pieces}
use Rattle.format.specs.declared.BrokenRule.{BrokenRule}
use Rattle.format.specs.Faults.{Fault, clean, breaks}
use Rattle.format.specs.Inner.Faults.{line_fault, unended_fault}

-- the lines from place i on
abbrev pub lines_from : List ℕ → ℕ → List (List ℕ)
lines_from s i = pieces line_feed (drop i s)

-- line l, from 1, starts at i
abbrev pub StartsAt : List ℕ → ℕ → ℕ → Type 0
StartsAt s l i = lines_from s i ≡ drop (l - 1) (pieces line_feed s)

-- rules 1 to 5 of the line that starts at i, which may lack its line feed
unfoldable pub line_fault_at : Bool → List ℕ → ℕ → Fault
line_fault_at control s i = cond (ltb (i + length (line_at s i)) (length s)) (line_fault control (line_at s i)) (unended_fault (line_at s i))

-- the code's line: where its line feed stands, or the broken rule
abbrev pub line_for : Fault → ℕ → Result ℕ BrokenRule
line_for clean e = Ok e
line_for (breaks n c) e = Err (record { number = n; column = c })

unfoldable pub line_of : Bool → List ℕ → ℕ → Result ℕ BrokenRule
line_of control s i = line_for (line_fault_at control s i) (i + length (line_at s i))

-- the line that goes on at i has its line feed at e
pub record Ends (s : List ℕ) (i e : ℕ) : Type 0 where
  pub room : e < length s
  pub far : e ≡ i + length (line_at s i)
