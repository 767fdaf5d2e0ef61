-- Document 01, "Lines" and rules 1 to 5: a line is at most 8,192 bytes (H), has its line feed, is well-formed UTF-8, has no byte 0D and,
-- where that is asked, no byte below 20 and no 7F.
use Rattle.std.specs.Prelude.{ℕ, ◌+◌, List, [], ◌∷◌, Bool, cond, length, leb, Option, Some, None}
use Rattle.line_bytes.specs.Lines.{ill_formed, return_at, control_at}
use Rattle.format.specs.Faults.{Fault, clean, breaks, unless}

-- the column of a byte that is found is counted from 1
abbrev pub found_fault : ℕ → Option ℕ → Fault
found_fault n (Some i) = breaks n (i + 1)
found_fault n None = clean

-- 1, whether the line has its line feed or not
abbrev pub line_too_long : List ℕ → Fault
line_too_long x = unless (leb (length x) 8192) 1 8193

-- 3, 4 and, where it is asked, 5
unfoldable pub byte_rules : Bool → List ℕ → List Fault
byte_rules control x = found_fault 3 (ill_formed x) ∷ found_fault 4 (return_at x) ∷ cond control (found_fault 5 (control_at x)) clean ∷ []

-- a line that has its line feed
unfoldable pub line_rules : Bool → List ℕ → List Fault
line_rules control x = line_too_long x ∷ byte_rules control x

-- the last line, where it has none: 1, then 2, shown one past its end
unfoldable pub unended_rules : List ℕ → List Fault
unended_rules x = line_too_long x ∷ breaks 2 (length x + 1) ∷ []
