-- Document 01, "Refusal numbers": the rules of each line of a file. What they are and in which order stands with the check (Places: rules_at, end_rules); here
-- is where a line stands: the place that the lines before it lead to, no rule being looked at.
use Rattle.std.specs.Prelude.{ℕ, ◌+◌, ◌-◌, List, [], ◌∷◌, cond, length, get_or, take, ltb}
use Rattle.line_bytes.specs.Bytes.{line_feed}
use Rattle.line_bytes.specs.Cells.{pieces}
use Rattle.format.specs.Faults.{Fault}
use Rattle.format.specs.Places.{Place, first, rules_at, end_rules, next_place}

-- from line l at a place, over some lines
unfoldable pub walk : ℕ → Place → List (List ℕ) → Place
walk l p [] = p
walk l p (x ∷ xs) = walk (l + 1) (next_place l p x) xs

-- ---- line l of a file, from 1: the place that the lines before it lead to, its bytes, and its rules; the last is what stands after the last line feed
abbrev pub lines_in : List ℕ → ℕ
lines_in f = length (pieces line_feed f)

unfoldable pub place_before : List ℕ → ℕ → Place
place_before f l = walk 1 first (take (l - 1) (pieces line_feed f))

abbrev pub line_in : List ℕ → ℕ → List ℕ
line_in f l = get_or (pieces line_feed f) (l - 1) []

unfoldable pub rules_of : List ℕ → ℕ → List Fault
rules_of f l = cond (ltb l (lines_in f)) (rules_at (place_before f l) (line_in f l)) (end_rules (place_before f l) (line_in f l))
