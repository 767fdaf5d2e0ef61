-- Document 01, "Lines" and "Refusal numbers": the places of a line in their order, the rules of a line at its place, each once and in their order, and the
-- check as a run over the lines from a place: it is refused by the first broken rule. On one line: 1, 2, 3, 4, 5, then the place's own.
use Rattle.std.specs.Prelude.{ℕ, zero, suc, ◌+◌, ◌-◌, List, [], ◌∷◌, ◌++◌, Bool, true, false, cond, not, ◌||◌, length, take, eqb}
use Rattle.line_bytes.specs.Bytes.{comma, line_feed, bytes, equal}
use Rattle.line_bytes.specs.Cells.{first_piece, pieces}
use Rattle.format.specs.Faults.{Fault, clean, breaks, first_of, unless}
use Rattle.format.specs.LineRules.{line_rules, unended_rules}
use Rattle.format.specs.Headers.{Header, header_of, names_in, headers_said, first_header_rules, header_rules, last_header_rules}
use Rattle.format.specs.Columns.{Sort, bottle, ctd, names_of, names_line_rules}
use Rattle.format.specs.Rows.{data_line_rules, is_end_data}

-- a file's table: its headers, the names of its columns, and how many lines stand before its first data line
pub record Table : Type 0 where
  pub sort : Sort
  pub headers : List Header
  pub names : List (List ℕ)
  pub line : ℕ

-- the next line is line 1; a comment line, or the first after them; a header, so many being due; the names line; the units line; a data line, after
-- so many; one after END_DATA. Or a rule is broken.
pub data Place : Type 0 where
  first : Place
  comments : Sort → Place
  headers : (due : ℕ) → List Header → Place
  names : Sort → List Header → Place
  units : Sort → List Header → List (List ℕ) → Place
  rows : Table → ℕ → Place
  after : Table → ℕ → Place
  stopped : (number line column : ℕ) → Place

-- ---- line 1: BOTTLE or CTD, then nothing or a comma and anything; 6, 7
abbrev pub is_mark : List ℕ → Bool
is_mark x = equal (take 3 x) (0xef ∷ 0xbb ∷ 0xbf ∷ [])

abbrev pub is_bottle : List ℕ → Bool
is_bottle x = equal (first_piece comma x) (bytes "BOTTLE")

abbrev pub is_ctd : List ℕ → Bool
is_ctd x = equal (first_piece comma x) (bytes "CTD")

unfoldable pub first_line_rules : List ℕ → List Fault
first_line_rules x = unless (not (is_mark x)) 6 1 ∷ unless (is_bottle x || is_ctd x) 7 1 ∷ []

-- ---- comment lines, which start with #; the first line that is none
abbrev pub is_comment : List ℕ → Bool
is_comment x = equal (take 1 x) (bytes "#")

abbrev pub top_rules : Sort → List ℕ → List Fault
top_rules bottle x = names_line_rules bottle x
top_rules ctd x = first_header_rules x ++ last_header_rules (headers_said x - 1) (header_of x ∷ [])

-- ---- the rules of a line that has its line feed, at its place
unfoldable pub rules_at : Place → List ℕ → List Fault
rules_at first x = line_rules true x ++ first_line_rules x
rules_at (comments k) x = cond (is_comment x) (line_rules false x) (line_rules true x ++ top_rules k x)
rules_at (headers due hs) x = line_rules true x ++ (header_rules (names_in hs) x ++ last_header_rules (due - 1) (hs ++ header_of x ∷ []))
rules_at (names k hs) x = line_rules true x ++ names_line_rules k x
rules_at (units k hs ns) x = line_rules true x ++ unless (eqb (length (pieces comma x)) (length ns)) 15 1 ∷ []
rules_at (rows t n) x = line_rules true x ++ cond (is_end_data x) (unless (not (eqb n 0)) 19 1 ∷ []) (data_line_rules n t.names (pieces comma x))
rules_at (after t n) x = line_rules false x
rules_at (stopped a b c) x = []

-- ---- what stands after the last line feed: nothing, which is 14 where a line is due, or a line that has no line feed
unfoldable pub last_piece_rules : Bool → List ℕ → List Fault
last_piece_rules due [] = unless (not due) 14 1 ∷ []
last_piece_rules due (x ∷ xs) = unended_rules (x ∷ xs)

unfoldable pub end_rules : Place → List ℕ → List Fault
end_rules first x = last_piece_rules true x
end_rules (comments k) x = last_piece_rules true x
end_rules (headers due hs) x = last_piece_rules true x
end_rules (names k hs) x = last_piece_rules true x
end_rules (units k hs ns) x = last_piece_rules true x
end_rules (rows t n) x = last_piece_rules true x
end_rules (after t n) x = last_piece_rules false x
end_rules (stopped a b c) x = []

-- ---- the place of the line after line l, no rule being looked at
abbrev pub due_headers : ℕ → List Header → Place
due_headers zero hs = names ctd hs
due_headers (suc due) hs = headers (suc due) hs

abbrev pub after_top : Sort → List ℕ → Place
after_top bottle x = units bottle [] (names_of x)
after_top ctd x = due_headers (headers_said x - 1) (header_of x ∷ [])

unfoldable pub next_place : ℕ → Place → List ℕ → Place
next_place l first x = comments (cond (is_bottle x) bottle ctd)
next_place l (comments k) x = cond (is_comment x) (comments k) (after_top k x)
next_place l (headers due hs) x = due_headers (due - 1) (hs ++ header_of x ∷ [])
next_place l (names k hs) x = units k hs (names_of x)
next_place l (units k hs ns) x = rows (record { sort = k; headers = hs; names = ns; line = l }) 0
next_place l (rows t n) x = cond (is_end_data x) (after t n) (rows t (n + 1))
next_place l (after t n) x = after t n
next_place l (stopped a b c) x = stopped a b c

-- ---- one line: the first broken rule stops the check there, else it goes on
abbrev pub stop_at : ℕ → Fault → Place → Place
stop_at l clean p = p
stop_at l (breaks n c) p = stopped n l c

abbrev pub step : ℕ → Place → List ℕ → Place
step l p x = stop_at l (first_of (rules_at p x)) (next_place l p x)

-- a file is accepted, with its table and so many data lines, or refused
pub data Outcome : Type 0 where
  accepted : Table → ℕ → Outcome
  refused : (number line column : ℕ) → Outcome

-- the outcome where no line is left; 14 leaves none of the first six places
abbrev pub outcome_at : Place → Outcome
outcome_at first = refused 0 0 0
outcome_at (comments k) = refused 0 0 0
outcome_at (headers due hs) = refused 0 0 0
outcome_at (names k hs) = refused 0 0 0
outcome_at (units k hs ns) = refused 0 0 0
outcome_at (rows t n) = refused 0 0 0
outcome_at (after t n) = accepted t n
outcome_at (stopped a b c) = refused a b c

abbrev pub last : ℕ → Place → List ℕ → Outcome
last l p x = outcome_at (stop_at l (first_of (end_rules p x)) p)

-- the run over the lines from line l on; the list's last piece is what stands after the last line feed
unfoldable pub run : ℕ → Place → List (List ℕ) → Outcome
run l p [] = last l p []
run l p (x ∷ []) = last l p x
run l p (x ∷ (y ∷ ys)) = run (l + 1) (step l p x) (y ∷ ys)

-- the check of a file
unfoldable pub outcome_of : List ℕ → Outcome
outcome_of f = run 1 first (pieces line_feed f)
