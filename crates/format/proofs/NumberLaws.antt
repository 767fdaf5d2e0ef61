-- The first broken rule of each list of rules has a number from 1 to 20.
use Prim.Native.Nat.{ℕ, zero, suc, ◌+◌, ◌-◌, ◌≤◌}
use mathlib.Core.Path.{◌≡◌, refl}
use mathlib.Core.List.{List, [], ◌∷◌, ◌++◌}
use mathlib.Core.Bool.{Bool, true, false, cond, not, ◌&&◌, ◌||◌}
use native.Mathlib.Omega.{arith}
use lib.ListN.{length}
use lib.Dec.{eqb, leb, ltb}
use borrow.Author.Tests.{leb-true}
use Rattle.std.specs.Prelude.{Option, Some, None}
use Rattle.line_bytes.specs.Cells.{pieces, line_at}
use Rattle.line_bytes.specs.Spaces.{trim}
use Rattle.line_bytes.specs.Names.{is_name}
use Rattle.verdicts.specs.Verdicts.{Verdict, blank, wrong, out_of_range, good}
use Rattle.verdicts.specs.Kinds.{kind_of}
use Rattle.verdicts.specs.Judge.{judge}
use Rattle.line_bytes.specs.Lines.{ill_formed, return_at, control_at}
use Rattle.line_bytes.proofs.CellLaws.{both_true}
use Rattle.format.specs.Faults.{Fault, clean, breaks, ◌then◌, first_of, unless, kind_fault, member, has_all}
use Rattle.format.specs.LineRules.{found_fault, byte_rules, line_rules, unended_rules}
use Rattle.format.specs.Headers.{Header, raw_name, name_of, value_of, header_of, names_in, header_name_rule, headers_said, first_header_rules, header_kind, header_rules, station_names, last_header_rules}
use Rattle.format.specs.Columns.{Sort, bottle, ctd, name_rules, is_flag, has_parameter, flag_rules, required_names, names_of, names_line_rules, kinds_of}
use Rattle.format.specs.Rows.{cell_rules, row_rules, bound_rules, data_line_rules, is_end_data}
use Rattle.format.specs.Places.{Place, first, comments, headers, names, units, rows, after, stopped, is_mark, is_bottle, is_ctd, first_line_rules, is_comment, top_rules, rules_at, last_piece_rules, end_rules}
use Rattle.format.specs.Inner.Faults.{line_fault, unended_fault}
use Rattle.format.specs.Inner.Lines.{line_fault_at}

-- a number of the table, by a test that computes
abbrev pub in_table : ℕ → Bool
in_table n = leb 1 n && leb n 20

abbrev pub Numbered : Fault → Type 0
Numbered clean = Unit {0}
Numbered (breaks n c) = in_table n ≡ true

pub number_range : (n c : ℕ) → Numbered (breaks n c) → (1 ≤ n) × (n ≤ 20)
number_range n c e = let w = both_true (leb 1 n) (leb n 20) e in (leb-true 1 n w.0, leb-true n 20 w.1)

pub numbered_nonzero : (n c : ℕ) → Numbered (breaks n c) → n ≡ 0 → ⊥
numbered_nonzero n c e z = omega (arith, (number_range n c e).0)

-- ---- one rule
number-unless : (b : Bool) (n c : ℕ) → in_table n ≡ true → Numbered (unless b n c)
number-unless true n c h = tt
number-unless false n c h = h

number-found : (n : ℕ) (r : Option ℕ) → in_table n ≡ true → Numbered (found_fault n r)
number-found n (Some i) h = h
number-found n None h = tt

number-kind : (v : Verdict) (c : ℕ) → Numbered (kind_fault v c)
number-kind blank c = refl
number-kind wrong c = refl
number-kind out_of_range c = refl
number-kind (good m v d) c = tt

pub number_then : (a b : Fault) → Numbered a → Numbered b → Numbered (a then b)
number_then clean b h g = g
number_then (breaks n c) b h g = h

pub number_either : (b : Bool) (f g : Fault) → Numbered f → Numbered g → Numbered (cond b f g)
number_either true f g h k = h
number_either false f g h k = k

-- ---- the first broken one of some rules
abbrev pub FirstNumbered : List Fault → Type 0
FirstNumbered rs = Numbered (first_of rs)

none_numbered : FirstNumbered []
unfolding first_of
none_numbered = tt

first_numbered : (r : Fault) (rs : List Fault) → Numbered r → FirstNumbered rs → FirstNumbered (r ∷ rs)
unfolding first_of
first_numbered r rs h g = number_then r (first_of rs) h g

append_numbered : (xs ys : List Fault) → FirstNumbered xs → FirstNumbered ys → FirstNumbered (xs ++ ys)
unfolding first_of
append_numbered [] ys h g = g
append_numbered (clean ∷ xs) ys h g = append_numbered xs ys h g
append_numbered (breaks n c ∷ xs) ys h g = h

pub either_numbered : (b : Bool) (xs ys : List Fault) → FirstNumbered xs → FirstNumbered ys → FirstNumbered (cond b xs ys)
either_numbered true xs ys h g = h
either_numbered false xs ys h g = g

unless_numbered : (b : Bool) (n c : ℕ) (rs : List Fault) → in_table n ≡ true → FirstNumbered rs → FirstNumbered (unless b n c ∷ rs)
unless_numbered b n c rs h g = first_numbered (unless b n c) rs (number-unless b n c h) g

one_numbered : (b : Bool) (n c : ℕ) → in_table n ≡ true → FirstNumbered (unless b n c ∷ [])
one_numbered b n c h = unless_numbered b n c [] h none_numbered

kind_numbered : (v : Verdict) (c : ℕ) (rs : List Fault) → FirstNumbered rs → FirstNumbered (kind_fault v c ∷ rs)
kind_numbered v c rs g = first_numbered (kind_fault v c) rs (number-kind v c) g

-- ---- the lists of the places
line_numbered : (control : Bool) (x : List ℕ) → FirstNumbered (line_rules control x)
unfolding line_rules byte_rules
line_numbered control x =
    unless_numbered (leb (length x) 8192) 1 8193 _ refl
    (first_numbered (found_fault 3 (ill_formed x)) _ (number-found 3 (ill_formed x) refl)
    (first_numbered (found_fault 4 (return_at x)) _ (number-found 4 (return_at x) refl)
    (first_numbered (cond control (found_fault 5 (control_at x)) clean) []
    (number_either control (found_fault 5 (control_at x)) clean (number-found 5 (control_at x) refl) tt) none_numbered)))

unended_numbered : (x : List ℕ) → FirstNumbered (unended_rules x)
unfolding unended_rules
unended_numbered x = unless_numbered (leb (length x) 8192) 1 8193 _ refl (first_numbered (breaks 2 (length x + 1)) [] refl none_numbered)

-- a line by place, with its line feed or without
pub line_at_numbered : (control : Bool) (s : List ℕ) (i : ℕ) → Numbered (line_fault_at control s i)
unfolding line_fault_at line_fault unended_fault
line_at_numbered control s i =
    let x = line_at s i in
    number_either (ltb (i + length x) (length s)) (line_fault control x) (unended_fault x) (line_numbered control x) (unended_numbered x)

pub first-line_numbered : (x : List ℕ) → FirstNumbered (first_line_rules x)
unfolding first_line_rules
first-line_numbered x = unless_numbered (not (is_mark x)) 6 1 _ refl (one_numbered (is_bottle x || is_ctd x) 7 1 refl)

name_numbered : (c : ℕ) (earlier ts : List (List ℕ)) → FirstNumbered (name_rules c earlier ts)
unfolding name_rules
name_numbered c earlier [] = none_numbered
name_numbered c earlier (t ∷ ts) =
    unless_numbered (ltb (length earlier) 256) 11 c _ refl
    (unless_numbered (is_name (trim t)) 10 c _ refl
    (unless_numbered (not (member (trim t) earlier)) 9 c _ refl (name_numbered (c + length t + 1) (earlier ++ trim t ∷ []) ts)))

pub flag_numbered : (c : ℕ) (ns ts : List (List ℕ)) → FirstNumbered (flag_rules c ns ts)
unfolding flag_rules
flag_numbered c ns [] = none_numbered
flag_numbered c ns (t ∷ ts) = unless_numbered (not (is_flag (trim t)) || has_parameter ns (trim t)) 12 c _ refl (flag_numbered (c + length t + 1) ns ts)

pub names_numbered : (k : Sort) (x : List ℕ) → FirstNumbered (names_line_rules k x)
unfolding names_line_rules
names_numbered k x =
    let a = name_rules 1 [] (pieces 44 x) in
    let b = flag_rules 1 (names_of x) (pieces 44 x) in
    append_numbered (a ++ b) _ (append_numbered a b (name_numbered 1 [] (pieces 44 x)) (flag_numbered 1 (names_of x) (pieces 44 x)))
    (one_numbered (has_all (required_names k) (names_of x)) 13 1 refl)

cell_numbered : (c : ℕ) (ks : List ℕ) (ts : List (List ℕ)) → FirstNumbered (cell_rules c ks ts)
unfolding cell_rules
cell_numbered c [] ts = none_numbered
cell_numbered c (k ∷ ks) [] = none_numbered
cell_numbered c (k ∷ ks) (t ∷ ts) = kind_numbered (judge (kind_of k) t) c _ (cell_numbered (c + length t + 1) ks ts)

data_numbered : (n : ℕ) (ns ts : List (List ℕ)) → FirstNumbered (data_line_rules n ns ts)
unfolding data_line_rules row_rules bound_rules
data_numbered n ns ts =
    append_numbered (unless (ltb n 1000000) 20 1 ∷ unless (eqb (length ts) (length (kinds_of ns))) 15 1 ∷ cell_rules 1 (kinds_of ns) ts) []
    (unless_numbered (ltb n 1000000) 20 1 _ refl (unless_numbered (eqb (length ts) (length (kinds_of ns))) 15 1 _ refl (cell_numbered 1 (kinds_of ns) ts)))
    none_numbered

last_numbered : (due : ℕ) (hs : List Header) → FirstNumbered (last_header_rules due hs)
unfolding last_header_rules
last_numbered zero hs = one_numbered (has_all station_names (names_in hs)) 13 1 refl
last_numbered (suc due) hs = none_numbered

pub header-name_numbered : (x : List ℕ) → Numbered (header_name_rule x)
unfolding header_name_rule
header-name_numbered x = number-unless (ltb (length (raw_name x)) (length x) && leb (length (name_of x)) 64 && is_name (name_of x)) 8 1 refl

pub first-header_numbered : (x : List ℕ) → FirstNumbered (first_header_rules x)
unfolding first_header_rules
first-header_numbered x = first_numbered (header_name_rule x) _ (header-name_numbered x) (one_numbered (ltb 0 (headers_said x)) 8 1 refl)

pub header_numbered : (earlier : List (List ℕ)) (x : List ℕ) → FirstNumbered (header_rules earlier x)
unfolding header_rules
header_numbered earlier x =
    first_numbered (header_name_rule x) _ (header-name_numbered x) (unless_numbered (not (member (name_of x) earlier)) 9 1 _ refl
    (kind_numbered (judge (kind_of (header_kind (name_of x))) (value_of x)) (length (raw_name x) + 2) [] none_numbered))

top_numbered : (k : Sort) (x : List ℕ) → FirstNumbered (top_rules k x)
top_numbered bottle x = names_numbered bottle x
top_numbered ctd x = append_numbered (first_header_rules x) _ (first-header_numbered x) (last_numbered (headers_said x - 1) (header_of x ∷ []))

-- ---- a line at its place, and the file's end
own_numbered : (x : List ℕ) (rs : List Fault) → FirstNumbered rs → FirstNumbered (line_rules true x ++ rs)
own_numbered x rs g = append_numbered (line_rules true x) rs (line_numbered true x) g

pub rules_numbered : (p : Place) (x : List ℕ) → FirstNumbered (rules_at p x)
unfolding rules_at
rules_numbered first x = own_numbered x (first_line_rules x) (first-line_numbered x)
rules_numbered (comments k) x = either_numbered (is_comment x) (line_rules false x) (line_rules true x ++ top_rules k x) (line_numbered false x) (own_numbered x (top_rules k x) (top_numbered k x))
rules_numbered (headers due hs) x =
    own_numbered x _ (append_numbered (header_rules (names_in hs) x) _ (header_numbered (names_in hs) x) (last_numbered (due - 1) (hs ++ header_of x ∷ [])))
rules_numbered (names k hs) x = own_numbered x (names_line_rules k x) (names_numbered k x)
rules_numbered (units k hs ns) x = own_numbered x _ (one_numbered (eqb (length (pieces 44 x)) (length ns)) 15 1 refl)
rules_numbered (rows t n) x =
    own_numbered x _ (either_numbered (is_end_data x) (unless (not (eqb n 0)) 19 1 ∷ []) (data_line_rules n t.names (pieces 44 x))
    (one_numbered (not (eqb n 0)) 19 1 refl) (data_numbered n t.names (pieces 44 x)))
rules_numbered (after t n) x = line_numbered false x
rules_numbered (stopped a b c) x = none_numbered

last-line_numbered : (due : Bool) (x : List ℕ) → FirstNumbered (last_piece_rules due x)
unfolding last_piece_rules
last-line_numbered due [] = one_numbered (not due) 14 1 refl
last-line_numbered due (x ∷ xs) = unended_numbered (x ∷ xs)

pub end_numbered : (p : Place) (x : List ℕ) → FirstNumbered (end_rules p x)
unfolding end_rules
end_numbered first x = last-line_numbered true x
end_numbered (comments k) x = last-line_numbered true x
end_numbered (headers due hs) x = last-line_numbered true x
end_numbered (names k hs) x = last-line_numbered true x
end_numbered (units k hs ns) x = last-line_numbered true x
end_numbered (rows t n) x = last-line_numbered true x
end_numbered (after t n) x = last-line_numbered false x
end_numbered (stopped a b c) x = none_numbered
