-- The first broken rule of the lists of rules: the lists taken apart, and with them the step at each place and the file's end.
use Prim.Native.Nat.{ℕ, ◌+◌, ◌-◌, ◌<◌}
use mathlib.Core.Path.{◌≡◌, refl, sym, ap, ◌∙◌}
use mathlib.Core.List.{List, [], ◌∷◌, ◌++◌}
use mathlib.Core.Bool.{Bool, true, false, cond, not}
use native.Mathlib.Omega.{arith}
use lib.ListN.{length}
use lib.Dec.{leb, eqb, ltb}
use Rattle.line_bytes.specs.Cells.{pieces}
use Rattle.format.specs.Faults.{Fault, clean, breaks, ◌then◌, first_of, unless, has_all}
use Rattle.format.specs.LineRules.{line_rules, unended_rules}
use Rattle.format.specs.Headers.{Header, header_of, names_in, headers_said, first_header_rules, header_rules, last_header_rules}
use Rattle.format.specs.Columns.{Sort, bottle, ctd, name_rules, flag_rules, required_names, names_of, names_line_rules, kinds_of}
use Rattle.format.specs.Rows.{row_rules, bound_rules, data_line_rules, is_end_data}
use Rattle.format.specs.Places.{Table, Place, first, comments, headers, names, units, rows, after, stopped, is_bottle, is_comment, first_line_rules, rules_at, last_piece_rules, end_rules, due_headers, next_place, stop_at, step, Outcome, refused, outcome_at, last}
use Rattle.format.specs.Inner.Faults.{line_fault, unended_fault, first_header_fault, header_fault, name_fault, flag_fault, names_line_fault, row_fault, bound_fault}

then_assoc : (a b c : Fault) → ((a then b) then c) ≡ (a then (b then c))
then_assoc clean b c = refl
then_assoc (breaks n k) b c = refl

pub then-none : (a : Fault) → (a then clean) ≡ a
then-none clean = refl
then-none (breaks n c) = refl

pub first-append : (xs ys : List Fault) → first_of (xs ++ ys) ≡ (first_of xs then first_of ys)
unfolding first_of
first-append [] ys = refl
first-append (x ∷ xs) ys = ap (λ (r : Fault). x then r) (first-append xs ys) ∙ sym (then_assoc x (first_of xs) (first_of ys))

first_one : (r : Fault) → first_of (r ∷ []) ≡ r
unfolding first_of
first_one r = then-none r

-- ---- the names line, a data line
pub names_rules : (k : Sort) (x : List ℕ)
    → names_line_fault k x ≡ (name_fault 1 [] (pieces 44 x) then flag_fault 1 (names_of x) (pieces 44 x) then unless (has_all (required_names k) (names_of x)) 13 1)
unfolding names_line_fault names_line_rules name_fault flag_fault
names_rules k x =
    let a = name_rules 1 [] (pieces 44 x) in
    let b = flag_rules 1 (names_of x) (pieces 44 x) in
    let r = unless (has_all (required_names k) (names_of x)) 13 1 in
    first-append (a ++ b) (r ∷ []) ∙ rw (first-append a b, first_one r) (then_assoc (first_of a) (first_of b) r)

data_rules : (n : ℕ) (ns ts : List (List ℕ)) → first_of (data_line_rules n ns ts) ≡ (unless (ltb n 1000000) 20 1 then row_fault (kinds_of ns) ts then bound_fault ns ts)
unfolding data_line_rules row_fault bound_fault first_of
data_rules n ns ts = ap (λ (r : Fault). unless (ltb n 1000000) 20 1 then r) (first-append (row_rules (kinds_of ns) ts) (bound_rules ns ts))

-- ---- one line at its place: rules 1 to 5 and then its own
stop-line : (l : ℕ) (control : Bool) (x : List ℕ) (rs : List Fault) (r : Fault) (p : Place) → first_of rs ≡ r
    → stop_at l (first_of (line_rules control x ++ rs)) p ≡ stop_at l (line_fault control x then r) p
unfolding line_fault
stop-line l control x rs r p e = ap (λ (y : Fault). stop_at l y p) (first-append (line_rules control x) rs ∙ ap (λ (y : Fault). first_of (line_rules control x) then y) e)

pub first_step : (l : ℕ) (x : List ℕ) → step l first x ≡ stop_at l (line_fault true x then first_of (first_line_rules x)) (comments (cond (is_bottle x) bottle ctd))
unfolding rules_at next_place
first_step l x = stop-line l true x (first_line_rules x) _ _ refl

pub comment-step : (l : ℕ) (k : Sort) (x : List ℕ) → is_comment x ≡ true → step l (comments k) x ≡ stop_at l (line_fault false x) (comments k)
unfolding rules_at next_place line_fault
comment-step l k x e = rw e

pub names-step : (l : ℕ) (k : Sort) (hs : List Header) (x : List ℕ) → step l (names k hs) x ≡ stop_at l (line_fault true x then names_line_fault k x) (units k hs (names_of x))
unfolding rules_at next_place names_line_fault
names-step l k hs x = stop-line l true x (names_line_rules k x) _ _ refl

-- the first line of a bottle file that is no comment is its names line
pub bottle-step : (l : ℕ) (x : List ℕ) → is_comment x ≡ false → step l (comments bottle) x ≡ step l (names bottle []) x
unfolding rules_at next_place
bottle-step l x e = rw e

pub units-step : (l : ℕ) (k : Sort) (hs : List Header) (ns : List (List ℕ)) (x : List ℕ)
    → step l (units k hs ns) x ≡ stop_at l (line_fault true x then unless (eqb (length (pieces 44 x)) (length ns)) 15 1) (rows (record { sort = k; headers = hs; names = ns; line = l }) 0)
unfolding rules_at next_place
units-step l k hs ns x = stop-line l true x _ _ _ (first_one (unless (eqb (length (pieces 44 x)) (length ns)) 15 1))

pub end_step : (l : ℕ) (t : Table) (n : ℕ) (x : List ℕ) → is_end_data x ≡ true → step l (rows t n) x ≡ stop_at l (line_fault true x then unless (not (eqb n 0)) 19 1) (after t n)
unfolding rules_at next_place
end_step l t n x e = rw e (stop-line l true x _ _ _ (first_one (unless (not (eqb n 0)) 19 1)))

pub row_step : (l : ℕ) (t : Table) (n : ℕ) (x : List ℕ) → is_end_data x ≡ false
    → step l (rows t n) x ≡ stop_at l (line_fault true x then unless (ltb n 1000000) 20 1 then row_fault (kinds_of t.names) (pieces 44 x) then bound_fault t.names (pieces 44 x)) (rows t (n + 1))
unfolding rules_at next_place
row_step l t n x e = rw e (stop-line l true x _ _ _ (data_rules n t.names (pieces 44 x)))

pub after-step : (l : ℕ) (t : Table) (n : ℕ) (x : List ℕ) → step l (after t n) x ≡ stop_at l (line_fault false x) (after t n)
unfolding rules_at next_place line_fault
after-step l t n x = refl

-- headers: 13 after the last
unfoldable pub after_header : ℕ → ℕ → List Header → Place
after_header l due hs = stop_at l (first_of (last_header_rules due hs)) (due_headers due hs)

stop-header : (l : ℕ) (x : List ℕ) (rs : List Fault) (due : ℕ) (hs : List Header)
    → stop_at l (first_of (line_rules true x ++ (rs ++ last_header_rules due hs))) (due_headers due hs) ≡ stop_at l (line_fault true x then first_of rs) (after_header l due hs)
unfolding after_header
stop-header l x rs due hs = stop-line l true x _ _ _ (first-append rs (last_header_rules due hs)) ∙ go (line_fault true x) (first_of rs)
  where
    go : (a b : Fault) → stop_at l (a then b then first_of (last_header_rules due hs)) (due_headers due hs) ≡ stop_at l (a then b) (stop_at l (first_of (last_header_rules due hs)) (due_headers due hs))
    go (breaks n c) b = refl
    go clean (breaks n c) = refl
    go clean clean = refl

pub first-header-step : (l : ℕ) (x : List ℕ) → is_comment x ≡ false
    → step l (comments ctd) x ≡ stop_at l (line_fault true x then first_header_fault x) (after_header l (headers_said x - 1) (header_of x ∷ []))
unfolding rules_at next_place first_header_fault
first-header-step l x e = rw e (stop-header l x (first_header_rules x) (headers_said x - 1) (header_of x ∷ []))

pub header-step : (l due : ℕ) (hs : List Header) (x : List ℕ)
    → step l (headers due hs) x ≡ stop_at l (line_fault true x then header_fault (names_in hs) x) (after_header l (due - 1) (hs ++ header_of x ∷ []))
unfolding rules_at next_place header_fault
header-step l due hs x = stop-header l x (header_rules (names_in hs) x) (due - 1) (hs ++ header_of x ∷ [])

-- ---- places that are no refusal
abbrev pub Going : Place → Type 0
Going first = Unit {0}
Going (comments k) = Unit {0}
Going (headers due hs) = Unit {0}
Going (names k hs) = Unit {0}
Going (units k hs ns) = Unit {0}
Going (rows t n) = Unit {0}
Going (after t n) = Unit {0}
Going (stopped a b c) = ⊥

-- ---- a last line that has no line feed
abbrev pub fault_outcome : ℕ → Fault → Outcome
fault_outcome l clean = refused 0 l 0
fault_outcome l (breaks n c) = refused n l c

pub cut_rules : (p : Place) (x : ℕ) (xs : List ℕ) → Going p → end_rules p (x ∷ xs) ≡ unended_rules (x ∷ xs)
unfolding end_rules last_piece_rules
cut_rules first x xs g = refl
cut_rules (comments k) x xs g = refl
cut_rules (headers due hs) x xs g = refl
cut_rules (names k hs) x xs g = refl
cut_rules (units k hs ns) x xs g = refl
cut_rules (rows t n) x xs g = refl
cut_rules (after t n) x xs g = refl
cut_rules (stopped a b c) x xs g = absurd g

pub last_cut : (l : ℕ) (p : Place) (x : List ℕ) → 0 < length x → Going p → last l p x ≡ fault_outcome l (unended_fault x)
unfolding unended_fault unended_rules first_of
last_cut l p [] h g = absurd (omega arith)
last_cut l p (x ∷ xs) h g = ap (λ (rs : List Fault). outcome_at (stop_at l (first_of rs) p)) (cut_rules p x xs g) ∙ go (leb (length (x ∷ xs)) 8192)
  where
    go : (b : Bool) → outcome_at (stop_at l (unless b 1 8193 then breaks 2 (length (x ∷ xs) + 1)) p) ≡ fault_outcome l (unless b 1 8193 then breaks 2 (length (x ∷ xs) + 1))
    go true = refl
    go false = refl
