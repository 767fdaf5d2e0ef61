-- A refused file has a number from 1 to 20: so has each place at which a run is stopped.
use Prim.Native.Nat.{ℕ, zero, suc, ◌+◌, ◌-◌}
use mathlib.Core.Path.{◌≡◌, sym, ◌∙◌}
use mathlib.Core.List.{List, [], ◌∷◌, ◌++◌}
use mathlib.Core.Bool.{Bool, true, false, cond}
use native.Mathlib.Omega.{arith}
use lib.ListN.{length}
use lib.Dec.{leb}
use Rattle.line_bytes.specs.Cells.{pieces}
use Rattle.format.specs.Faults.{Fault, clean, breaks, ◌then◌, first_of, unless}
use Rattle.format.specs.LineRules.{unended_rules}
use Rattle.format.specs.Headers.{Header, header_of, headers_said}
use Rattle.format.specs.Columns.{Sort, bottle, ctd}
use Rattle.format.specs.Rows.{is_end_data}
use Rattle.format.specs.Places.{Place, first, comments, headers, names, units, rows, after, stopped, is_comment, rules_at, last_piece_rules, end_rules, due_headers, after_top, next_place, stop_at, step, refused, last, run, outcome_of}
use Rattle.format.specs.Inner.Faults.{unended_fault}
use Rattle.format.proofs.AcceptLaws.{accepted_not-refused}
use Rattle.format.proofs.RuleLaws.{Going, fault_outcome, last_cut}
use Rattle.format.proofs.NumberLaws.{in_table, Numbered, numbered_nonzero, rules_numbered}

refused-number : {a b c m l d : ℕ} → refused m l d ≡ refused a b c → m ≡ a
refused-number e = cc

abbrev PlaceNumbered : Place → Type 0
PlaceNumbered first = Unit {0}
PlaceNumbered (comments k) = Unit {0}
PlaceNumbered (headers due hs) = Unit {0}
PlaceNumbered (names k hs) = Unit {0}
PlaceNumbered (units k hs ns) = Unit {0}
PlaceNumbered (rows t n) = Unit {0}
PlaceNumbered (after t n) = Unit {0}
PlaceNumbered (stopped a b c) = in_table a ≡ true

due_numbered : (due : ℕ) (hs : List Header) → PlaceNumbered (due_headers due hs)
due_numbered zero hs = tt
due_numbered (suc due) hs = tt

next_numbered : (l : ℕ) (p : Place) (x : List ℕ) → PlaceNumbered p → PlaceNumbered (next_place l p x)
unfolding next_place
next_numbered l first x h = tt
next_numbered l (comments k) x h = go (is_comment x) k
  where
    go : (z : Bool) (k : Sort) → PlaceNumbered (cond z (comments k) (after_top k x))
    go true k = tt
    go false bottle = tt
    go false ctd = due_numbered (headers_said x - 1) (header_of x ∷ [])
next_numbered l (headers due hs) x h = due_numbered (due - 1) (hs ++ header_of x ∷ [])
next_numbered l (names k hs) x h = tt
next_numbered l (units k hs ns) x h = tt
next_numbered l (rows t n) x h = go (is_end_data x)
  where
    go : (z : Bool) → PlaceNumbered (cond z (after t n) (rows t (n + 1)))
    go true = tt
    go false = tt
next_numbered l (after t n) x h = tt
next_numbered l (stopped a b c) x h = h

stop_numbered : (l : ℕ) (f : Fault) (p : Place) → Numbered f → PlaceNumbered p → PlaceNumbered (stop_at l f p)
stop_numbered l clean p h g = g
stop_numbered l (breaks n c) p h g = h

step_numbered : (l : ℕ) (p : Place) (x : List ℕ) → PlaceNumbered p → PlaceNumbered (step l p x)
step_numbered l p x h = stop_numbered l (first_of (rules_at p x)) (next_place l p x) (rules_numbered p x) (next_numbered l p x h)

-- at the file's end: 14, or a last line that has no line feed
module _ (l : ℕ) {a b c : ℕ} where
  none-refused : (p : Place) → PlaceNumbered p → last l p [] ≡ refused a b c → in_table a ≡ true
  unfolding end_rules last_piece_rules first_of
  none-refused first h e = rw (sym (refused-number e))
  none-refused (comments k) h e = rw (sym (refused-number e))
  none-refused (headers due hs) h e = rw (sym (refused-number e))
  none-refused (names k hs) h e = rw (sym (refused-number e))
  none-refused (units k hs ns) h e = rw (sym (refused-number e))
  none-refused (rows t n) h e = rw (sym (refused-number e))
  none-refused (after t n) h e = absurd (accepted_not-refused (sym e))
  none-refused (stopped m k d) h e = rw (sym (refused-number e)) h

  cut-number : (p : Place) (x : ℕ) (xs : List ℕ) → Going p → last l p (x ∷ xs) ≡ refused a b c → in_table a ≡ true
  unfolding unended_fault unended_rules first_of
  cut-number p x xs g e = go (leb (length (x ∷ xs)) 8192) (sym (last_cut l p (x ∷ xs) (omega arith) g) ∙ e)
    where
      go : (z : Bool) → fault_outcome l (unless z 1 8193 then breaks 2 (length (x ∷ xs) + 1) then clean) ≡ refused a b c → in_table a ≡ true
      go true e = rw (sym (refused-number e))
      go false e = rw (sym (refused-number e))

  cut_numbered : (p : Place) (x : ℕ) (xs : List ℕ) → PlaceNumbered p → last l p (x ∷ xs) ≡ refused a b c → in_table a ≡ true
  unfolding end_rules first_of
  cut_numbered first x xs h e = cut-number first x xs tt e
  cut_numbered (comments k) x xs h e = cut-number (comments k) x xs tt e
  cut_numbered (headers due hs) x xs h e = cut-number (headers due hs) x xs tt e
  cut_numbered (names k hs) x xs h e = cut-number (names k hs) x xs tt e
  cut_numbered (units k hs ns) x xs h e = cut-number (units k hs ns) x xs tt e
  cut_numbered (rows t n) x xs h e = cut-number (rows t n) x xs tt e
  cut_numbered (after t n) x xs h e = cut-number (after t n) x xs tt e
  cut_numbered (stopped m k d) x xs h e = rw (sym (refused-number e)) h

run_numbered : (ps : List (List ℕ)) (l : ℕ) (p : Place) {a b c : ℕ} → PlaceNumbered p → run l p ps ≡ refused a b c → in_table a ≡ true
unfolding run
run_numbered [] l p h e = none-refused l p h e
run_numbered ([] ∷ []) l p h e = none-refused l p h e
run_numbered ((x ∷ xs) ∷ []) l p h e = cut_numbered l p x xs h e
run_numbered (x ∷ (y ∷ ys)) l p h e = run_numbered (y ∷ ys) (l + 1) (step l p x) (step_numbered l p x h) e

pub refused_numbered : (f : List ℕ) {a b c : ℕ} → outcome_of f ≡ refused a b c → a ≡ 0 → ⊥
unfolding outcome_of
refused_numbered f {a} {b} {c} e z = numbered_nonzero a c (run_numbered (pieces 10 f) 1 first tt e) z
