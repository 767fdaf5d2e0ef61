-- What an accepted run says of each line: the data lines are there and keep the rules of a row.
use Prim.Native.Nat.{ℕ, zero, suc, ◌+◌, ◌-◌, ◌≤◌, ◌<◌}
use mathlib.Core.Path.{◌≡◌, refl, sym, ap, subst, ◌∙◌}
use mathlib.Core.List.{List, [], ◌∷◌, ◌++◌}
use mathlib.Core.Bool.{Bool, true, false, cond, not}
use native.Mathlib.Omega.{arith}
use lib.ListN.{length, get_or, drop}
use lib.Dec.{eqb, ltb}
use borrow.Author.Tests.{eqb-false}
use Rattle.line_bytes.specs.Cells.{pieces}
use Rattle.format.specs.Faults.{Fault, clean, breaks, first_of, unless}
use Rattle.format.specs.Headers.{Header, header_of, headers_said}
use Rattle.format.specs.Columns.{Sort, bottle, ctd, kinds_of}
use Rattle.format.specs.Rows.{is_end_data}
use Rattle.format.specs.Places.{Table, Place, first, comments, headers, names, units, rows, after, stopped, is_comment, rules_at, last_piece_rules, end_rules, due_headers, after_top, next_place, stop_at, step, accepted, refused, last, run, outcome_of}
use Rattle.format.specs.Inner.Faults.{line_fault, unended_fault, row_fault, bound_fault}
use Rattle.format.proofs.RuleLaws.{end_step, row_step, Going, fault_outcome, last_cut}
use Rattle.format.proofs.RunLaws.{run-stopped}
use Rattle.format.proofs.FaultLaws.{breaks-clean, then-clean}

pub accepted_not-refused : {t : Table} {n a b c : ℕ} → refused a b c ≡ accepted t n → ⊥
accepted_not-refused e = let z : ◌≡◌ {A = ℕ} 0 1 = cc in omega arith

pub accepted-table : {t u : Table} {n m : ℕ} → accepted t n ≡ accepted u m → t ≡ u
accepted-table e = cc

pub accepted-rows : {t u : Table} {n m : ℕ} → accepted t n ≡ accepted u m → n ≡ m
accepted-rows e = cc

pub fault-refused : (l : ℕ) (f : Fault) (t : Table) (n : ℕ) → fault_outcome l f ≡ accepted t n → ⊥
fault-refused l clean t n e = accepted_not-refused e
fault-refused l (breaks a c) t n e = accepted_not-refused e

-- a run that stops is refused
pub stops-refused : (l m k : ℕ) (f : Fault) (p : Place) (ps : List (List ℕ)) (t : Table) (n : ℕ) → run l (stop_at k f p) ps ≡ accepted t n → (f ≡ clean) × (run l p ps ≡ accepted t n)
stops-refused l m k clean p ps t n e = (refl, e)
stops-refused l m k (breaks a c) p ps t n e = absurd (accepted_not-refused (sym (run-stopped l a k c ps) ∙ e))

-- a last line that has no line feed is refused
cut_going : (l : ℕ) (p : Place) (x : ℕ) (xs : List ℕ) (t : Table) (n : ℕ) → Going p → last l p (x ∷ xs) ≡ accepted t n → ⊥
cut_going l p x xs t n g e = fault-refused l (unended_fault (x ∷ xs)) t n (sym (last_cut l p (x ∷ xs) (omega arith) g) ∙ e)

pub cut-refused : (l : ℕ) (p : Place) (x : ℕ) (xs : List ℕ) (t : Table) (n : ℕ) → last l p (x ∷ xs) ≡ accepted t n → ⊥
unfolding end_rules first_of
cut-refused l first x xs t n e = cut_going l first x xs t n tt e
cut-refused l (comments k) x xs t n e = cut_going l (comments k) x xs t n tt e
cut-refused l (headers due hs) x xs t n e = cut_going l (headers due hs) x xs t n tt e
cut-refused l (names k hs) x xs t n e = cut_going l (names k hs) x xs t n tt e
cut-refused l (units k hs ns) x xs t n e = cut_going l (units k hs ns) x xs t n tt e
cut-refused l (rows u m) x xs t n e = cut_going l (rows u m) x xs t n tt e
cut-refused l (after u m) x xs t n e = cut_going l (after u m) x xs t n tt e
cut-refused l (stopped a b c) x xs t n e = accepted_not-refused e

-- ---- after END_DATA the table and the number of rows stay
pub after-accepted : (ps : List (List ℕ)) (l : ℕ) (t : Table) (m : ℕ) (u : Table) (n : ℕ) → run l (after t m) ps ≡ accepted u n → (t ≡ u) × (m ≡ n)
unfolding run end_rules last_piece_rules first_of next_place
after-accepted [] l t m u n e = (accepted-table e, accepted-rows e)
after-accepted ([] ∷ []) l t m u n e = (accepted-table e, accepted-rows e)
after-accepted ((x ∷ xs) ∷ []) l t m u n e = absurd (cut-refused l (after t m) x xs u n e)
after-accepted (x ∷ (y ∷ ys)) l t m u n e = after-accepted (y ∷ ys) (l + 1) t m u n (stops-refused (l + 1) 0 l (first_of (rules_at (after t m) x)) (after t m) (y ∷ ys) u n e).1

-- ---- the data lines
pub record RowKept (t : Table) (ps : List (List ℕ)) (r : ℕ) : Type 0 where
  pub line : suc r < length ps
  pub bytes : line_fault true (get_or ps r []) ≡ clean
  pub cells : row_fault (kinds_of t.names) (pieces 44 (get_or ps r [])) ≡ clean
  pub bound : bound_fault t.names (pieces 44 (get_or ps r [])) ≡ clean

pub record RowsKept (t : Table) (m : ℕ) (ps : List (List ℕ)) (u : Table) (n : ℕ) : Type 0 where
  pub table : t ≡ u
  pub more : m ≤ n
  pub some : 1 ≤ n
  pub kept : (r : ℕ) → r < n - m → RowKept t ps r

none_left : (t : Table) (m : ℕ) (ps : List (List ℕ)) (u : Table) (n : ℕ) → (m ≡ 0 → ⊥) → t ≡ u → m ≡ n → RowsKept t m ps u n
none_left t m ps u n z e d = record { table = e; more = omega arith; some = omega (arith, z, d); kept = λ r h. absurd (omega (arith, d)) }

-- a line that is passed at the data place is END_DATA after some rows, or keeps the rules of a row
module _ (l : ℕ) (t : Table) (m : ℕ) (x : List ℕ) (ps : List (List ℕ)) (u : Table) (n : ℕ) (e : run (l + 1) (step l (rows t m) x) ps ≡ accepted u n) where
  pub end_passed : is_end_data x ≡ true → (m ≡ 0 → ⊥) × (run (l + 1) (after t m) ps ≡ accepted u n)
  end_passed q =
      let w = stops-refused (l + 1) 0 l _ (after t m) ps u n (ap (λ (p : Place). run (l + 1) p ps) (sym (end_step l t m x q)) ∙ e) in
      (go (eqb m 0) refl (then-clean (line_fault true x) _ w.0).1, w.1)
    where
      go : (z : Bool) → eqb m 0 ≡ z → unless (not z) 19 1 ≡ clean → m ≡ 0 → ⊥
      go true q f = absurd (breaks-clean 19 1 f)
      go false q f = eqb-false m 0 q

  pub row_passed : is_end_data x ≡ false
      → (line_fault true x ≡ clean) × (unless (ltb m 1000000) 20 1 ≡ clean) × (row_fault (kinds_of t.names) (pieces 44 x) ≡ clean) × (bound_fault t.names (pieces 44 x) ≡ clean)
      × (run (l + 1) (rows t (m + 1)) ps ≡ accepted u n)
  row_passed q =
      let w = stops-refused (l + 1) 0 l _ (rows t (m + 1)) ps u n (ap (λ (p : Place). run (l + 1) p ps) (sym (row_step l t m x q)) ∙ e) in
      let a = then-clean (line_fault true x) _ w.0 in
      let b = then-clean (unless (ltb m 1000000) 20 1) _ a.1 in
      let c = then-clean (row_fault (kinds_of t.names) (pieces 44 x)) (bound_fault t.names (pieces 44 x)) b.1 in
      (a.0, b.0, c.0, c.1, w.1)

pub rows-accepted : (ps : List (List ℕ)) (l : ℕ) (t : Table) (m : ℕ) (u : Table) (n : ℕ) → run l (rows t m) ps ≡ accepted u n → RowsKept t m ps u n
unfolding run end_rules last_piece_rules first_of
rows-accepted [] l t m u n e = absurd (accepted_not-refused e)
rows-accepted ([] ∷ []) l t m u n e = absurd (accepted_not-refused e)
rows-accepted ((x ∷ xs) ∷ []) l t m u n e = absurd (cut-refused l (rows t m) x xs u n e)
rows-accepted (x ∷ (y ∷ ys)) l t m u n e = by (is_end_data x) refl (rows-accepted (y ∷ ys) (l + 1) t (m + 1) u n)
  where
    ps : List (List ℕ)
    ps = x ∷ (y ∷ ys)

    by : (z : Bool) → is_end_data x ≡ z → (run (l + 1) (rows t (m + 1)) (y ∷ ys) ≡ accepted u n → RowsKept t (m + 1) (y ∷ ys) u n) → RowsKept t m ps u n
    by true q ih =
        let w = end_passed l t m x (y ∷ ys) u n e q in
        let v = after-accepted (y ∷ ys) (l + 1) t m u n w.1 in
        none_left t m ps u n w.0 v.0 v.1
    by false q ih =
        let w = row_passed l t m x (y ∷ ys) u n e q in
        let k = ih w.4 in
        record { table = k.table; more = omega (arith, k.more); some = k.some; kept = λ r h. go r h k w.0 w.2 w.3 }
      where
        go : (r : ℕ) → r < n - m → RowsKept t (m + 1) (y ∷ ys) u n → line_fault true x ≡ clean → row_fault (kinds_of t.names) (pieces 44 x) ≡ clean → bound_fault t.names (pieces 44 x) ≡ clean → RowKept t ps r
        go zero h k a b c = record { line = omega arith; bytes = a; cells = b; bound = c }
        go (suc r) h k a b c = let o = k.kept r (omega (arith, h)) in record { line = omega (arith, o.line); bytes = o.bytes; cells = o.cells; bound = o.bound }

-- ---- the lines before the data
abbrev pub Early : Place → Type 0
Early first = Unit {0}
Early (comments k) = Unit {0}
Early (headers due hs) = Unit {0}
Early (names k hs) = Unit {0}
Early (units k hs ns) = Unit {0}
Early (rows t n) = ⊥
Early (after t n) = ⊥
Early (stopped a b c) = Unit {0}

-- an early line l leads to an early place, or is the units line
pub data Next (l : ℕ) : Place → Type 0 where
  early : {p : Place} → Early p → Next l p
  table : (t : Table) → t.line ≡ l → Next l (rows t 0)

next-stop : (l k : ℕ) (f : Fault) (p : Place) → Next l p → Next l (stop_at k f p)
next-stop l k clean p h = h
next-stop l k (breaks a c) p h = early tt

next-header : (l due : ℕ) (hs : List Header) → Next l (due_headers due hs)
next-header l zero hs = early tt
next-header l (suc due) hs = early tt

next_place_lem : (l : ℕ) (p : Place) (x : List ℕ) → Early p → Next l (next_place l p x)
unfolding next_place
next_place_lem l first x h = early tt
next_place_lem l (comments k) x h = go (is_comment x) k
  where
    go : (z : Bool) (k : Sort) → Next l (cond z (comments k) (after_top k x))
    go true k = early tt
    go false bottle = early tt
    go false ctd = next-header l (headers_said x - 1) (header_of x ∷ [])
next_place_lem l (headers due hs) x h = next-header l (due - 1) (hs ++ header_of x ∷ [])
next_place_lem l (names k hs) x h = early tt
next_place_lem l (units k hs ns) x h = table (record { sort = k; headers = hs; names = ns; line = l }) refl
next_place_lem l (rows t n) x h = absurd h
next_place_lem l (after t n) x h = absurd h
next_place_lem l (stopped a b c) x h = early tt

pub next-step : (l : ℕ) (p : Place) (x : List ℕ) → Early p → Next l (step l p x)
next-step l p x h = next-stop l l (first_of (rules_at p x)) (next_place l p x) (next_place_lem l p x h)

pub early-ends : (l : ℕ) (p : Place) (t : Table) (n : ℕ) → Early p → last l p [] ≡ accepted t n → ⊥
unfolding end_rules last_piece_rules first_of
early-ends l first t n h e = accepted_not-refused e
early-ends l (comments k) t n h e = accepted_not-refused e
early-ends l (headers due hs) t n h e = accepted_not-refused e
early-ends l (names k hs) t n h e = accepted_not-refused e
early-ends l (units k hs ns) t n h e = accepted_not-refused e
early-ends l (rows u m) t n h e = h
early-ends l (after u m) t n h e = h
early-ends l (stopped a b c) t n h e = accepted_not-refused e

-- the data lines come after the lines that the table counts
pub record Reached (l : ℕ) (ps : List (List ℕ)) (t : Table) (n : ℕ) : Type 0 where
  pub line : l ≤ t.line
  pub run_on : run (t.line + 1) (rows t 0) (drop (t.line + 1 - l) ps) ≡ accepted t n

pub rows_reached : (ps : List (List ℕ)) (l : ℕ) (p : Place) (t : Table) (n : ℕ) → Early p → run l p ps ≡ accepted t n → Reached l ps t n
unfolding run
rows_reached [] l p t n h e = absurd (early-ends l p t n h e)
rows_reached ([] ∷ []) l p t n h e = absurd (early-ends l p t n h e)
rows_reached ((x ∷ xs) ∷ []) l p t n h e = absurd (cut-refused l p x xs t n e)
rows_reached (x ∷ (y ∷ ys)) l p t n h e = by (step l p x) (next-step l p x h) e (rows_reached (y ∷ ys) (l + 1))
  where
    by : (q : Place) → Next l q → run (l + 1) q (y ∷ ys) ≡ accepted t n
        → ((p : Place) (t : Table) (n : ℕ) → Early p → run (l + 1) p (y ∷ ys) ≡ accepted t n → Reached (l + 1) (y ∷ ys) t n) → Reached l (x ∷ (y ∷ ys)) t n
    by q (early g) e ih =
        let r = ih q t n g e in
        let k : t.line + 1 - l ≡ suc (t.line + 1 - (l + 1)) = omega (arith, r.line) in
        record { line = omega (arith, r.line); run_on = ap (λ (m : ℕ). run (t.line + 1) (rows t 0) (drop m (x ∷ (y ∷ ys)))) k ∙ r.run_on }
    by q (table u d) e ih =
        let w = rows-accepted (y ∷ ys) (l + 1) u 0 t n e in
        let d' : t.line ≡ l = subst (λ (z : Table). z.line ≡ l) w.table d in
        let k : t.line + 1 - l ≡ 1 = omega (arith, d') in
        let j : t.line + 1 ≡ l + 1 = omega (arith, d') in
        record {
          line = omega (arith, d');
          run_on = ap (λ (m : ℕ). run (t.line + 1) (rows t 0) (drop m (x ∷ (y ∷ ys)))) k ∙ ap (λ (m : ℕ). run m (rows t 0) (y ∷ ys)) j
              ∙ subst (λ (z : Table). run (l + 1) (rows z 0) (y ∷ ys) ≡ accepted t n) w.table e;
        }

module _ (f : List ℕ) (t : Table) (n : ℕ) (e : outcome_of f ≡ accepted t n) where
  data-kept : RowsKept t 0 (drop t.line (pieces 10 f)) t n
  unfolding outcome_of
  data-kept =
      let w = rows_reached (pieces 10 f) 1 first t n tt e in
      let k : t.line + 1 - 1 ≡ t.line = omega arith in
      rows-accepted (drop t.line (pieces 10 f)) (t.line + 1) t 0 t n (subst (λ (m : ℕ). run (t.line + 1) (rows t 0) (drop m (pieces 10 f)) ≡ accepted t n) k w.run_on)

  -- in an accepted file every data line is there and keeps its rules
  pub rows-kept : (r : ℕ) → r < n → RowKept t (drop t.line (pieces 10 f)) r
  rows-kept r h = data-kept.kept r (omega arith)

  -- and there is at least one
  pub rows-some : 1 ≤ n
  rows-some = data-kept.some
