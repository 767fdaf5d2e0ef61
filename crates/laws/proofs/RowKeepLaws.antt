-- In an accepted file any line that keeps the rules of a row may stand in the place of a data line. No header rule is looked at.
--   row_replaced : outcome_of f ≡ accepted t n → r < n → Free 10 x → line_fault true x ≡ clean → is_end_data x ≡ false → row_fault (kinds_of t.names) (pieces 44 x) ≡ clean
--       → outcome_of (join 10 (set (pieces 10 f) (t.line + r) x)) ≡ accepted t n
--   lines_replaced : Free 10 x → pieces 10 (join 10 (set (pieces 10 f) k x)) ≡ set (pieces 10 f) k x
use Prim.Native.Nat.{ℕ, zero, suc, ◌+◌, ◌-◌, ◌<◌}
use mathlib.Core.Path.{◌≡◌, refl, sym, ap, subst, ◌∙◌}
use mathlib.Core.List.{List, [], ◌∷◌}
use mathlib.Core.Bool.{Bool, true, false}
use native.Mathlib.Omega.{arith}
use lib.ListN.{set}
use lib.Dec.{ltb}
use Rattle.line_bytes.specs.Cells.{first_piece, later_pieces, pieces}
use Rattle.format.specs.Faults.{clean, first_of, unless}
use Rattle.format.specs.Columns.{kinds_of}
use Rattle.format.specs.Rows.{is_end_data}
use Rattle.laws.specs.Inner.Writes.{join}
use Rattle.format.specs.Places.{Table, Place, first, rows, last_piece_rules, end_rules, step, accepted, run, outcome_of}
use Rattle.format.specs.Inner.Faults.{line_fault, row_fault, bound_fault}
use Rattle.format.proofs.RuleLaws.{row_step}
use Rattle.format.proofs.AcceptLaws.{accepted_not-refused, cut-refused, after-accepted, end_passed, row_passed, rows-accepted, Early, Next, early, table, next-step, early-ends, rows_reached}
use Rattle.laws.proofs.JoinLaws.{Free, first-free, later-free, pieces-join}
use Rattle.laws.proofs.UngridLaws.{all_set}

pub lines_replaced : (f x : List ℕ) (k : ℕ) → Free 10 x → pieces 10 (join 10 (set (pieces 10 f) k x)) ≡ set (pieces 10 f) k x
lines_replaced f x zero h = pieces-join 10 x (later_pieces 10 f) h (later-free 10 f)
lines_replaced f x (suc k) h = pieces-join 10 (first_piece 10 f) (set (later_pieces 10 f) k x) (first-free 10 f) (all_set (Free 10) (later_pieces 10 f) k x (later-free 10 f) h)

-- a line in front of others, one of which is replaced
run-set : (l : ℕ) (p : Place) (y z : List ℕ) (zs : List (List ℕ)) (k : ℕ) (x : List ℕ) → run l p (y ∷ set (z ∷ zs) k x) ≡ run (l + 1) (step l p y) (set (z ∷ zs) k x)
unfolding run
run-set l p y z zs zero x = refl
run-set l p y z zs (suc k) x = refl

module _ (t : Table) (x : List ℕ) (bytes : line_fault true x ≡ clean) (more : is_end_data x ≡ false) (cells : row_fault (kinds_of t.names) (pieces 44 x) ≡ clean)
    (bound : bound_fault t.names (pieces 44 x) ≡ clean) where
  row-set : (l m : ℕ) → unless (ltb m 1000000) 20 1 ≡ clean → step l (rows t m) x ≡ rows t (m + 1)
  row-set l m e = row_step l t m x more ∙ rw (bytes, e, cells, bound)

  -- in the place of data line r of those that follow
  later-row : (ps : List (List ℕ)) (l m : ℕ) (u : Table) (n r : ℕ) → run l (rows t m) ps ≡ accepted u n → r < n - m → run l (rows t m) (set ps r x) ≡ accepted u n
  unfolding run end_rules last_piece_rules first_of
  later-row [] l m u n r e h = absurd (accepted_not-refused e)
  later-row ([] ∷ []) l m u n r e h = absurd (accepted_not-refused e)
  later-row ((y ∷ ys) ∷ []) l m u n r e h = absurd (cut-refused l (rows t m) y ys u n e)
  later-row (y ∷ (z ∷ zs)) l m u n r e h = by (is_end_data y) refl (later-row (z ∷ zs) (l + 1) (m + 1) u n)
    where
      goes_on_lem : (r : ℕ) → r < n - m → is_end_data y ≡ false
          → ((r : ℕ) → run (l + 1) (rows t (m + 1)) (z ∷ zs) ≡ accepted u n → r < n - (m + 1) → run (l + 1) (rows t (m + 1)) (set (z ∷ zs) r x) ≡ accepted u n)
          → run l (rows t m) (set (y ∷ (z ∷ zs)) r x) ≡ accepted u n
      goes_on_lem zero h q ih =
          let w = row_passed l t m y (z ∷ zs) u n e q in
          ap (λ (p : Place). run (l + 1) p (z ∷ zs)) (row-set l m w.1) ∙ w.4
      goes_on_lem (suc r) h q ih =
          let w = row_passed l t m y (z ∷ zs) u n e q in
          let s : step l (rows t m) y ≡ rows t (m + 1) = row_step l t m y q ∙ rw (w.0, w.1, w.2, w.3) in
          run-set l (rows t m) y z zs r x ∙ ap (λ (p : Place). run (l + 1) p (set (z ∷ zs) r x)) s ∙ ih r w.4 (omega (arith, h))

      by : (b : Bool) → is_end_data y ≡ b
          → ((r : ℕ) → run (l + 1) (rows t (m + 1)) (z ∷ zs) ≡ accepted u n → r < n - (m + 1) → run (l + 1) (rows t (m + 1)) (set (z ∷ zs) r x) ≡ accepted u n)
          → run l (rows t m) (set (y ∷ (z ∷ zs)) r x) ≡ accepted u n
      by true q ih = absurd (omega (arith, h, (after-accepted (z ∷ zs) (l + 1) t m u n (end_passed l t m y (z ∷ zs) u n e q).1).1))
      by false q ih = goes_on_lem r h q ih

-- the same from a line before the data
early-row : (ps : List (List ℕ)) (l : ℕ) (p : Place) (t : Table) (n r : ℕ) (x : List ℕ) → line_fault true x ≡ clean → is_end_data x ≡ false → row_fault (kinds_of t.names) (pieces 44 x) ≡ clean → bound_fault t.names (pieces 44 x) ≡ clean
    → Early p → run l p ps ≡ accepted t n → r < n → run l p (set ps (t.line + 1 - l + r) x) ≡ accepted t n
unfolding run
early-row [] l p t n r x a b c d0 h e k = absurd (early-ends l p t n h e)
early-row ([] ∷ []) l p t n r x a b c d0 h e k = absurd (early-ends l p t n h e)
early-row ((y ∷ ys) ∷ []) l p t n r x a b c d0 h e k = absurd (cut-refused l p y ys t n e)
early-row (y ∷ (z ∷ zs)) l p t n r x a b c d0 h e k = by (step l p y) refl (next-step l p y h) e (λ q g d. early-row (z ∷ zs) (l + 1) q t n r x a b c d0 g d k)
  where
    at : (q : Place) (i j : ℕ) → step l p y ≡ q → j ≡ suc i → run (l + 1) q (set (z ∷ zs) i x) ≡ accepted t n → run l p (set (y ∷ (z ∷ zs)) j x) ≡ accepted t n
    at q i j s g d =
        ap (λ (k : ℕ). run l p (set (y ∷ (z ∷ zs)) k x)) g ∙ run-set l p y z zs i x ∙ ap (λ (p : Place). run (l + 1) p (set (z ∷ zs) i x)) s ∙ d

    by : (q : Place) → step l p y ≡ q → Next l q → run (l + 1) q (z ∷ zs) ≡ accepted t n
        → ((q : Place) → Early q → run (l + 1) q (z ∷ zs) ≡ accepted t n → run (l + 1) q (set (z ∷ zs) (t.line + 1 - (l + 1) + r) x) ≡ accepted t n)
        → run l p (set (y ∷ (z ∷ zs)) (t.line + 1 - l + r) x) ≡ accepted t n
    by q s (early g) e ih =
        let w = rows_reached (z ∷ zs) (l + 1) q t n g e in
        at q (t.line + 1 - (l + 1) + r) (t.line + 1 - l + r) s (omega (arith, w.line)) (ih q g e)
    by q s (table u d) e ih =
        let w = rows-accepted (z ∷ zs) (l + 1) u 0 t n e in
        let d' : t.line ≡ l = subst (λ (v : Table). v.line ≡ l) w.table d in
        let c' : row_fault (kinds_of u.names) (pieces 44 x) ≡ clean = subst (λ (v : Table). row_fault (kinds_of v.names) (pieces 44 x) ≡ clean) (sym w.table) c in
        let b' : bound_fault u.names (pieces 44 x) ≡ clean = subst (λ (v : Table). bound_fault v.names (pieces 44 x) ≡ clean) (sym w.table) d0 in
        at (rows u 0) r (t.line + 1 - l + r) s (omega (arith, d')) (later-row u x a b c' b' (z ∷ zs) (l + 1) 0 t n r e (omega (arith, k)))

pub row_replaced : (f : List ℕ) (t : Table) (n r : ℕ) (x : List ℕ) → outcome_of f ≡ accepted t n → r < n → Free 10 x → line_fault true x ≡ clean → is_end_data x ≡ false
    → row_fault (kinds_of t.names) (pieces 44 x) ≡ clean → bound_fault t.names (pieces 44 x) ≡ clean → outcome_of (join 10 (set (pieces 10 f) (t.line + r) x)) ≡ accepted t n
unfolding outcome_of
row_replaced f t n r x e k h a b c d =
    let i : t.line + r ≡ t.line + 1 - 1 + r = omega arith in
    ap (run 1 first) (lines_replaced f x (t.line + r) h ∙ ap (λ (j : ℕ). set (pieces 10 f) j x) i)
    ∙ early-row (pieces 10 f) 1 first t n r x a b c d tt e k
