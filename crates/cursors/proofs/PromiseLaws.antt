-- The stated claims.
use Prim.Native.Nat.{ℕ, zero, suc, ◌+◌, ◌-◌, ◌*◌, ◌≤◌, ◌<◌}
use mathlib.Core.Path.{◌≡◌, refl, sym, ap, subst, ◌∙◌}
use mathlib.Core.List.{List, [], ◌∷◌, ◌++◌}
use mathlib.Core.Bool.{Bool, true, false, cond, ◌||◌}
use native.Mathlib.Nat.{zero-mul, suc-mul}
use native.Mathlib.Omega.{arith}
use lib.ListN.{length, take, length-append}
use lib.Seq.{take_all, take-nil}
use lib.Dec.{eqb, leb, ltb}
use borrow.Author.Tests.{eqb-true, eqb-false, eq-eqb, ne_eqb, lt-leb, leb-false, ltb-true, ltb-false}
use denote.Ref.{Bor}
use Rattle.line_bytes.specs.Cells.{cell_end}
use Rattle.line_bytes.proofs.CellLaws.{cell_end_from}
use Rattle.line_bytes.proofs.SpaceLaws.{span_fits}
use Rattle.format.specs.declared.Checked.{Checked}
use Rattle.format.specs.Answers.{checked_by, checked_of, cell_of}
use Rattle.format.specs.Places.{Outcome, accepted, refused, outcome_of}
use Rattle.format.specs.ByPlace.{row_start}
use Rattle.format.specs.Opened.{opened_of}
use Rattle.format.proofs.AcceptLaws.{rows-some}
use Rattle.format.proofs.OpenedLaws.{OpenedTable, opened_checked, opened-table}
use Rattle.format.proofs.RowPlaceLaws.{first-row}
use Rattle.next_cell.specs.declared.CellAfter.{CellAfter}
use Rattle.next_cell.specs.After.{cell_after}
use Rattle.cursors.specs.declared.Cursor.{Cursor}
use Rattle.cursors.specs.Walk.{ended, at_end, on_cell, open_of, goes_on, step_of, part_of}
use Rattle.cursors.specs.Promises.{Cell, row_from, rows_from, all_cells, handed_out, stepped, WalksAll, EndsEver, Carries, CarriesPart, handed_by, walked_by, WalkerWalks}
use Rattle.cursors.proofs.StepLaws.{open-refused, open-accepted, step-over, step_right, step_down, step-last, part-fits, part-inside}
use Rattle.cursors.proofs.PlaceLaws.{many, At, at_first, at-within, at-inside, at-cell, at_next, at-end}

-- ---- a refused file has no rows
refused-rows : (f : List ℕ) → ((checked_of f).number ≡ 0 → ⊥) → (checked_of f).rows ≡ 0
unfolding checked_of
refused-rows f z = go (outcome_of f) z
  where
    go : (x : Outcome) → ((checked_by f x).number ≡ 0 → ⊥) → (checked_by f x).rows ≡ 0
    go (accepted t n) h = absurd (h refl)
    go (refused a b c) h = refl

-- ---- at the end
over-row : (f : List ℕ) (x : Cursor) → x.row ≡ 0 → step_of f x ≡ at_end x
over-row f x z = step-over f x (rw (eq-eqb x.row 0 z))

end_stays : (f : List ℕ) (k : ℕ) (x : Cursor) → stepped f k (at_end x) ≡ at_end x
unfolding stepped
end_stays f zero x = refl
end_stays f (suc k) x = ap (stepped f k) (over-row f (at_end x) refl) ∙ end_stays f k x

stays_ever : (f : List ℕ) (k : ℕ) (x : Cursor) → x.row ≡ 0 → stepped f (suc k) x ≡ at_end x
unfolding stepped
stays_ever f k x z = ap (stepped f k) (over-row f x z) ∙ end_stays f k x

-- a step ends, or goes on behind where the cell stops
data Went (f : List ℕ) (x : Cursor) : Type 0 where
  over : step_of f x ≡ at_end x → Went f x
  on : (r c : ℕ) → x.stop < length f → step_of f x ≡ goes_on f x r c → Went f x

went : (f : List ℕ) (x : Cursor) → Went f x
went f x = go (eqb x.row 0) (leb (length f) x.stop) refl refl
  where
    go : (a b : Bool) → eqb x.row 0 ≡ a → leb (length f) x.stop ≡ b → Went f x
    go true b p q = over (step-over f x (rw p))
    go false true p q = over (step-over f x (rw (p, q)))
    go false false p q = right (ltb x.column x.columns) (ltb x.row x.rows) refl refl
      where
        h : (eqb x.row 0 || leb (length f) x.stop) ≡ false
        h = rw (p, q)

        l : x.stop < length f
        l = leb-false (length f) x.stop q

        right : (a b : Bool) → ltb x.column x.columns ≡ a → ltb x.row x.rows ≡ b → Went f x
        right true b u v = on x.row (x.column + 1) l (step_right f x h (ltb-true x.column x.columns u))
        right false true u v = on (x.row + 1) 1 l (step_down f x h (ltb-false x.column x.columns u) (ltb-true x.row x.rows v))
        right false false u v = over (step-last f x h (ltb-false x.column x.columns u) (ltb-false x.row x.rows v))

-- every step that goes on leaves fewer bytes of the file
comes_in : (f : List ℕ) (k : ℕ) (x : Cursor) → length f ≤ x.stop + k → (stepped f (suc k) x).row ≡ 0
unfolding stepped
comes_in f zero x h = go (went f x)
  where
    go : Went f x → (step_of f x).row ≡ 0
    go (over q) = ap (λ (y : Cursor). y.row) q
    go (on r c l q) = absurd (omega (arith, h, l))
comes_in f (suc k) x h = go (went f x) (comes_in f k)
  where
    go : Went f x → ((y : Cursor) → length f ≤ y.stop + k → (stepped f (suc k) y).row ≡ 0) → (stepped f (suc k) (step_of f x)).row ≡ 0
    go (over q) again = ap (λ (y : Cursor). (stepped f (suc k) y).row) q ∙ ap (λ (y : Cursor). y.row) (end_stays f (suc k) x)
    go (on r c l q) again =
        ap (λ (y : Cursor). (stepped f (suc k) y).row) q ∙ again (goes_on f x r c) (omega (arith, h, cell_end_from 44 f (x.stop + 1)))

comes_ever : (f : List ℕ) (k : ℕ) (x : Cursor) → length f + 1 ≤ k → (stepped f k x).row ≡ 0
comes_ever f zero x h = absurd (omega (arith, h))
comes_ever f (suc k) x h = comes_in f k x (omega (arith, h))

-- ---- a part that the cursor carries stays
module _ (part : Cursor → ℕ) (end-has : (x : Cursor) → part (at_end x) ≡ part x) (cell-has : (x : Cursor) (a : CellAfter) (r c : ℕ) → part (on_cell x a r c) ≡ part x) (f : List ℕ) where
  carried : (k : ℕ) (x : Cursor) → part (stepped f k x) ≡ part x
  unfolding stepped
  carried zero x = refl
  carried (suc k) x = carried k (step_of f x) ∙ go (went f x)
    where
      go : Went f x → part (step_of f x) ≡ part x
      go (over q) = ap part q ∙ end-has x
      go (on r c l q) = ap part q ∙ cell-has x (cell_after f (x.stop + 1)) r c

-- ---- opening
open_no : (f : List ℕ) → ((checked_of f).number ≡ 0 → ⊥) → open_of f ≡ ended (checked_of f)
open_no f z = sym (open-refused f (opened_of f) refl (λ e. z (sym (ap (λ (c : Checked). c.number) (opened_checked f)) ∙ e))) ∙ ap ended (opened_checked f)

open_yes : (f : List ℕ) → (checked_of f).number ≡ 0 → open_of f ≡ on_cell (ended (checked_of f)) (cell_after f (row_start f 1)) 1 1
open_yes f z =
    sym (open-accepted f (opened_of f) refl (ap (λ (c : Checked). c.number) (opened_checked f) ∙ z))
    ∙ ap (λ (c : Checked). on_cell (ended c) (cell_after f (opened_of f).first) 1 1) (opened_checked f)
    ∙ ap (λ (i : ℕ). on_cell (ended (checked_of f)) (cell_after f i) 1 1) (first-row f)

-- ---- the cells, by the rows and columns that are left
none_handed : (f : List ℕ) (k : ℕ) (c : Checked) → handed_out f k (ended c) ≡ []
unfolding handed_out
none_handed f zero c = refl
none_handed f (suc k) c = refl

-- from a cursor on these cells are handed out, and then the walk is at its end
record Goes (f : List ℕ) (k : ℕ) (x : Cursor) (cells : List Cell) : Type 0 where
  handed : handed_out f k x ≡ take k cells
  over : length cells ≤ k → stepped f k x ≡ ended (checked_of f)

goes_over : (f : List ℕ) (k : ℕ) → Goes f k (ended (checked_of f)) []
goes_over f k = record { handed = none_handed f k (checked_of f) ∙ sym (take-nil k); over = λ h. end_stays f k (ended (checked_of f)) }

goes_by : {f : List ℕ} {k : ℕ} {x y : Cursor} {cells : List Cell} → y ≡ x → Goes f k x cells → Goes f k y cells
goes_by {f} {k} {x} {y} {cells} e g = subst (λ (z : Cursor). Goes f k z cells) (sym e) g

module _ (f : List ℕ) (z : (checked_of f).number ≡ 0) where
  w : OpenedTable f (opened_of f)
  w = opened-table f (opened_of f) refl (ap (λ (c : Checked). c.number) (opened_checked f) ∙ z)

  abbrev n : ℕ
  n = (checked_of f).rows

  abbrev m : ℕ
  m = (checked_of f).columns

  rows_are : (opened_of f).checked.rows ≡ n
  rows_are = ap (λ (c : Checked). c.rows) (opened_checked f)

  columns_are : m ≡ many w
  columns_are = sym (ap (λ (c : Checked). c.columns) (opened_checked f)) ∙ w.columns

  abbrev on-cell : ℕ → ℕ → ℕ → Cursor
  on-cell r c i = on_cell (ended (checked_of f)) (cell_after f i) r c

  -- l cells are left in the row after this one, and q rows after this one
  goes_on_lem : (k r c i l q : ℕ) → At w r c i → c + l ≡ m → r + q ≡ n → Goes f k (on-cell r c i) (row_from f r c (suc l) ++ rows_from f (r + 1) q m)
  unfolding handed_out stepped row_from rows_from
  goes_on_lem zero r c i l q a hc hr = record { handed = refl; over = λ h. absurd (omega arith) }
  goes_on_lem (suc k) r c i l q a hc hr =
      let g = rest (goes_on_lem k) l q hc hr in
      record {
        handed =
            ap (λ (b : Bool). cond b [] (record { row = r; column = c; place = part_of f x } ∷ handed_out f k (step_of f x))) (ne_eqb r 0 started)
            ∙ (λ j. record { row = r; column = c; place = same j } ∷ g.handed j);
        over = λ h. g.over (omega (arith, h));
      }
    where
      x : Cursor
      x = on-cell r c i

      started : r ≡ 0 → ⊥
      started e = absurd (omega (arith, e, a.low))

      same : part_of f x ≡ cell_of f r c
      same = part-fits f x (span_fits f i (cell_end 44 f i) (cell_after f i).place refl) ∙ at-cell w r c i a

      inside : (eqb r 0 || leb (length f) (cell_end 44 f i)) ≡ false
      inside = rw (ne_eqb r 0 started, lt-leb (length f) (cell_end 44 f i) (at-inside w r c i a))

      rest : ((r c i l q : ℕ) → At w r c i → c + l ≡ m → r + q ≡ n → Goes f k (on-cell r c i) (row_from f r c (suc l) ++ rows_from f (r + 1) q m))
          → (l q : ℕ) → c + l ≡ m → r + q ≡ n → Goes f k (step_of f x) (row_from f r (c + 1) l ++ rows_from f (r + 1) q m)
      rest again (suc l) q hc hr =
          goes_by (step_right f x inside (omega (arith, hc)))
          (again r (c + 1) (cell_end 44 f i + 1) l q (at_next w r c i a (omega (arith, hc, columns_are))) (omega (arith, hc)) hr)
      rest again zero (suc q) hc hr =
          let s : suc (m - 1) ≡ m = omega (arith, hc, a.column) in
          goes_by (step_down f x inside (omega (arith, hc)) (omega (arith, hr)) ∙ ap (on-cell (r + 1) 1) (at-end w r c i a (omega (arith, hc, columns_are))))
          (subst (λ (p : ℕ). Goes f k (on-cell (r + 1) 1 (row_start f (r + 1))) (row_from f (r + 1) 1 p ++ rows_from f (r + 1 + 1) q m)) s
          (again (r + 1) 1 (row_start f (r + 1)) (m - 1) q (at_first w (r + 1) (omega arith) (omega (arith, hr, rows_are))) (omega (arith, s)) (omega (arith, hr))))
      rest again zero zero hc hr = goes_by (step-last f x inside (omega (arith, hc)) (omega (arith, hr))) (goes_over f k)

  goes-all : (k : ℕ) → Goes f k (open_of f) (all_cells f)
  unfolding all_cells rows_from
  goes-all k =
      let a : At w 1 1 (row_start f 1) = at_first w 1 (omega arith) (omega (arith, rows_are, some)) in
      let s : suc (m - 1) ≡ m = omega (arith, columns_are, at-within w 1 1 (row_start f 1) a) in
      let t : suc (n - 1) ≡ n = omega (arith, some) in
      goes_by (open_yes f z)
      (subst (λ (p : ℕ). Goes f k (on-cell 1 1 (row_start f 1)) (rows_from f 1 p m)) t
      (subst (λ (p : ℕ). Goes f k (on-cell 1 1 (row_start f 1)) (row_from f 1 1 p ++ rows_from f 2 (n - 1) m)) s
      (goes_on_lem k 1 1 (row_start f 1) (m - 1) (n - 1) a (omega (arith, s)) (omega (arith, t)))))
    where
      some : 1 ≤ n
      some = omega (arith, rows_are, rows-some f w.table (opened_of f).checked.rows w.is)

-- ---- every file
refused_none : (f : List ℕ) → ((checked_of f).number ≡ 0 → ⊥) → all_cells f ≡ []
unfolding all_cells rows_from
refused_none f z = ap (λ (k : ℕ). rows_from f 1 k (checked_of f).columns) (refused-rows f z)

goes : (f : List ℕ) (k : ℕ) → Goes f k (open_of f) (all_cells f)
goes f k = go (eqb (checked_of f).number 0) refl
  where
    go : (b : Bool) → eqb (checked_of f).number 0 ≡ b → Goes f k (open_of f) (all_cells f)
    go true q = goes-all f (eqb-true (checked_of f).number 0 q) k
    go false q =
        let z = eqb-false (checked_of f).number 0 q in
        goes_by (open_no f z) (subst (Goes f k (ended (checked_of f))) (sym (refused_none f z)) (goes_over f k))

all_handed : (f : List ℕ) (k : ℕ) → length (all_cells f) ≤ k → handed_out f k (open_of f) ≡ all_cells f
all_handed f k h = (goes f k).handed ∙ take_all k (all_cells f) h

-- ---- how many cells
row_count : (f : List ℕ) (r c m : ℕ) → length (row_from f r c m) ≡ m
unfolding row_from
row_count f r c zero = refl
row_count f r c (suc m) = ap suc (row_count f r (c + 1) m)

rows-count : (f : List ℕ) (r n m : ℕ) → length (rows_from f r n m) ≡ n * m
unfolding rows_from
rows-count f r zero m = sym (zero-mul m)
rows-count f r (suc n) m = rw (length-append, row_count f r 1 m, rows-count f (r + 1) n m) (omega (arith, suc-mul n m))

cells_count : (f : List ℕ) → length (all_cells f) ≡ (checked_of f).rows * (checked_of f).columns
unfolding all_cells
cells_count f = rows-count f 1 (checked_of f).rows (checked_of f).columns

-- ---- the claims
pub walks-all : WalksAll
walks-all = record { all = all_handed; first = λ f k. (goes f k).handed; count = cells_count }

pub ends_ever : EndsEver
ends_ever = record {
  over = λ f k. (goes f k).over;
  part = λ f c. part-fits f (ended c) (omega arith);
  stays = stays_ever;
  comes = comes_ever;
  inside = part-inside;
}

-- what the cursor of an opened file carries
open_carries : (part : Cursor → ℕ) → ((x : Cursor) (a : CellAfter) (r c : ℕ) → part (on_cell x a r c) ≡ part x) → (f : List ℕ) → part (open_of f) ≡ part (ended (checked_of f))
open_carries part cell-has f = go (eqb (checked_of f).number 0) refl
  where
    go : (b : Bool) → eqb (checked_of f).number 0 ≡ b → part (open_of f) ≡ part (ended (checked_of f))
    go true q = ap part (open_yes f (eqb-true (checked_of f).number 0 q)) ∙ cell-has (ended (checked_of f)) (cell_after f (row_start f 1)) 1 1
    go false q = ap part (open_no f (eqb-false (checked_of f).number 0 q))

pub carries : Carries
carries = record {
  refused = λ f z k. ap (stepped f k) (open_no f z) ∙ end_stays f k (ended (checked_of f));
  number = λ f k. carried (λ x. x.cell.number) (λ x. refl) (λ x a r c. refl) f k (open_of f) ∙ open_carries (λ x. x.cell.number) (λ x a r c. refl) f;
  line = λ f k. carried (λ x. x.cell.line) (λ x. refl) (λ x a r c. refl) f k (open_of f) ∙ open_carries (λ x. x.cell.line) (λ x a r c. refl) f;
  column = λ f k. carried (λ x. x.cell.column) (λ x. refl) (λ x a r c. refl) f k (open_of f) ∙ open_carries (λ x. x.cell.column) (λ x a r c. refl) f;
}

-- the place that a cursor carries lies in the file, and so it is the part's
abbrev Fits : List ℕ → Cursor → Type 0
Fits f x = x.cell.place.start + x.cell.place.len ≤ length f

cell-fits : (f : List ℕ) (x : Cursor) (i r c : ℕ) → Fits f (on_cell x (cell_after f i) r c)
cell-fits f x i r c = span_fits f i (cell_end 44 f i) (cell_after f i).place refl

open-fits : (f : List ℕ) → Fits f (open_of f)
open-fits f = go (eqb (checked_of f).number 0) refl
  where
    go : (b : Bool) → eqb (checked_of f).number 0 ≡ b → Fits f (open_of f)
    go true q = subst (Fits f) (sym (open_yes f (eqb-true (checked_of f).number 0 q))) (cell-fits f (ended (checked_of f)) (row_start f 1) 1 1)
    go false q = subst (Fits f) (sym (open_no f (eqb-false (checked_of f).number 0 q))) (omega arith)

step_fits : (f : List ℕ) (x : Cursor) → Fits f (step_of f x)
step_fits f x = go (went f x)
  where
    go : Went f x → Fits f (step_of f x)
    go (over q) = subst (Fits f) (sym q) (omega arith)
    go (on r c l q) = subst (Fits f) (sym q) (cell-fits f x (x.stop + 1) r c)

pub carries-part : CarriesPart
carries-part = record { opened = λ f. sym (part-fits f (open_of f) (open-fits f)); next = λ f x. sym (part-fits f (step_of f x) (step_fits f x)) }

-- ---- the walker's steps are the cursor's
by_cursor : (k : ℕ) (f : Bor (List ℕ)) (x : Cursor) → walked_by k (record { file = f; cursor = x }) ≡ record { file = f; cursor = stepped f.now k x }
unfolding walked_by stepped
by_cursor zero f x = refl
by_cursor (suc k) f x = by_cursor k f (step_of f.now x)

handed_by_cursor : (k : ℕ) (f : Bor (List ℕ)) (x : Cursor) → handed_by k (record { file = f; cursor = x }) ≡ handed_out f.now k x
unfolding handed_by handed_out
handed_by_cursor zero f x = refl
handed_by_cursor (suc k) f x =
    ap (λ (l : List Cell). cond (eqb x.row 0) [] (record { row = x.row; column = x.column; place = part_of f.now x } ∷ l)) (handed_by_cursor k f (step_of f.now x))

pub walker_walks : WalkerWalks
walker_walks = record {
  all = λ f k h. handed_by_cursor k f (open_of f.now) ∙ all_handed f.now k h;
  over = λ f k h. by_cursor k f (open_of f.now) ∙ ap (λ (x : Cursor). record { file = f; cursor = x }) ((goes f.now k).over h);
  holds = λ f k. by_cursor k f (open_of f.now);
}
