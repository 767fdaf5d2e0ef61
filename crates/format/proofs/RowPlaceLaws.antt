-- The rows of an opened file by their places: what is asked of the line there is what is asked of the row.
use Prim.Native.Nat.{ℕ, ◌+◌, ◌-◌, ◌≤◌}
use mathlib.Core.Path.{◌≡◌, refl, sym, ap, subst, ◌∙◌}
use mathlib.Core.List.{List, []}
use mathlib.Core.Bool.{Bool, true, false, cond, ◌&&◌}
use native.Mathlib.Nat.{add-zero}
use native.Mathlib.Omega.{arith}
use lib.ListN.{length, get_or, drop, length-drop}
use lib.Dec.{leb}
use borrow.Author.Tests.{lt-ltb, le-leb, leb-true}
use Rattle.line_bytes.specs.declared.Span.{Span}
use Rattle.line_bytes.specs.Cells.{pieces, line_at}
use Rattle.line_bytes.proofs.CellLaws.{both_true}
use Rattle.verdicts.specs.Kinds.{kind_of}
use Rattle.verdicts.specs.Judge.{judge, judged_of}
use Rattle.text.specs.declared.Reading.{Reading}
use Rattle.text.specs.declared.Reading.TheVariants.{Refused}
use Rattle.text.specs.Reading.{reading_of}
use Rattle.format.specs.declared.Opened.{Opened}
use Rattle.format.specs.Grid.{span_in}
use Rattle.format.specs.NamesLine.{kind_in_line}
use Rattle.format.specs.Places.{Outcome, accepted, refused, outcome_of}
use Rattle.format.specs.Answers.{checked_by, checked_of, found, missed, asked_by, asked_of, kind_at, row_cells, cell_text, cell_place, trimmed_place, cell_by, cell_of, place_by, place_for, reading_by, reading_for}
use Rattle.format.specs.Records.{no_place}
use Rattle.format.specs.Opened.{line_begin, opened_by, opened_of}
use Rattle.format.specs.ByPlace.{row_start_by, row_start, line_after, cells_in, has_cell, text_of, cell_in, decimal_in}
use Rattle.format.proofs.AcceptLaws.{RowKept, rows-kept}
use Rattle.format.proofs.GridLaws.{RowAt}
use Rattle.format.proofs.NamesLineLaws.{kind-asked}
use Rattle.format.proofs.OpenedLaws.{LineThere, line-there, OpenedTable, opened-table, row-found}

-- the first row starts where the data lines do
pub first-row : (s : List ℕ) → (opened_of s).first ≡ row_start s 1
unfolding opened_of row_start
first-row s = go (outcome_of s)
  where
    go : (x : Outcome) → (opened_by s x).first ≡ row_start_by s 1 x
    go (accepted t n) = ap (line_begin s) (sym (add-zero t.line))
    go (refused a b c) = refl

-- a file that has a row is not refused
pub row_opened : (s : List ℕ) (r : ℕ) → 1 ≤ r → r ≤ (checked_of s).rows → OpenedTable s (opened_of s)
unfolding checked_of opened_of
row_opened s r a b = opened-table s (opened_of s) refl (go (outcome_of s) b)
  where
    go : (x : Outcome) → r ≤ (checked_by s x).rows → (opened_by s x).checked.number ≡ 0
    go (accepted t n) h = refl
    go (refused x y z) h = absurd (omega (arith, a))

module _ {s : List ℕ} {o : Opened} (w : OpenedTable s o) where
  row-place : (r : ℕ) → row_start s r ≡ line_begin s (w.table.line + (r - 1))
  unfolding row_start
  row-place r = ap (row_start_by s r) w.is

  -- the names line has the kinds of the columns
  pub kind-here : (c : ℕ) → (leb 1 c && leb c (length w.table.names)) ≡ true → kind_in_line (line_at s o.names) c ≡ kind_at w.table c
  kind-here c h =
      let b = both_true (leb 1 c) (leb c (length w.table.names)) h in
      kind-asked w.table (line_at s o.names) w.named.names_are c (leb-true 1 c b.0) (leb-true c (length w.table.names) b.1)

  module _ (r : ℕ) (low : 1 ≤ r) (high : r ≤ o.checked.rows) where
    i : ℕ
    i = row_start s r

    row : RowAt s w.table (r - 1) i
    unfolding i
    row = let x = row-found w (r - 1) (omega (arith, low, high)) in subst (RowAt s w.table (r - 1)) (x.place ∙ sym (row-place r)) x

    line : LineThere s (w.table.line + (r - 1)) i
    unfolding i
    line =
        let k : RowKept w.table (drop w.table.line (pieces 10 s)) (r - 1) = rows-kept s w.table o.checked.rows w.is (r - 1) (omega (arith, low, high)) in
        rw (row-place r) (line-there s (w.table.line + (r - 1)) (omega (arith, k.line, length-drop w.table.line (pieces 10 s))))

    pub row_next : line_after s (row_start s r) ≡ row_start s (r + 1)
    unfolding i line_after
    row_next =
        let a : line_after s i ≡ i + length (line_at s i) + 1 = omega (arith, row.feed.room) in
        let k : w.table.line + (r - 1) + 1 ≡ w.table.line + (r + 1 - 1) = omega (arith, low) in
        a ∙ line.next ∙ ap (line_begin s) k ∙ sym (row-place (r + 1))

    -- ---- a column of it
    pub row-cells : cells_in s (row_start s r) ≡ row_cells w.table s r
    unfolding i
    row-cells = rw (lt-ltb (i + length (line_at s i)) (length s) row.feed.room) row.cells

    module _ (c : ℕ) where
      abbrev there : Bool
      there = leb 1 c && leb c (length w.table.names)

      pub cell-there : has_cell s (row_start s r) c ≡ (leb 1 c && leb c (length w.table.names))
      unfolding has_cell i
      cell-there = ap (λ (m : ℕ). leb 1 c && leb c m) (ap length (row-cells ∙ sym row.cells) ∙ row.many)

      pub cell-text : text_of s (row_start s r) c ≡ cell_text w.table s r c
      cell-text = ap (λ (ts : List (List ℕ)). get_or ts (c - 1) []) row-cells

      pub cell-asked : asked_of s r c ≡ cond (leb 1 c && leb c (length w.table.names)) (found w.table) (missed 21 0 0)
      unfolding asked_of
      cell-asked = ap (asked_by r c) w.is ∙ rw (le-leb 1 r low, le-leb r o.checked.rows high)

      pub cell_same : cell_in s (row_start s r) c ≡ place_for s r c
      unfolding cell_in place_for cell_of
      cell_same = rw (cell-there, cell-asked) (go there)
        where
          span : span_in (row_start s r) (cells_in s (row_start s r)) (c - 1) ≡ cell_place w.table s r c
          span = ap (λ (ts : List (List ℕ)). span_in (row_start s r) ts (c - 1)) row-cells ∙ ap (λ (j : ℕ). span_in j (row_cells w.table s r) (c - 1)) (row-place r)

          go : (b : Bool) → cond b (record { number = 0; line = 0; column = 0; place = trimmed_place s (span_in (row_start s r) (cells_in s (row_start s r)) (c - 1)) }) (no_place 21 0 0)
              ≡ place_by (cell_by s r c (cond b (found w.table) (missed 21 0 0))) (cond b (found w.table) (missed 21 0 0))
          go true = ap (λ (p : Span). record { number = 0; line = 0; column = 0; place = trimmed_place s p }) span
          go false = refl

      pub decimal-same : decimal_in s (row_start s r) c (kind_in_line (line_at s o.names) c) ≡ reading_for s r c
      unfolding decimal_in reading_for
      decimal-same = rw (cell-there, cell-asked) (go there (kind-here c))
        where
          read : ℕ → List ℕ → Reading
          read k t = reading_of k (judged_of 0 (judge (kind_of k) t))

          go : (b : Bool) → (b ≡ true → kind_in_line (line_at s o.names) c ≡ kind_at w.table c)
              → cond b (read (kind_in_line (line_at s o.names) c) (text_of s (row_start s r) c)) (Refused 21 0 0) ≡ reading_by s r c (cond b (found w.table) (missed 21 0 0))
          go true f = ap (λ (k : ℕ). read k (text_of s (row_start s r) c)) (f refl) ∙ ap (read (kind_at w.table c)) cell-text
          go false f = refl
