-- Where a walk stands in an opened file: on a cell of a row, and how it goes on from there.
use Prim.Native.Nat.{ℕ, ◌+◌, ◌-◌, ◌≤◌, ◌<◌}
use mathlib.Core.Path.{◌≡◌, refl, sym, ap, subst, ◌∙◌}
use mathlib.Core.List.{List}
use mathlib.Core.Bool.{Bool, true, false, cond, ◌&&◌}
use native.Mathlib.Omega.{arith}
use lib.ListN.{length, get_or}
use lib.Dec.{eqb, leb}
use borrow.Author.Tests.{eqb-true, eqb-false, le-leb}
use Rattle.line_bytes.specs.declared.Span.{Span}
use Rattle.line_bytes.specs.Cells.{line_at, pieces, cell_end}
use Rattle.line_bytes.specs.Spaces.{trim_span}
use Rattle.line_bytes.specs.Inner.Scans.{Stop}
use Rattle.line_bytes.proofs.CellLaws.{stop_moved, stop-short, cell_end_from, cell_end-within, cell_end-parts, pieces-last, pieces_more}
use Rattle.format.specs.declared.CellPlace.{CellPlace}
use Rattle.format.specs.declared.Opened.{Opened}
use Rattle.format.specs.Answers.{Asked, found, missed, asked_of, trimmed_place, cell_of, place_by, place_for}
use Rattle.format.specs.ByPlace.{row_start_by, row_start, cells_in, has_cell, cell_in}
use Rattle.format.specs.Grid.{span_in}
use Rattle.format.specs.Records.{no_place}
use Rattle.format.specs.Inner.Grid.{cell_span}
use Rattle.format.specs.Inner.Lines.{Ends}
use Rattle.format.proofs.ByPlaceLaws.{has_there, after-fed}
use Rattle.format.proofs.EndsLaws.{ends-stop, ends-before, ends_moved}
use Rattle.format.proofs.GridLaws.{RowAt}
use Rattle.format.proofs.GridWalkLaws.{span-first, span_more}
use Rattle.format.proofs.OpenedLaws.{OpenedTable, row-found}
use Rattle.format.proofs.RowPlaceLaws.{row_next, cell-there, cell_same}

-- the single call's place is that of its answer
place_is : (f : List ℕ) (r c : ℕ) → (place_for f r c).place ≡ cell_of f r c
unfolding place_for
place_is f r c = go (asked_of f r c)
  where
    go : (a : Asked) → (place_by (cell_of f r c) a).place ≡ cell_of f r c
    go (found t) = refl
    go (missed x y z) = refl

module _ {f : List ℕ} {o : Opened} (w : OpenedTable f o) where
  abbrev pub many : ℕ
  many = length w.table.names

  abbrev feed_of : ℕ → ℕ
  feed_of r = row_start f r + length (line_at f (row_start f r))

  row_at : (r : ℕ) → 1 ≤ r → r ≤ o.checked.rows → RowAt f w.table (r - 1) (row_start f r)
  unfolding row_start
  row_at r low high =
      let x = row-found w (r - 1) (omega (arith, low, high)) in
      subst (RowAt f w.table (r - 1)) (x.place ∙ sym (ap (row_start_by f r) w.is)) x

  -- cell c of row r starts at i
  pub record At (r c i : ℕ) : Type 0 where
    pub low : 1 ≤ r
    pub high : r ≤ o.checked.rows
    pub column : 1 ≤ c
    pub ends : Ends f i (feed_of r)
    pub count : c + length (pieces 44 (line_at f i)) ≡ many + 1
    pub spans : (j : ℕ) → cell_span f (row_start f r) (c - 1 + j) ≡ cell_span f i j

  pub at_first : (r : ℕ) → 1 ≤ r → r ≤ o.checked.rows → At r 1 (row_start f r)
  at_first r low high = record {
    low = low;
    high = high;
    column = omega arith;
    ends = record { room = (row_at r low high).feed.room; far = refl };
    count = omega (arith, (row_at r low high).many);
    spans = λ j. let k : 1 - 1 + j ≡ j = omega arith in ap (cell_span f (row_start f r)) k;
  }

  module _ (r c i : ℕ) (a : At r c i) where
    abbrev e : ℕ
    e = cell_end 44 f i

    stop : Stop 44 f i (feed_of r)
    stop = ends-stop a.ends

    pub at-within : c ≤ many
    at-within = omega (arith, a.count)

    pub at-inside : e < length f
    at-inside = omega (arith, cell_end-within stop, a.ends.room)

    -- its place is that of the single call
    pub at-cell : trim_span f i e ≡ cell_of f r c
    unfolding cell_in
    at-cell =
        let has : has_cell f (row_start f r) c ≡ true = cell-there w r a.low a.high c ∙ both in
        let k : c - 1 + 0 ≡ c - 1 = omega arith in
        let s : cell_span f (row_start f r) (c - 1) ≡ record { start = i; len = e - i } = ap (cell_span f (row_start f r)) (sym k) ∙ a.spans 0 ∙ span-first stop e refl in
        let l : e ≡ i + (e - i) = omega (arith, cell_end_from 44 f i) in
        ap (trim_span f i) l
        ∙ ap (trimmed_place f) (sym s)
        ∙ ap at_cells (sym (has_there f (row_start f r) c has).cells)
        ∙ sym (ap (λ (b : Bool). (cond {A = CellPlace} b (record { number = 0; line = 0; column = 0; place = at_cells (cells_in f (row_start f r)) }) (no_place 21 0 0)).place) has)
        ∙ ap (λ (x : CellPlace). x.place) (cell_same w r a.low a.high c)
        ∙ place_is f r c
      where
        at_cells : List (List ℕ) → Span
        at_cells ts = trimmed_place f (span_in (row_start f r) ts (c - 1))

        both : (leb 1 c && leb c many) ≡ true
        both = rw (le-leb 1 c a.column, le-leb c many at-within)

    -- the cell on its right
    pub at_next : c < many → At r (c + 1) (e + 1)
    at_next h = record {
      low = a.low;
      high = a.high;
      column = omega arith;
      ends = ends_moved a.ends (omega (arith, cell_end_from 44 f i)) (omega (arith, short));
      count = omega (arith, a.count, ap length (pieces_more stop (λ z. absurd (omega (arith, z))) (cell_end-parts stop parted)));
      spans = λ j. let k : c + 1 - 1 + j ≡ c - 1 + (j + 1) = omega (arith, a.column) in ap (cell_span f (row_start f r)) k ∙ a.spans (j + 1) ∙ span_more stop j parted;
    }
      where
        parted : get_or f e 0 ≡ 10 → ⊥
        parted g = absurd (omega (arith, h, a.count, ap length (pieces-last stop g)))

        short : e < feed_of r
        short = stop-short (stop_moved stop (cell_end-within stop)) parted

    -- after the last cell the next line starts
    pub at-end : c ≡ many → e + 1 ≡ row_start f (r + 1)
    at-end h =
        let n : feed_of r + 1 ≡ row_start f (r + 1) = after-fed f (row_start f r) (feed_of r) refl (row_at r a.low a.high).feed.room ∙ row_next w r a.low a.high in
        omega (arith, n, is)
      where
        fed : get_or f e 0 ≡ 10
        fed = go (eqb (get_or f e 0) 10) refl
          where
            go : (b : Bool) → eqb (get_or f e 0) 10 ≡ b → get_or f e 0 ≡ 10
            go true q = eqb-true (get_or f e 0) 10 q
            go false q = absurd (omega (arith, h, a.count, ap length (pieces_more stop (λ z. absurd (omega (arith, z))) (cell_end-parts stop (eqb-false (get_or f e 0) 10 q)))))

        is : e ≡ feed_of r
        is =
            let x = ends-before (ends_moved a.ends (cell_end_from 44 f i) (cell_end-within stop)) in
            let y : e < feed_of r → ⊥ = λ l. x l fed in
            omega (arith, cell_end-within stop, y)
