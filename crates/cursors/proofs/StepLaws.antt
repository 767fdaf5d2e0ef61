-- A walk opened and a step of it, case by case; the part handed out.
use Prim.Native.Nat.{ℕ, ◌+◌, ◌-◌, ◌≤◌, ◌<◌}
use mathlib.Core.Path.{◌≡◌, refl, sym, ap, ◌∙◌}
use mathlib.Core.List.{List}
use mathlib.Core.Bool.{Bool, true, false, cond, ◌&&◌, ◌||◌, true≢false}
use lib.ListN.{length}
use lib.Dec.{eqb, leb}
use borrow.Author.Tests.{leb-false, leb-true, eq-eqb, ne_eqb, lt-ltb, le-ltb, lt-leb, le-leb}
use native.Mathlib.Omega.{arith}
use Rattle.line_bytes.specs.declared.Span.{Span}
use Rattle.format.specs.declared.Opened.{Opened}
use Rattle.format.specs.Grid.{nowhere}
use Rattle.format.specs.Opened.{opened_of}
use Rattle.next_cell.specs.After.{cell_after}
use Rattle.cursors.specs.declared.Cursor.{Cursor}
use Rattle.cursors.specs.Walk.{ended, at_end, on_cell, open_by, open_of, goes_on, step_of, part_of}

-- ---- opening
module _ (f : List ℕ) (o : Opened) (e : o ≡ opened_of f) where
  pub open-refused : (o.checked.number ≡ 0 → ⊥) → ended o.checked ≡ open_of f
  unfolding open_of
  open-refused z =
      let a : open_by f o ≡ ended o.checked = rw (ne_eqb o.checked.number 0 z) in
      sym a ∙ ap (open_by f) e

  pub open-accepted : o.checked.number ≡ 0 → on_cell (ended o.checked) (cell_after f o.first) 1 1 ≡ open_of f
  unfolding open_of
  open-accepted z =
      let a : open_by f o ≡ on_cell (ended o.checked) (cell_after f o.first) 1 1 = rw (eq-eqb o.checked.number 0 z) in
      sym a ∙ ap (open_by f) e

-- ---- a step
module _ (f : List ℕ) (x : Cursor) where
  pub step-over : (eqb x.row 0 || leb (length f) x.stop) ≡ true → step_of f x ≡ at_end x
  unfolding step_of
  step-over h = rw h

  module _ (h : (eqb x.row 0 || leb (length f) x.stop) ≡ false) where
    pub step-inside : x.stop < length f
    step-inside = go (eqb x.row 0) (leb (length f) x.stop) refl h
      where
        go : (a b : Bool) → leb (length f) x.stop ≡ b → (a || b) ≡ false → x.stop < length f
        go true b q e = absurd (true≢false e)
        go false true q e = absurd (true≢false e)
        go false false q e = leb-false (length f) x.stop q

    pub step_right : x.column < x.columns → step_of f x ≡ goes_on f x x.row (x.column + 1)
    unfolding step_of
    step_right g = rw (h, lt-ltb x.column x.columns g)

    module _ (g : x.columns ≤ x.column) where
      pub step_down : x.row < x.rows → step_of f x ≡ goes_on f x (x.row + 1) 1
      unfolding step_of
      step_down k = rw (h, le-ltb x.column x.columns g, lt-ltb x.row x.rows k)

      pub step-last : x.rows ≤ x.row → step_of f x ≡ at_end x
      unfolding step_of
      step-last k = rw (h, le-ltb x.column x.columns g, le-ltb x.row x.rows k)

-- ---- the part
module _ (f : List ℕ) (x : Cursor) where
  pub part_past : length f < x.cell.place.start → part_of f x ≡ nowhere
  unfolding part_of
  part_past h = rw (lt-leb x.cell.place.start (length f) h)

  pub part-long : x.cell.place.start ≤ length f → length f - x.cell.place.start < x.cell.place.len → part_of f x ≡ nowhere
  unfolding part_of
  part-long h k = rw (le-leb x.cell.place.start (length f) h, lt-leb x.cell.place.len (length f - x.cell.place.start) k)

  pub part-fits : x.cell.place.start + x.cell.place.len ≤ length f → part_of f x ≡ x.cell.place
  unfolding part_of
  part-fits h = rw (le-leb x.cell.place.start (length f) (omega (arith, h)), le-leb x.cell.place.len (length f - x.cell.place.start) (omega (arith, h)))

  pub part-inside : (part_of f x).start + (part_of f x).len ≤ length f
  unfolding part_of
  part-inside = go (leb x.cell.place.start (length f)) (leb x.cell.place.len (length f - x.cell.place.start)) refl refl
    where
      go : (a b : Bool) → leb x.cell.place.start (length f) ≡ a → leb x.cell.place.len (length f - x.cell.place.start) ≡ b
          → (let p = cond {A = Span} (a && b) x.cell.place nowhere in p.start + p.len ≤ length f)
      go true true p q = omega (arith, leb-true x.cell.place.start (length f) p, leb-true x.cell.place.len (length f - x.cell.place.start) q)
      go true false p q = omega arith
      go false b p q = omega arith
