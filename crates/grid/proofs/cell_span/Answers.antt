-- The loop's invariant: `left` cells on from i as `column` from the start.
use Prim.Native.Nat.{◌+◌, ◌-◌, ◌≤◌, ◌<◌}
use mathlib.Core.Path.{◌≡◌, sym, ◌∙◌, ap}
use native.Mathlib.Omega.{arith}
use lib.ListN.{length}
use Rattle.format.specs.Inner.Grid.{cell_span}
use Rattle.format.proofs.CellWalkLaws.{cell_past, cell-fed, cell-comma, cell_other}
use Rattle.grid.proofs.cell_span.Goals as goal
use Rattle.grid.proofs.cell_span.Goals.{then-s-i-eq44+else-left-eq1, else-s-i-eq44}

pub returns-then-column-eq0 : goal.returns-then-column-eq0
returns-then-column-eq0 c = let a = c.args in c.first_span.ensures ∙ ap (cell_span a.s.now a.at) (sym c.if-column-eq0.true)

pub returns-then-s-at : goal.returns-then-s-at
returns-then-s-at c = sym (cell_past _ _ _ (omega arith) (omega arith))

pub past_cells-wide-requires : goal.past_cells-wide-requires
past_cells-wide-requires c = (omega arith, omega arith, omega arith)

pub past_cells-p-requires : goal.past_cells-p-requires
past_cells-p-requires c = (c.past_cells-wide.ensures.0, c.past_cells-wide.ensures.1, omega arith)

pub loop-i-init : goal.loop-i-init
loop-i-init c = (c.past_cells-p.ensures.1, c.past_cells-wide.ensures.2 ∙ c.past_cells-p.ensures.2)

pub returns-then-s-i-eq10 : goal.returns-then-s-i-eq10
returns-then-s-i-eq10 c = sym (c.loop-i.invariant.1 ∙ cell-fed _ _ (omega arith) _ c.if-s-i-eq10.true (omega arith))

pub returns-then-left-eq1 : goal.returns-then-left-eq1
returns-then-left-eq1 c =
    let s = c.args.s.now in
    let e : 0 ≡ c.loop-i.left - 1 = omega (arith, c.if-left-eq1.true) in
    c.first_span-then-left-eq1.ensures
    ∙ ap (cell_span s (c.loop-i.i + 1)) e
    ∙ sym (c.loop-i.invariant.1 ∙ cell-comma s c.loop-i.i (omega arith) c.loop-i.left c.if-s-i-eq44.true (omega arith))

pub loop-i-preserved : goal.loop-i-preserved
loop-i-preserved c =
    let s = c.args.s.now in
    let i = c.loop-i.i in
    let h : i < length s = omega arith in
    let g : (1 ≤ c.if-s-i-eq44.left) × (cell_span s i c.loop-i.left ≡ cell_span s (i + 1) c.if-s-i-eq44.left) =
    elim c.if-s-i-eq44.branch [
      | then-s-i-eq44+else-left-eq1 w ↦ (omega (arith, c.loop-i.invariant.0, w.if-left-eq1.false, w.left-is), cell-comma s i h c.loop-i.left w.if-s-i-eq44.true c.loop-i.invariant.0 ∙ ap (cell_span s (i + 1)) (sym w.left-is))
      | else-s-i-eq44 w ↦ (omega (arith, c.loop-i.invariant.0, w.left-is), cell_other s i h c.loop-i.left c.if-s-i-eq10.false w.if-s-i-eq44.false c.loop-i.invariant.0 ∙ ap (cell_span s (i + 1)) (sym w.left-is))
    ] in
    (g.0, c.loop-i.invariant.1 ∙ g.1)

pub returns : goal.returns
returns c = sym (c.loop-i.invariant.1 ∙ cell_past _ _ _ c.loop-i-test.false (omega arith))
