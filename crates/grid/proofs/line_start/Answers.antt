-- The loop's invariant: so many line feeds on from `at` as from the start.
use Prim.Native.Nat.{◌+◌, ◌≤◌, ◌<◌}
use mathlib.Core.Path.{◌≡◌, sym, ◌∙◌}
use native.Mathlib.Omega.{arith}
use lib.ListN.{length}
use Rattle.format.specs.Inner.Grid.{skipped}
use Rattle.format.proofs.GridWalkLaws.{start_none, start_past, start-skipped, skipped-end, skipped-last, skipped-fed, skipped_past}
use Rattle.grid.proofs.line_start.Goals as goal
use Rattle.grid.proofs.line_start.Goals.{then-s-at-eq10+else-left-eq1, else-s-at-eq10}

pub returns-then-lines-eq0 : goal.returns-then-lines-eq0
returns-then-lines-eq0 c = rw c.if-lines-eq0.true (sym (start_none _ _))

pub returns-then-s-from : goal.returns-then-s-from
returns-then-s-from c = sym (start_past _ _ _ c.if-s-from.true c.if-lines-eq0.false)

pub past_blocks-p-requires : goal.past_blocks-p-requires
past_blocks-p-requires c = (c.if-s-from.false, omega arith)

pub loop-at-init : goal.loop-at-init
loop-at-init c = c.past_blocks-p.ensures

pub returns-then-left-eq1 : goal.returns-then-left-eq1
returns-then-left-eq1 c =
    sym (start-skipped _ _ _ c.if-s-from.false ∙ c.loop-at.invariant.2 ∙ skipped-last _ _ (omega arith) _ c.if-s-at-eq10.true c.if-left-eq1.true)

pub loop-at-preserved : goal.loop-at-preserved
loop-at-preserved c =
    let s = c.args.s.now in
    let h : c.loop-at.at < length s = omega (arith, c.loop-at-test.true) in
    let g : (1 ≤ c.if-s-at-eq10.left) × (skipped s c.loop-at.at c.loop-at.left ≡ skipped s (c.loop-at.at + 1) c.if-s-at-eq10.left) =
    elim c.if-s-at-eq10.branch [
      | then-s-at-eq10+else-left-eq1 w ↦ skipped-fed s c.loop-at.at h c.loop-at.left c.if-s-at-eq10.left w.if-s-at-eq10.true c.loop-at.invariant.1 w.if-left-eq1.false w.left-is
      | else-s-at-eq10 w ↦ skipped_past s c.loop-at.at h c.loop-at.left c.if-s-at-eq10.left w.if-s-at-eq10.false c.loop-at.invariant.1 w.left-is
    ] in
    (omega arith, g.0, c.loop-at.invariant.2 ∙ g.1)

pub returns : goal.returns
returns c =
    sym (start-skipped _ _ _ c.if-s-from.false ∙ c.loop-at.invariant.2 ∙ skipped-end _ _ c.loop-at-test.false c.loop-at.left)
