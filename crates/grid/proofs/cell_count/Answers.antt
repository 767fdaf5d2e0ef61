-- The loop's invariant: the cells counted and those of the rest of the line are those of the line.
use Prim.Native.Nat.{◌<◌}
use native.Mathlib.Omega.{arith}
use lib.ListN.{length}
use Rattle.line_bytes.proofs.CellLaws.{count-end}
use Rattle.format.proofs.GridWalkLaws.{count-comma, count-other, count_past}
use Rattle.grid.proofs.cell_count.Goals as goal
use Rattle.grid.proofs.cell_count.Goals.{then-s-q-eq44, else-s-q-eq44}

pub loop-q-init : goal.loop-q-init
loop-q-init c = (omega arith, omega arith, omega arith)

pub returns-then-s-q-eq10 : goal.returns-then-s-q-eq10
returns-then-s-q-eq10 c =
    let s = c.args.s.now in
    let h : c.loop-q.q < length s = omega arith in
    omega (arith, count-end 44 s c.loop-q.q h c.if-s-q-eq10.true, c.loop-q.invariant.2)

pub loop-q-preserved : goal.loop-q-preserved
loop-q-preserved c =
    let s = c.args.s.now in
    let h : c.loop-q.q < length s = omega arith in
    elim c.if-s-q-eq44.branch [
      | then-s-q-eq44 w ↦ (omega arith, omega arith, omega (arith, count-comma s c.loop-q.q h c.if-s-q-eq10.false w.if-s-q-eq44.true))
      | else-s-q-eq44 w ↦ (omega arith, omega arith, omega (arith, count-other s c.loop-q.q h c.if-s-q-eq10.false w.if-s-q-eq44.false))
    ]

pub returns : goal.returns
returns c =
    let s = c.args.s.now in
    omega (arith, count_past s c.loop-q.q c.loop-q-test.false, c.loop-q.invariant.2)
