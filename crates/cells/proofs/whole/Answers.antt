use native.Mathlib.Omega.{arith}
use borrow.Author.Tests.{leb-true}
use Rattle.verdicts.specs.Judge.{whole_at}
use Rattle.verdicts.proofs.JudgeLaws.{stop_from}
use Rattle.line_bytes.proofs.CellLaws.{both_true}
use Rattle.cells.proofs.whole.Goals as goal

pub invariant_of-line : goal.invariant_of-line
invariant_of-line c =
    let t = stop_from _ _ _ _ (both_true _ _ (rw c.stops.ensures at c.if-most-stops.true)).1 in
    record { room = t.room; feed = t.feed; parts = t.parts }

pub whole_cell-requires : goal.whole_cell-requires
whole_cell-requires c =
    let b = both_true _ _ (rw c.stops.ensures at c.if-most-stops.true) in
    ((stop_from _ _ _ _ b.1).inside, omega (arith, leb-true _ _ b.0))

pub returns-then-most-stops : goal.returns-then-most-stops
unfolding whole_at
returns-then-most-stops c = rw (rw c.stops.ensures at c.if-most-stops.true) c.whole_cell.ensures

pub returns-else-most-stops : goal.returns-else-most-stops
unfolding whole_at
returns-else-most-stops c = rw (rw c.stops.ensures at c.if-most-stops.false) c.refused.ensures
