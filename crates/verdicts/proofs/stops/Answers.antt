-- The three tests of `stops_at`, in the code's order.
use borrow.Author.Tests.{le-leb, lt-leb, lt-ltb, le-ltb}
use Rattle.verdicts.specs.Judge.{stops_at}
use Rattle.verdicts.proofs.stops.Goals as goal

pub returns-then-e-i : goal.returns-then-e-i
unfolding stops_at
returns-then-e-i c = rw (lt-leb _ _ c.if-e-i.true)

pub returns-then-s-e : goal.returns-then-s-e
unfolding stops_at
returns-then-s-e c = rw (le-leb _ _ c.if-e-i.false, le-ltb _ _ c.if-s-e.true)

pub returns : goal.returns
unfolding stops_at
returns c = rw (le-leb _ _ c.if-e-i.false, lt-ltb _ _ c.if-s-e.false)
