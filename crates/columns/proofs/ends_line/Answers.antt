-- At the end of the bytes, or at a line feed.
use borrow.Author.Tests.{le-leb, lt-leb}
use Rattle.columns.specs.Inner.Columns.{is_last}
use Rattle.columns.proofs.ends_line.Goals as goal

pub returns-then-s-q : goal.returns-then-s-q
unfolding is_last
returns-then-s-q c = rw (le-leb _ _ c.if-s-q.true)

pub returns-else-s-q : goal.returns-else-s-q
unfolding is_last
returns-else-s-q c = rw (lt-leb _ _ c.if-s-q.false)
