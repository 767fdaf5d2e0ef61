use borrow.Author.Tests.{lt-ltb, le-ltb}
use Rattle.list_lines.proofs.fields.after.Goals as goal

pub returns-then-at-e : goal.returns-then-at-e
returns-then-at-e c = rw (lt-ltb _ _ c.if-at-e.true)

pub returns-else-at-e : goal.returns-else-at-e
returns-else-at-e c = rw (le-ltb _ _ c.if-at-e.false)
