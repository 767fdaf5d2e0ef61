-- The loop's invariant: the line that goes on at p ends where that at i does.
use mathlib.Core.Path.{refl, ◌∙◌}
use native.Mathlib.Omega.{arith}
use borrow.Author.Rules.{rules}
use Rattle.format.proofs.CellWalkLaws.{line-block}
use Rattle.grid.proofs.past_plain.Goals as goal

pub loop-p-init : goal.loop-p-init
loop-p-init c = (search rules, refl)

pub feed_in-requires : goal.feed_in-requires
feed_in-requires c = omega arith

pub returns-then-feed_in : goal.returns-then-feed_in
returns-then-feed_in c = (search rules, c.loop-p.invariant.1)

pub loop-p-preserved : goal.loop-p-preserved
loop-p-preserved c = (omega arith, c.loop-p.invariant.1 ∙ line-block _ _ _ (omega arith) (c.feed_in.ensures c.if-feed_in.false))

pub returns : goal.returns
returns c = (search rules, c.loop-p.invariant.1)
