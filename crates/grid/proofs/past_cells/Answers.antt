-- The loop's invariant: `left` cells on from `at` as `cells` from the start.
use mathlib.Core.Path.{refl, ◌∙◌}
use native.Mathlib.Omega.{arith}
use borrow.Author.Rules.{rules}
use Rattle.format.proofs.CellWalkLaws.{cell-block}
use Rattle.grid.proofs.past_cells.Goals as goal

pub loop-at-init : goal.loop-at-init
loop-at-init c = (search rules, search rules, refl)

pub feed_in-requires : goal.feed_in-requires
feed_in-requires c = omega arith

pub returns-then-feed_in : goal.returns-then-feed_in
returns-then-feed_in c = (search rules, search rules, c.loop-at.invariant.2)

pub count_in-n-requires : goal.count_in-n-requires
count_in-n-requires c = omega arith

pub returns-then-left-n : goal.returns-then-left-n
returns-then-left-n c = (search rules, search rules, c.loop-at.invariant.2)

pub loop-at-preserved : goal.loop-at-preserved
loop-at-preserved c =
    (omega arith, omega arith, c.loop-at.invariant.2 ∙ cell-block _ _ _ _ _ (omega arith) (c.feed_in.ensures c.if-feed_in.false) c.count_in-n.ensures (omega arith))

pub returns : goal.returns
returns c = (search rules, search rules, c.loop-at.invariant.2)
