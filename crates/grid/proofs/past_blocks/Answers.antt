-- The loop's invariant: so many line feeds on from `at` as from the start.
use mathlib.Core.Path.{refl, ◌∙◌}
use native.Mathlib.Omega.{arith}
use borrow.Author.Rules.{rules}
use Rattle.format.proofs.GridWalkLaws.{skipped-block}
use Rattle.grid.proofs.past_blocks.Goals as goal

pub loop-at-init : goal.loop-at-init
loop-at-init c = (search rules, search rules, refl)

pub count_in-n-requires : goal.count_in-n-requires
count_in-n-requires c = omega arith

pub returns-then-left-n : goal.returns-then-left-n
returns-then-left-n c = (search rules, search rules, c.loop-at.invariant.2)

pub loop-at-preserved : goal.loop-at-preserved
loop-at-preserved c = (omega arith, omega arith, c.loop-at.invariant.2 ∙ skipped-block _ _ _ _ (omega arith) c.count_in-n.ensures (omega arith))

pub returns : goal.returns
returns c = (search rules, search rules, c.loop-at.invariant.2)
