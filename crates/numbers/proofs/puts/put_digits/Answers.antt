use native.Mathlib.Omega.{arith}
use Rattle.numbers.proofs.PutLaws.{digits-room, digits-start, digits_turn, digits-end}
use Rattle.numbers.proofs.puts.put_digits.Goals as goal

pub overflow_sub-start : goal.overflow_sub-start
overflow_sub-start c = digits-room _ _ _ c.args.n c.requires

pub loop-at-init : goal.loop-at-init
loop-at-init c = digits-start _ _ _ _ c.requires

pub overflow_step-at : goal.overflow_step-at
overflow_step-at c = omega arith

pub overflow_cast-file : goal.overflow_cast-file
overflow_cast-file c = omega arith

pub overflow_add-file : goal.overflow_add-file
overflow_add-file c = omega arith

pub bounds-file-at : goal.bounds-file-at
bounds-file-at c = let l = c.loop-at in omega (arith, l.invariant.same, l.invariant.put.starts, c.requires.inside)

pub loop-at-preserved : goal.loop-at-preserved
loop-at-preserved c = digits_turn _ _ _ _ c.requires c.loop-at-test.true c.loop-at.invariant

pub shape_of-file : goal.shape_of-file
shape_of-file c = c.loop-at.invariant.same

pub returns : goal.returns
returns c = digits-end _ _ _ _ c.requires c.loop-at-test.false c.loop-at.invariant
