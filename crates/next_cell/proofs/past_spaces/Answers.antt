-- The loop's invariant: from i up to p all are spaces; so p has not come to the end of the cell, whose last byte is none.
use native.Mathlib.Omega.{arith}
use Rattle.next_cell.proofs.StopLaws.{spaces-none, spaces_one, spaces-on, spaces-before, front_past}
use Rattle.next_cell.proofs.past_spaces.Goals as goal
use Rattle.next_cell.proofs.past_spaces.Goals.{then-s-i-ge7, else-s-i-ge7}

pub loop-p-init : goal.loop-p-init
loop-p-init c =
    let s = c.args.s.now in
    elim c.if-s-i-ge7.branch [
      | then-s-i-ge7 w ↦
          let x = spaces-on s _ _ _ (spaces-on s _ _ _ w.four_spaces-p.ensures.1 w.two_spaces-p.ensures.1) w.one_space-p.ensures.1 in
          rw w.p-is (omega arith, spaces-before s _ _ _ x c.requires.0 c.requires.2, x)
      | else-s-i-ge7 w ↦ rw w.p-is (omega arith, c.requires.0, spaces-none s _)
    ]

pub loop-p-preserved : goal.loop-p-preserved
loop-p-preserved c =
    let s = c.args.s.now in
    let x = spaces-on s _ _ _ c.loop-p.invariant.2 (spaces_one s _ c.loop-p-test.true) in
    (omega arith, spaces-before s _ _ _ x c.requires.0 c.requires.2, x)

pub returns : goal.returns
returns c = let v = c.loop-p.invariant in (v.0, v.1, front_past _ _ _ _ v.0 v.1 (omega arith) v.2 c.loop-p-test.false)
