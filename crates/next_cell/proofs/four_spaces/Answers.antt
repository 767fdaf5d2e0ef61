use native.Mathlib.Omega.{arith}
use Rattle.next_cell.proofs.StopLaws.{spaces_four}
use Rattle.next_cell.proofs.four_spaces.Goals as goal

pub returns-then-word-eq-FOUR_SPACES : goal.returns-then-word-eq-FOUR_SPACES
returns-then-word-eq-FOUR_SPACES c =
    let x = c.pair.ensures in
    let y = c.pair-2.ensures in
    let v = x.1 (omega arith) in
    let w = y.1 (omega arith) in
    (omega arith, spaces_four c.args.s.now _ v.0 v.1 w.0 w.1)
