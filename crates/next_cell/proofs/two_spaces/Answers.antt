use native.Mathlib.Omega.{arith}
use Rattle.next_cell.proofs.StopLaws.{spaces_two}
use Rattle.next_cell.proofs.two_spaces.Goals as goal

pub returns-then-word-eq-TWO_SPACES : goal.returns-then-word-eq-TWO_SPACES
returns-then-word-eq-TWO_SPACES c = let w = c.pair-word.ensures.1 c.if-word-eq-TWO_SPACES.true in (omega arith, spaces_two c.args.s.now _ w.0 w.1)
