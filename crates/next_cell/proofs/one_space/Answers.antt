use native.Mathlib.Omega.{arith}
use Rattle.next_cell.proofs.StopLaws.{spaces_one}
use Rattle.next_cell.proofs.one_space.Goals as goal

pub returns-then-s-p-eq32 : goal.returns-then-s-p-eq32
returns-then-s-p-eq32 c = (omega arith, spaces_one c.args.s.now _ c.if-s-p-eq32.true)
