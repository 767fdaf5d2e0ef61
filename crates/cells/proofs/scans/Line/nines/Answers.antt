use native.Mathlib.Omega.{arith}
use Rattle.cells.proofs.ScanLaws.{stop_on}
use Rattle.cells.proofs.JudgingLaws.{nine-next, nines_two, time-first, time_second, time_third, time_nines}
use Rattle.cells.proofs.scans.Line.nines.Goals as goal

pub returns-then-self-p-ne57 : goal.returns-then-self-p-ne57
returns-then-self-p-ne57 c = time-first (stop_on c.args.self c.requires) _ c.if-self-p-ne57.true c.wrong.ensures

pub bounds-self-p-else-self-p-ne57 : goal.bounds-self-p-else-self-p-ne57
bounds-self-p-else-self-p-ne57 c = omega (arith, nine-next (stop_on c.args.self c.requires) c.if-self-p-ne57.false)

pub returns-then-self-p-ne57-2 : goal.returns-then-self-p-ne57-2
returns-then-self-p-ne57-2 c =
    time_second (stop_on c.args.self c.requires) _ c.if-self-p-ne57.false c.if-self-p-ne57-2.true c.wrong-then-self-p-ne57-2.ensures

pub bounds-self-p-else-self-p-ne57-2 : goal.bounds-self-p-else-self-p-ne57-2
bounds-self-p-else-self-p-ne57-2 c =
    omega (arith, nines_two (stop_on c.args.self c.requires) c.if-self-p-ne57.false c.if-self-p-ne57-2.false)

pub returns-then-self-p-ne57-3 : goal.returns-then-self-p-ne57-3
returns-then-self-p-ne57-3 c =
    time_third (stop_on c.args.self c.requires) _ c.if-self-p-ne57.false c.if-self-p-ne57-2.false c.if-self-p-ne57-3.true c.wrong-then-self-p-ne57-3.ensures

pub returns-else-self-p-ne57-3 : goal.returns-else-self-p-ne57-3
returns-else-self-p-ne57-3 c =
    time_nines (stop_on c.args.self c.requires) _ c.if-self-p-ne57.false c.if-self-p-ne57-2.false c.if-self-p-ne57-3.false c.close.ensures
