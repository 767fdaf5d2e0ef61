use Rattle.cells.proofs.ScanLaws.{stop_on}
use Rattle.cells.proofs.JudgingLaws.{clock-other, clock-held}
use Rattle.cells.proofs.scans.Line.clock.Goals as goal

pub overflow_sub-q : goal.overflow_sub-q
overflow_sub-q c = c.digits-w.ensures.low

pub returns-then-q-a-ne4 : goal.returns-then-q-a-ne4
returns-then-q-a-ne4 c =
    clock-other (stop_on c.args.self c.requires) c.digits-w.ensures _ c.if-q-a-ne4.true c.wrong.ensures

pub returns-else-q-a-ne4 : goal.returns-else-q-a-ne4
returns-else-q-a-ne4 c =
    clock-held (stop_on c.args.self c.requires) c.digits-w.ensures c.if-q-a-ne4.false _ c.close.ensures _ c.within.ensures
