use Rattle.cells.proofs.ScanLaws.{stop_on}
use Rattle.cells.proofs.JudgingLaws.{date-other, date-held}
use Rattle.cells.proofs.scans.Line.date.Goals as goal

pub overflow_sub-q : goal.overflow_sub-q
overflow_sub-q c = c.digits-w.ensures.low

pub returns-then-q-a-ne8 : goal.returns-then-q-a-ne8
returns-then-q-a-ne8 c =
    date-other (stop_on c.args.self c.requires) c.digits-w.ensures _ c.if-q-a-ne8.true c.wrong.ensures

pub returns-else-q-a-ne8 : goal.returns-else-q-a-ne8
returns-else-q-a-ne8 c =
    date-held (stop_on c.args.self c.requires) c.digits-w.ensures c.if-q-a-ne8.false _ c.close.ensures _ _ c.is_date.ensures c.within.ensures
