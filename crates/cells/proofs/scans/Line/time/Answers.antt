use Rattle.cells.proofs.ScanLaws.{begun_on}
use Rattle.cells.proofs.JudgingLaws.{time_minus_sign, time_of_day}
use Rattle.cells.proofs.scans.Line.time.Goals as goal

pub returns-then-self-a-eq45 : goal.returns-then-self-a-eq45
returns-then-self-a-eq45 c =
    time_minus_sign (begun_on c.args.self c.requires) _ c.requires.inside c.if-self-a-eq45.true c.nines.ensures

pub returns-else-self-a-eq45 : goal.returns-else-self-a-eq45
returns-else-self-a-eq45 c =
    time_of_day (begun_on c.args.self c.requires) _ c.requires.inside c.requires.solid c.if-self-a-eq45.false c.clock.ensures
