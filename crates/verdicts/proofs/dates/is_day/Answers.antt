use Rattle.verdicts.specs.Dates.{is_day}
use Rattle.verdicts.proofs.dates.is_day.Goals as goal

pub returns : goal.returns
unfolding is_day
returns c = rw c.month_days.ensures
