use Rattle.verdicts.specs.Dates.{is_date}
use Rattle.verdicts.proofs.dates.is_date.Goals as goal

pub returns : goal.returns
unfolding is_date
returns c = c.is_day.ensures
