use mathlib.Core.Path.{sym, ◌∙◌}
use Rattle.verdicts.proofs.DateLaws.{month_february, month-other}
use Rattle.verdicts.proofs.dates.month_days.Goals as goal

pub returns-then-is_leap : goal.returns-then-is_leap
returns-then-is_leap c =
    let a = c.args in
    month_february a.y a.m _ c.if-m-eq2.true (sym c.if-is_leap.true ∙ c.is_leap.ensures)

pub returns-else-is_leap : goal.returns-else-is_leap
returns-else-is_leap c =
    let a = c.args in
    month_february a.y a.m _ c.if-m-eq2.true (sym c.if-is_leap.false ∙ c.is_leap.ensures)

pub returns-then-m : goal.returns-then-m
returns-then-m c = let a = c.args in month-other a.y a.m _ c.if-m-eq2.false (sym c.if-m.true)

pub returns-else-m : goal.returns-else-m
returns-else-m c = let a = c.args in month-other a.y a.m _ c.if-m-eq2.false (sym c.if-m.false)
