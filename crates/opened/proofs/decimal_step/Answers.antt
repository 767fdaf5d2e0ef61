use Rattle.opened.proofs.PartLaws.{decimal-none, decimal-some}
use Rattle.opened.proofs.decimal_step.Goals as goal

pub returns-in-Some : goal.returns-in-Some
returns-in-Some c = decimal-some _ _ _ c.in-Some.p c.in-Some.ensures _ _ c.read_decimal.ensures

pub returns-in-None : goal.returns-in-None
returns-in-None c = decimal-none _ _ _ c.in-None.ensures _ c.line_after.ensures _
