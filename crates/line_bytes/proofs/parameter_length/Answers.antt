use Rattle.line_bytes.proofs.NameLaws.{parameter_found, parameter-none}
use Rattle.line_bytes.proofs.parameter_length.Goals as goal

pub returns-in-Some : goal.returns-in-Some
returns-in-Some c = parameter_found _ _ c.in-Some.ensures.cases.0 c.in-Some.ensures.cases.2

pub returns-in-None : goal.returns-in-None
returns-in-None c = parameter-none _ c.in-None.ensures.cases
