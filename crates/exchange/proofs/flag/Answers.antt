use native.Mathlib.Omega.{arith}
use Rattle.std.proofs.lemmas.Bool.Decides.{nat_tests}
use Rattle.exchange.proofs.CellLaws.{call-flag, read-flag, read-other}
use Rattle.exchange.proofs.flag.Goals as goal

pub returns-in-Ok : goal.returns-in-Ok
returns-in-Ok c = read-flag _ _ _ c.in-Ok.a c.in-Ok.ensures (grind (arith, nat_tests)) _ c.judge.ensures

pub returns-in-Ok-2 : goal.returns-in-Ok-2
returns-in-Ok-2 c = read-other _ _ _ c.in-Ok.a c.in-Ok.ensures (grind (arith, nat_tests))

pub returns-in-Err : goal.returns-in-Err
returns-in-Err c = call-flag _ _ _ c.in-Err.e c.in-Err.ensures
