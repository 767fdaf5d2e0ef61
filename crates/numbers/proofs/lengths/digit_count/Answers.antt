use mathlib.Core.Path.{sym}
use native.Mathlib.Omega.{arith}
use Rattle.numbers.proofs.DigitLaws.{whole_one, whole_power}
use Rattle.numbers.proofs.lengths.digit_count.Goals as goal

pub returns-in-Some : goal.returns-in-Some
returns-in-Some c = let k = c.in-Some.ensures in whole_power _ _ k.power_le k.next_power_gt k.bound

pub returns-in-None : goal.returns-in-None
returns-in-None c = (sym (whole_one _ (omega (arith, c.in-None.ensures.none))), omega arith)
