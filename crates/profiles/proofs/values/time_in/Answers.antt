use mathlib.Core.Path.{◌≡◌}
use mathlib.Core.Bool.{true, false, not, ◌||◌}
use native.Mathlib.Omega.{arith}
use lib.Dec.{eqb}
use Rattle.std.proofs.lemmas.Bool.Decides.{nat_tests}
use Rattle.std.proofs.lemmas.Option.{MatchOption-at_some}
use Rattle.profiles.proofs.ValueLaws.{time-missing, time-given}
use Rattle.profiles.proofs.values.time_in.Goals as goal

pub returns-then-j-ne0 : goal.returns-then-j-ne0
returns-then-j-ne0 c = λ x w.
    let t : (not (eqb c.judge-j.result.number 0) || c.judge-j.result.minus) ≡ true = grind (arith, nat_tests) in
    time-missing (MatchOption-at_some _ _ _ c.in-Some.is w) _ c.judge-j.ensures t

pub returns : goal.returns
returns c = λ x w.
    let t : (not (eqb c.judge-j.result.number 0) || c.judge-j.result.minus) ≡ false = grind (arith, nat_tests) in
    time-given (MatchOption-at_some _ _ _ c.in-Some.is w) _ c.judge-j.ensures t
