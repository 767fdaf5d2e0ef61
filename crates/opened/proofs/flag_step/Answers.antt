use mathlib.Core.Path.{◌≡◌}
use mathlib.Core.Bool.{true, false, ◌||◌}
use native.Mathlib.Omega.{arith}
use Rattle.std.proofs.lemmas.Bool.Decides.{nat_tests}
use lib.Dec.{eqb}
use Rattle.opened.proofs.PartLaws.{flag-none, flag-some, flag-other}
use Rattle.opened.proofs.flag_step.Goals as goal

pub returns-in_default : goal.returns-in_default
returns-in_default c = flag-none _ _ _ c.in_default.ensures _ c.line_after.ensures _ _ c.no_flag.ensures

pub returns-then-not-matches : goal.returns-then-not-matches
returns-then-not-matches c =
    let k : (eqb c.args.kind 4 || eqb c.args.kind 5) ≡ false = grind (arith, nat_tests) in
    flag-other _ _ _ c.in-Some.p c.in-Some.ensures _ k _ c.no_flag-then-not-matches.ensures

pub returns : goal.returns
returns c =
    let k : (eqb c.args.kind 4 || eqb c.args.kind 5) ≡ true = grind (arith, nat_tests) in
    flag-some _ _ _ c.in-Some.p c.in-Some.ensures _ k _ c.judge-j.ensures
