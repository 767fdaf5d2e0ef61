use mathlib.Core.Path.{ap, ◌∙◌}
use native.Mathlib.Omega.{arith}
use lib.ListN.{length-take, drop}
use Rattle.std.proofs.Common.{◌++◌, List, ℕ}
use Rattle.whole_columns.proofs.FillLaws.{filled_part}
use Rattle.whole_columns.proofs.FillingLaws.{flag-start, flag-digit, flag_turn, flag-end}
use Rattle.whole_columns.proofs.filling.fill_flags.Goals as goal

pub loop-flag-init : goal.loop-flag-init
loop-flag-init c = flag-start c.requires.stands (omega (arith, length-take {A = ℕ}))

pub overflow_cast-flag : goal.overflow_cast-flag
overflow_cast-flag c = omega (arith, flag-digit _ _ _ _ _ c.flag_step-f.ensures)

pub loop-flag-preserved : goal.loop-flag-preserved
loop-flag-preserved c =
    flag_turn c.requires.stands (omega (arith, length-take {A = ℕ})) c.loop-flag.invariant (omega (arith, length-take {A = ℕ}, c.loop-flag-test.true)) _ c.flag_step-f.ensures

pub returns : goal.returns
returns c =
    ap (λ (xs : List ℕ). xs ++ drop c.args.found.rows c.args.flags.now) (flag-end c.requires.stands (omega (arith, length-take {A = ℕ})) c.loop-flag.invariant (omega (arith, length-take {A = ℕ}, c.loop-flag-test.false)))
    ∙ filled_part _ 1 c.args.found.rows c.args.flags.now
