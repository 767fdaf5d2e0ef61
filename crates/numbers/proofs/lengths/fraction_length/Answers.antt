use native.Mathlib.Omega.{arith}
use Rattle.numbers.proofs.TextLaws.{fraction-none, fraction-some}
use Rattle.numbers.proofs.lengths.fraction_length.Goals as goal

pub returns-then-decimals-eq0 : goal.returns-then-decimals-eq0
returns-then-decimals-eq0 c = (λ n. fraction-none c.args.decimals n c.if-decimals-eq0.true, omega arith)

pub returns-else-decimals-eq0 : goal.returns-else-decimals-eq0
returns-else-decimals-eq0 c = (λ n. fraction-some c.args.decimals n c.if-decimals-eq0.false, omega arith)
