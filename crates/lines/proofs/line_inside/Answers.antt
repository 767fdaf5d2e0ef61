use native.Mathlib.Omega.{arith}
use Rattle.lines.proofs.LinePassLaws.{line_plain}
use Rattle.lines.proofs.line_inside.Goals as goal

pub returns-then-s-o-eq10 : goal.returns-then-s-o-eq10
returns-then-s-o-eq10 c =
    let w = c.min-limit.ensures in
    line_plain _ _ _ _ c.first_odd-o.ensures.over (omega arith) (omega arith) c.if-s-o-eq10.true
