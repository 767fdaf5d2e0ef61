use mathlib.Core.Path.{refl, sym, ◌∙◌}
use native.Mathlib.Omega.{arith}
use Rattle.format.proofs.RunLaws.{line-ends}
use Rattle.rules.proofs.ExitLaws.{goes-on, ends}
use Rattle.rules.proofs.free.line_after.Goals as goal

pub returns-in_err-e : goal.returns-in_err-e
returns-in_err-e c =
    let w = ends _ _ c.from_residual.result _ _ c.on_line.ensures c.in_err-e.was c.from_residual.ensures.1 in
    rw (w.2, sym c.line_at.ensures ∙ w.1) refl

pub overflow_add-result : goal.overflow_add-result
overflow_add-result c =
    let w = line-ends c.args.control c.args.s.now c.args.from.at _ (sym c.line_at.ensures ∙ goes-on _ _ _ _ c.on_line.ensures c.in_ok-e.was) in
    omega (arith, w)

pub overflow_add-result-2 : goal.overflow_add-result-2
overflow_add-result-2 c =
    let w = line-ends c.args.control c.args.s.now c.args.from.at _ (sym c.line_at.ensures ∙ goes-on _ _ _ _ c.on_line.ensures c.in_ok-e.was) in
    omega (arith, w)

pub returns : goal.returns
returns c = rw (sym c.line_at.ensures ∙ goes-on _ _ _ _ c.on_line.ensures c.in_ok-e.was) refl
