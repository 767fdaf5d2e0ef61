use mathlib.Core.Path.{◌∙◌, sym}
use mathlib.Core.Bool.{true≢false}
use native.Mathlib.Omega.{arith}
use Rattle.line_bytes.proofs.LineLaws.{ill_formed-inside, return-inside, control-inside}
use Rattle.lines.proofs.LinePassLaws.{bytes-ill_formed, bytes_return, bytes_control, bytes-clean}
use Rattle.lines.proofs.byte_rules.Goals as goal

pub broken_at-requires : goal.broken_at-requires
broken_at-requires c =
    omega (arith, ill_formed-inside c.args.line.now _ (sym c.ill_formed.ensures ∙ c.in-Some.is))

pub returns-in-Some : goal.returns-in-Some
returns-in-Some c =
    rw c.broken_at.ensures (bytes-ill_formed _ _ _ (sym c.ill_formed.ensures ∙ c.in-Some.is))

pub broken_at-requires-in-Some-first_return : goal.broken_at-requires-in-Some-first_return
broken_at-requires-in-Some-first_return c =
    omega (arith, return-inside c.args.line.now _ (sym c.first_return.ensures ∙ c.in-Some-first_return.is))

pub returns-in-Some-first_return : goal.returns-in-Some-first_return
returns-in-Some-first_return c =
    rw c.broken_at-in-Some-first_return.ensures (bytes_return _ _ _ (sym c.ill_formed.ensures ∙ c.in_default.is) (sym c.first_return.ensures ∙ c.in-Some-first_return.is))

pub broken_at-requires-in-Some-first_control : goal.broken_at-requires-in-Some-first_control
broken_at-requires-in-Some-first_control c =
    omega (arith, control-inside c.args.line.now _ (sym c.first_control.ensures ∙ c.in-Some-first_control.is))

pub returns-in-Some-first_control : goal.returns-in-Some-first_control
returns-in-Some-first_control c =
    rw c.broken_at-in-Some-first_control.ensures
    (bytes_control _ _ _ (sym c.ill_formed.ensures ∙ c.in_default.is) (sym c.first_return.ensures ∙ c.in_default-first_return.is) c.if-control.true (sym c.first_control.ensures ∙ c.in-Some-first_control.is))

pub returns-in_default-first_control : goal.returns-in_default-first_control
returns-in_default-first_control c =
    bytes-clean _ _ (sym c.ill_formed.ensures ∙ c.in_default.is) (sym c.first_return.ensures ∙ c.in_default-first_return.is) (λ z. sym c.first_control.ensures ∙ c.in_default-first_control.is)

pub returns-else-control : goal.returns-else-control
returns-else-control c =
    bytes-clean _ _ (sym c.ill_formed.ensures ∙ c.in_default.is) (sym c.first_return.ensures ∙ c.in_default-first_return.is) (λ z. absurd (true≢false (sym z ∙ c.if-control.false)))
