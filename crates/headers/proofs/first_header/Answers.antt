use Rattle.std.proofs.Common.{rules}
use mathlib.Core.Path.{◌≡◌, sym, ◌∙◌}
use Rattle.std.specs.Prelude.{Err}
use Rattle.headers.proofs.HeaderLaws.{named-read, first-refused, first-named, first-none, first_good}
use Rattle.headers.proofs.first_header.Goals as goal

pub returns-in_err-header : goal.returns-in_err-header
returns-in_err-header c =
    let e : c.from_residual.result ≡ Err c.in_err-header.field-0.0 = search rules in
    e ∙ first-named _ _ _ (sym c.named_line.ensures ∙ c.in_err-header.was)

pub headers_said-requires : goal.headers_said-requires
headers_said-requires c = (named-read _ _ _ (sym c.named_line.ensures ∙ c.in_ok-header.was)).parted

pub returns-in_default : goal.returns-in_default
returns-in_default c = first-refused _ _ _ (first-none _ _ _ (sym c.named_line.ensures ∙ c.in_ok-header.was) _ c.headers_said.ensures c.in_default.is)

pub returns : goal.returns
returns c = first_good _ _ _ (sym c.named_line.ensures ∙ c.in_ok-header.was) _ c.headers_said.ensures _ c.in-Some.is
