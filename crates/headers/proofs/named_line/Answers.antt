use Rattle.std.proofs.Common.{rules}
use mathlib.Core.Path.{◌≡◌, sym, ◌∙◌}
use Rattle.std.specs.Prelude.{Err}
use Rattle.headers.proofs.HeaderLaws.{header_refused, named_broken, named_none, named-long, named-wrong, named-good}
use Rattle.headers.proofs.named_line.Goals.{then-equals-end-via-then-equals-end, then-equals-end-via-else-equals-end+then-name-gt-MOST_NAME_BYTES, then-equals-end-via-else-equals-end+else-name-gt-MOST_NAME_BYTES+then-not-is_name}
use Rattle.headers.proofs.named_line.Goals as goal

pub returns-in_err-end : goal.returns-in_err-end
returns-in_err-end c =
    let e : c.from_residual.result ≡ Err c.in_err-end.field-0.0 = search rules in
    e ∙ header_refused _ _ _ _ (named_broken _ _ _ (sym c.line_at.ensures ∙ c.in_err-end.was))

pub returns-then-equals-end : goal.returns-then-equals-end
returns-then-equals-end c =
    let z = sym c.line_at.ensures ∙ c.in_ok-end.was in
    let q = c.equals_from-equals.ensures in
    let t = c.trimmed-name.ensures.content in
    header_refused _ _ _ _
    (elim c.then-equals-end.branch [
      | then-equals-end-via-then-equals-end w ↦ named_none _ _ _ z _ q w.if-equals-end.true
      | then-equals-end-via-else-equals-end+then-name-gt-MOST_NAME_BYTES w ↦ named-long _ _ _ z _ q w.if-equals-end.false _ t w.if-name-gt-MOST_NAME_BYTES.true
      | then-equals-end-via-else-equals-end+else-name-gt-MOST_NAME_BYTES+then-not-is_name w ↦
          named-wrong _ _ _ z _ q w.if-equals-end.false _ t w.if-name-gt-MOST_NAME_BYTES.false (sym w.is_name.ensures ∙ w.if-not-is_name.true)
    ])

pub returns : goal.returns
returns c =
    named-good _ _ _ (sym c.line_at.ensures ∙ c.in_ok-end.was) _ c.equals_from-equals.ensures c.if-equals-end.false _ c.trimmed-name.ensures.content
    c.if-name-gt-MOST_NAME_BYTES.false (sym c.is_name.ensures ∙ c.if-not-is_name.false)
