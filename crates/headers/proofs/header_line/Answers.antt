use Rattle.std.proofs.Common.{rules}
use mathlib.Core.Path.{◌≡◌, sym, ap, ◌∙◌}
use native.Mathlib.Omega.{arith}
use Rattle.std.specs.Prelude.{Err, is_some}
use Rattle.format.specs.Headers.{header_kind}
use Rattle.format.specs.Inner.Names.{names_at}
use Rattle.format.proofs.NameLaws.{position-member}
use Rattle.headers.proofs.HeaderLaws.{header_refused, named-read, header-named, name_is, header-known, header-value, header-good}
use Rattle.headers.proofs.header_line.Goals as goal

pub returns-in_err-h : goal.returns-in_err-h
returns-in_err-h c =
    let e : c.from_residual.result ≡ Err c.in_err-h.field-0.0 = search rules in
    e ∙ header-named _ _ _ _ (sym c.named_line.ensures ∙ c.in_err-h.was)

pub returns-then-is_some : goal.returns-then-is_some
returns-then-is_some c =
    let a = c.args in
    let ns = names_at a.s.now a.places.now in
    let k = c.is_some.ensures ∙ ap is_some c.place_of.ensures ∙ position-member _ ns in
    header_refused _ _ _ _ (header-known _ _ ns _ (sym c.named_line.ensures ∙ c.in_ok-h.was) _ c.trimmed-name.ensures.content _ k c.if-is_some.true)

pub overflow_add-h : goal.overflow_add-h
overflow_add-h c =
    let w = (named-read _ _ _ (sym c.named_line.ensures ∙ c.in_ok-h.was)).parted in
    omega (arith, w.before, w.room)

pub overflow_sub-result : goal.overflow_sub-result
overflow_sub-result c =
    let w = (named-read _ _ _ (sym c.named_line.ensures ∙ c.in_ok-h.was)).parted in
    omega (arith, w.equals)

pub overflow_add-result : goal.overflow_add-result
overflow_add-result c =
    let w = (named-read _ _ _ (sym c.named_line.ensures ∙ c.in_ok-h.was)).parted in
    omega (arith, w.equals, w.before, w.short)

pub returns-then-v-ne0 : goal.returns-then-v-ne0
returns-then-v-ne0 c =
    let a = c.args in
    let ns = names_at a.s.now a.places.now in
    let z = sym c.named_line.ensures ∙ c.in_ok-h.was in
    let k = c.is_some.ensures ∙ ap is_some c.place_of.ensures ∙ position-member _ ns in
    let t = c.trimmed-name.ensures.content in
    let j = c.header_kind.ensures ∙ ap header_kind (name_is _ _ ns _ z _ t _ k) in
    header_refused _ _ _ _ (header-value _ _ ns _ z _ t _ k c.if-is_some.false _ j _ c.judge-v.ensures c.if-v-ne0.true)

pub returns : goal.returns
returns c =
    let a = c.args in
    let ns = names_at a.s.now a.places.now in
    let z = sym c.named_line.ensures ∙ c.in_ok-h.was in
    let k = c.is_some.ensures ∙ ap is_some c.place_of.ensures ∙ position-member _ ns in
    let t = c.trimmed-name.ensures.content in
    let j = c.header_kind.ensures ∙ ap header_kind (name_is _ _ ns _ z _ t _ k) in
    header-good _ _ ns _ z _ t _ k c.if-is_some.false _ j _ c.judge-v.ensures c.if-v-ne0.false
