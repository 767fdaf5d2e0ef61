use mathlib.Core.Logic.{⊎_elim}
use Rattle.headers.proofs.HeaderLaws.{said-other, said_bad, said-none, said-many, said-good}
use Rattle.headers.proofs.headers_said.Goals as goal

pub returns-then-not-same : goal.returns-then-not-same
returns-then-not-same c = said-other c.requires _ c.trimmed.ensures.content _ c.same.ensures c.if-not-same.true

pub returns-then-v-ne0 : goal.returns-then-v-ne0
returns-then-v-ne0 c = said_bad c.requires _ c.trimmed.ensures.content _ c.same.ensures c.if-not-same.false _ c.whole-v.ensures c.if-v-ne0.true

pub returns-then-v-eq0 : goal.returns-then-v-eq0
returns-then-v-eq0 c =
    let p = c.requires in
    let t = c.trimmed.ensures.content in
    let v = c.whole-v.ensures in
    ⊎_elim (λ z. said-none p _ t _ c.same.ensures c.if-not-same.false _ v c.if-v-ne0.false z)
    (λ z. said-many p _ t _ c.same.ensures c.if-not-same.false _ v c.if-v-ne0.false z.1) c.then-v-eq0.either

pub returns : goal.returns
returns c =
    said-good c.requires _ c.trimmed.ensures.content _ c.same.ensures c.if-not-same.false _ c.whole-v.ensures c.if-v-ne0.false c.if-v-eq0.false c.if-v.false
