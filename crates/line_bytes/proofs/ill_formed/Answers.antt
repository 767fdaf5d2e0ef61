use mathlib.Core.Path.{◌∙◌, sym, refl}
use native.Mathlib.Omega.{arith}
use Rattle.line_bytes.specs.Lines.{ill_formed}
use Rattle.line_bytes.proofs.LineLaws.{character_at, character-room, ill-end, ill-stop, ill-step}
use Rattle.line_bytes.proofs.ill_formed.Goals as goal

pub loop-i-init : goal.loop-i-init
unfolding ill_formed
loop-i-init c = refl

pub returns-then-n-eq0 : goal.returns-then-n-eq0
returns-then-n-eq0 c =
    let n = character_at c.args.line.now c.loop-i.i _ _ c.table-rows.ensures.0 c.character-n.ensures in
    sym (c.loop-i.invariant ∙ ill-stop _ _ c.loop-i-test.true (n ∙ c.if-n-eq0.true))

pub overflow_add-i : goal.overflow_add-i
overflow_add-i c =
    let n = character_at c.args.line.now c.loop-i.i _ _ c.table-rows.ensures.0 c.character-n.ensures in
    omega (arith, character-room _ _ _ c.loop-i-test.true n)

pub loop-i-preserved : goal.loop-i-preserved
loop-i-preserved c =
    let n = character_at c.args.line.now c.loop-i.i _ _ c.table-rows.ensures.0 c.character-n.ensures in
    c.loop-i.invariant ∙ ill-step _ _ _ c.loop-i-test.true n c.if-n-eq0.false

pub returns : goal.returns
returns c = sym (c.loop-i.invariant ∙ ill-end _ _ c.loop-i-test.false)
