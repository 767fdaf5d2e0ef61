use mathlib.Core.Path.{refl, sym, ◌∙◌}
use native.Mathlib.Omega.{arith}
use Rattle.pages.proofs.PageLaws.{byte-room, text-end, text-step}
use Rattle.pages.proofs.put.Goals as goal

pub loop-b-init : goal.loop-b-init
loop-b-init c = (omega arith, refl, refl)

pub loop-b-preserved : goal.loop-b-preserved
loop-b-preserved c =
    let i = c.loop-b-test.true in
    (omega arith, byte-room _ _ _ _ _ c.put_byte-end.ensures ∙ c.loop-b.invariant.1, c.loop-b.invariant.2 ∙ text-step _ _ _ i ∙ rw (← c.put_byte-end.ensures))

pub shape_of-room : goal.shape_of-room
shape_of-room c = c.loop-b.invariant.1

pub returns : goal.returns
returns c = sym (c.loop-b.invariant.2 ∙ text-end _ _ _ c.loop-b-test.false c.loop-b.invariant.0)
