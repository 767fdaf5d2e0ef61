-- The = of the whole line is that of what is left of it.
use mathlib.Core.Path.{◌≡◌, refl, sym, ◌∙◌}
use native.Mathlib.Omega.{arith}
use borrow.Author.Tests.{eq-eqb, ne_eqb}
use Rattle.line_bytes.proofs.CellLaws.{cell_end_in, cell_end-end}
use Rattle.headers.proofs.HeaderLaws.{equals-end, equals_past}
use Rattle.headers.proofs.equals_from.Goals.{then-s-i-eq61-via-then-s-i-eq61, then-s-i-eq61-via-else-s-i-eq61+then-s-i-eq10}
use Rattle.headers.proofs.equals_from.Goals as goal

pub loop-i-init : goal.loop-i-init
loop-i-init c = (omega arith, refl)

pub returns-then-s-i-eq61 : goal.returns-then-s-i-eq61
returns-then-s-i-eq61 c =
    equals-end _ _ _ (sym (c.loop-i.invariant.1 ∙ cell_end-end _ _ (omega arith) _
    (elim c.then-s-i-eq61.branch [
      | then-s-i-eq61-via-then-s-i-eq61 w ↦ rw (eq-eqb _ 61 w.if-s-i-eq61.true) refl
      | then-s-i-eq61-via-else-s-i-eq61+then-s-i-eq10 w ↦ rw (ne_eqb _ 61 w.if-s-i-eq61.false, eq-eqb _ 10 w.if-s-i-eq10.true) refl
    ])))

pub loop-i-preserved : goal.loop-i-preserved
loop-i-preserved c = (omega arith, c.loop-i.invariant.1 ∙ cell_end_in _ _ (omega arith) _ (rw (ne_eqb _ 61 c.if-s-i-eq61.false, ne_eqb _ 10 c.if-s-i-eq10.false) refl))

pub returns : goal.returns
returns c =
    let m : c.max.result ≡ c.loop-i.i = omega (arith, c.max.ensures) in
    m ∙ equals-end _ _ _ (sym (c.loop-i.invariant.1 ∙ equals_past _ _ c.loop-i-test.false))
