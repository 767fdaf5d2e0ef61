use mathlib.Core.Path.{◌∙◌, sym}
use native.Mathlib.Omega.{arith}
use Rattle.utf8.specs.Rows.{row_in}
use Rattle.utf8.proofs.RowLaws.{row-length, takes_first, takes-short, takes_out, takes-on, takes_all}
use Rattle.utf8.proofs.takes.Goals as goal

pub returns-then-text-n : goal.returns-then-text-n
returns-then-text-n c =
    sym (takes-short (row_in c.args.row.now) _ (rw c.length_of-n.ensures at c.if-text-n.true))

pub loop-j-init : goal.loop-j-init
loop-j-init c =
    (omega (arith, c.length_of-n.ensures, row-length c.args.row.now), c.if-text-n.false, takes_first _ _ _ c.length_of-n.ensures)

pub returns-then-not-within : goal.returns-then-not-within
returns-then-not-within c =
    let v = c.loop-j.invariant in
    sym (v.2 ∙ takes_out _ _ _ _ c.loop-j-test.true (omega (arith, c.loop-j-test.true, v.1)) (sym c.within.ensures ∙ c.if-not-within.true))

pub loop-j-preserved : goal.loop-j-preserved
loop-j-preserved c =
    let v = c.loop-j.invariant in
    (v.0, v.1, v.2 ∙ takes-on _ _ _ _ c.loop-j-test.true (omega (arith, c.loop-j-test.true, v.1)) (sym c.within.ensures ∙ c.if-not-within.false))

pub returns : goal.returns
returns c = let v = c.loop-j.invariant in sym (v.2 ∙ takes_all _ _ _ _ c.loop-j-test.false)
