-- The loop's invariant: the cell that goes on at p ends where that at i does.
use mathlib.Core.Path.{refl, sym, ◌∙◌}
use native.Mathlib.Omega.{arith}
use borrow.Author.Rules.{rules}
use Rattle.line_bytes.proofs.CellLaws.{stop-inside, cell_end_in, cell_end-end}
use Rattle.cells.proofs.ScanLaws.{stop_on}
use Rattle.cells.proofs.scans.Line.text_end.Goals as goal

pub loop-p-init : goal.loop-p-init
loop-p-init c = (search rules, search rules, refl)

pub loop-p-smaller : goal.loop-p-smaller
loop-p-smaller c =
    omega (arith, stop-inside (stop_on c.args.self c.loop-p.invariant.1) (sym c.ends.ensures ∙ c.loop-p-test.true))

pub loop-p-preserved : goal.loop-p-preserved
loop-p-preserved c =
    let d = sym c.ends.ensures ∙ c.loop-p-test.true in
    let l = stop-inside (stop_on c.args.self c.loop-p.invariant.1) d in
    (omega arith, omega (arith, l), c.loop-p.invariant.2 ∙ cell_end_in _ _ (omega arith) _ d)

pub returns : goal.returns
returns c =
    (sym (c.loop-p.invariant.2 ∙ cell_end-end _ _ (omega arith) _ (sym c.ends.ensures ∙ c.loop-p-test.false)), omega arith)
