-- The loop's invariant: the cell that goes on at p ends where that at i does.
use mathlib.Core.Path.{refl, sym, ◌∙◌}
use native.Mathlib.Omega.{arith}
use Rattle.line_bytes.proofs.CellLaws.{cell_end_in, cell_end-end}
use Rattle.format.proofs.GridWalkLaws.{end_past}
use Rattle.grid.proofs.cell_end.Goals as goal

pub loop-p-init : goal.loop-p-init
loop-p-init c = (omega arith, refl)

pub returns-then-s-p : goal.returns-then-s-p
returns-then-s-p c = sym (c.loop-p.invariant.1 ∙ cell_end-end _ _ (omega arith) _ c.if-s-p.true)

pub loop-p-preserved : goal.loop-p-preserved
loop-p-preserved c = (omega arith, c.loop-p.invariant.1 ∙ cell_end_in _ _ (omega arith) _ c.if-s-p.false)

pub returns : goal.returns
returns c = sym (c.loop-p.invariant.1 ∙ end_past _ _ c.loop-p-test.false)
