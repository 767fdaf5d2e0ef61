use mathlib.Core.Path.{sym}
use native.Mathlib.Omega.{arith}
use Rattle.line_bytes.proofs.CellLaws.{cell_end_from}
use Rattle.format.proofs.GridWalkLaws.{span_own}
use Rattle.grid.proofs.first_span.Goals as goal

pub overflow_sub-result : goal.overflow_sub-result
overflow_sub-result c = let a = c.args in omega (arith, c.cell_end-q.ensures, cell_end_from 44 a.s.now a.i)

pub returns : goal.returns
returns c = let a = c.args in sym (span_own a.s.now a.i c.cell_end-q.result c.cell_end-q.ensures)
