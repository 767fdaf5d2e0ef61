-- The columns passed have their kinds, and rule 12 goes on from the present name.
use Rattle.line_bytes.specs.Cells.{pieces, line_at}
use Rattle.columns.proofs.ColumnLaws.{Kinded}
use Rattle.columns.proofs.kinds_of.Given as goal

abbrev pub invariant-loop-k : goal.invariant-loop-k
invariant-loop-k l = Kinded (pieces 44 (line_at l.s l.at)) l.k l.kinds
