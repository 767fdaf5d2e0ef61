-- The cells passed are placed, and the rest of the line has the others.
use Rattle.columns.proofs.NamesLineLaws.{Walked}
use Rattle.columns.proofs.cells_of.Given as goal

abbrev pub invariant-loop-k : goal.invariant-loop-k
invariant-loop-k l = Walked l.s l.at l.i l.k l.places
