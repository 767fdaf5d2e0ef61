-- One walk over the data lines: the rows of profile k among all are those passed, then those among the rest.
use Rattle.profiles.proofs.ProfileLaws.{Walked}
use Rattle.profiles.proofs.runs.run_of.Given as goal

abbrev pub invariant-loop-row : goal.invariant-loop-row
invariant-loop-row l = Walked l.s l.kinds l.start l.n l.k l.at l.row l.label l.last l.run
