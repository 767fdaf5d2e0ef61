use Rattle.whole_columns.proofs.FillingLaws.{Filling}
use Rattle.whole_columns.proofs.filling.fill_values.Given as goal

abbrev pub invariant-loop-k : goal.invariant-loop-k
invariant-loop-k l =
    Filling l.file l.found.rows l.found.column l.initial.cases l.initial.millionths l.initial.values l.cases l.millionths l.values l.at l.k
