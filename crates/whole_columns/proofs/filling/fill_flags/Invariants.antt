use Rattle.whole_columns.proofs.FillingLaws.{Flagging}
use Rattle.whole_columns.proofs.filling.fill_flags.Given as goal

abbrev pub invariant-loop-flag : goal.invariant-loop-flag
invariant-loop-flag l = Flagging l.file l.found.rows l.found.column l.initial.flag-items l.flag-items l.at l.flag-index
