use mathlib.Core.Path.{◌≡◌}
use Rattle.utf8.specs.Syntax.{character_in}
use Rattle.utf8.specs.Rows.{rows_in}
use Rattle.utf8.proofs.RowLaws.{character_from}
use Rattle.utf8.proofs.character.Given as goal

abbrev pub invariant-loop-row : goal.invariant-loop-row
invariant-loop-row l = character_in (rows_in l.rows) l.text ≡ character_from l.rows l.text l.row-index
