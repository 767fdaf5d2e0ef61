use mir.Syntax.{w64}
use mir.Val.{to_z, of_z}
use mathlib.Core.Path.{◌≡◌}
use Rattle.whole_columns.proofs.FillingLaws.{entry-present, entry-missing, entry-refused}
use Rattle.text.proofs.DoubleLaws.{nought}
use borrow.Author.Rules.{rules}
use Rattle.whole_columns.proofs.filling.entry_for.Goals as goal

pub returns-in-Present : goal.returns-in-Present
returns-in-Present c =
    let back : to_z w64 (of_z w64 c.in-Present.millionths) ≡ c.in-Present.millionths = search rules in
    entry-present _ _ _ c.in-Present.is _ back

pub returns-in-Missing : goal.returns-in-Missing
returns-in-Missing c = entry-missing _ _ nought c.in-Missing.is

pub returns-in-Refused : goal.returns-in-Refused
returns-in-Refused c = entry-refused _ _ nought _ _ _ c.in-Refused.is
