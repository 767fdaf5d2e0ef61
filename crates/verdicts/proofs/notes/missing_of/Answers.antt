use mathlib.Core.Path.{◌∙◌}
use Rattle.verdicts.proofs.RowLaws.{share_by}
use Rattle.verdicts.proofs.notes.missing_of.Goals as goal

pub returns : goal.returns
returns c = c.from.ensures ∙ share_by c.args.kind c.args.j
