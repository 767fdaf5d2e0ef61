use mathlib.Core.Path.{◌∙◌, sym}
use Rattle.utf8.proofs.RowLaws.{row-length}
use Rattle.utf8.proofs.length_of.Goals as goal

pub returns : goal.returns
returns c = c.min.ensures ∙ sym (row-length c.args.row.now)
