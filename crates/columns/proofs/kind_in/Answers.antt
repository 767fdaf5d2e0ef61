-- The kind of the column's name.
use Rattle.columns.proofs.AskedLaws.{kind_of-column}
use Rattle.columns.proofs.kind_in.Goals as goal

pub returns : goal.returns
returns c = kind_of-column _ _ _ c.name_in.ensures _ c.kind_of_name.ensures
