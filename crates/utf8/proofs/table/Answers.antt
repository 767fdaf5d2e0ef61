use mathlib.Core.Path.{refl}
use Rattle.utf8.specs.Rows.{ranges_at, row_in, rows_from}
use Rattle.utf8.proofs.table.Goals as goal

pub returns : goal.returns
unfolding rows_from row_in ranges_at
returns c = (refl, refl)
