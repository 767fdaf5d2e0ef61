use mathlib.Core.Path.{refl}
use Rattle.pochahuic_columns.proofs.column_numbers.Goals as goal

pub returns : goal.returns
returns c = refl
