use mathlib.Core.Path.{refl}
use Rattle.pochahuic.proofs.place_numbers.Goals as goal

pub returns : goal.returns
returns c = refl
