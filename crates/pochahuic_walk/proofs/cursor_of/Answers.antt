use mathlib.Core.Path.{refl}
use Rattle.pochahuic_walk.proofs.cursor_of.Goals as goal

pub returns : goal.returns
returns c = refl
