use mathlib.Core.Path.{refl}
use Rattle.text.specs.Catalogue.{listed, base256, insert, ordered, flat, names}
use Rattle.text.proofs.catalogue_names.Goals as goal

pub returns : goal.returns
unfolding names flat ordered listed insert base256
returns c = refl
