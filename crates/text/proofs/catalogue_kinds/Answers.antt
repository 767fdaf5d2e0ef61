use mathlib.Core.Path.{refl}
use Rattle.text.specs.Catalogue.{listed, base256, insert, ordered, kinds}
use Rattle.text.proofs.catalogue_kinds.Goals as goal

pub returns : goal.returns
unfolding kinds ordered listed insert base256
returns c = refl
