use Rattle.format.proofs.LabelLaws.{name-fits}
use Rattle.labels.proofs.name_of.Goals as goal

pub hand_out-requires : goal.hand_out-requires
hand_out-requires c = rw c.name_place.ensures (name-fits _ _)
