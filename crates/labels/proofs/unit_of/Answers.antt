use Rattle.format.proofs.LabelLaws.{unit-fits}
use Rattle.labels.proofs.unit_of.Goals as goal

pub hand_out-requires : goal.hand_out-requires
hand_out-requires c = rw c.unit_place.ensures (unit-fits _ _)
