use Rattle.format.proofs.LabelLaws.{header-fits}
use Rattle.labels.proofs.header_value.Goals as goal

pub hand_out-requires : goal.hand_out-requires
hand_out-requires c = rw (c.header_part.ensures, c.header_place-h.ensures) (header-fits _ _).1
