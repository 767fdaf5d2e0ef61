use Rattle.pochahuic.proofs.NumberLaws.{place_answered}
use Rattle.pochahuic_columns.proofs.pochahuic_name.Goals as goal

pub returns : goal.returns
returns c =
    let w = place_answered c.name_place-at.result _ c.name_place-at.ensures _ c.place_numbers.ensures in
    record { value = w.0; out_after = w.1 }
