use Rattle.pochahuic.proofs.NumberLaws.{place_answered}
use Rattle.pochahuic_places.proofs.pochahuic_cell_in.Goals as goal

pub returns : goal.returns
returns c =
    let w = place_answered c.cell_in-cell.result _ c.cell_in-cell.ensures _ c.place_numbers.ensures in
    record { value = w.0; out_after = w.1 }
