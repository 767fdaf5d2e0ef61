use Rattle.pochahuic_columns.proofs.NumberLaws.{header_answered}
use Rattle.pochahuic_columns.proofs.pochahuic_header.Goals as goal

pub returns : goal.returns
returns c =
    let w = header_answered c.header_place-h.result _ c.header_place-h.ensures in
    record { value = w.0; out_after = w.1 }
