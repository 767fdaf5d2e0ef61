use Rattle.pochahuic_columns.proofs.NumberLaws.{named_answered}
use Rattle.pochahuic_columns.proofs.pochahuic_column_named.Goals as goal

pub returns : goal.returns
returns c =
    let w = named_answered c.column_named-n.result _ c.column_named-n.ensures in
    record { value = w.0; out_after = w.1 }
