use Rattle.pochahuic_columns.proofs.NumberLaws.{column_answered, filled_along}
use Rattle.pochahuic_columns.proofs.pochahuic_column_flags.Goals as goal

pub returns : goal.returns
returns c =
    let e = c.column_flags-r.ensures in
    let n = column_answered _ _ e.value _ c.column_numbers.ensures in
    record { value = n.0; out_after = n.1; flags_after = filled_along _ _ _ e.value e.flags_after }
