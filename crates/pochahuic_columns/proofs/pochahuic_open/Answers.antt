use mathlib.Core.Path.{refl}
use Rattle.pochahuic.proofs.NumberLaws.{check_answered}
use Rattle.pochahuic_columns.proofs.NumberLaws.{open_answered}
use Rattle.pochahuic_columns.proofs.pochahuic_open.Goals as goal

pub returns : goal.returns
returns c =
    let w = open_answered c.open_file-o.result _ c.open_file-o.ensures _ (check_answered c.open_file-o.result.checked _ refl _ c.kind_number-kind.ensures).1 in
    record { value = w.0; out_after = w.1 }
