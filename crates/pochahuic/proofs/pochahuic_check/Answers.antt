use Rattle.pochahuic.proofs.NumberLaws.{check_answered}
use Rattle.pochahuic.proofs.pochahuic_check.Goals as goal

pub returns : goal.returns
returns c =
    let w = check_answered c.check-c.result _ c.check-c.ensures _ c.kind_number-kind.ensures in
    record { value = w.0; out_after = w.1 }
