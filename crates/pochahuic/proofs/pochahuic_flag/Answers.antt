use Rattle.pochahuic.proofs.NumberLaws.{flag_answered}
use Rattle.pochahuic.proofs.pochahuic_flag.Goals as goal

pub returns : goal.returns
returns c =
    let w = flag_answered c.flag-f.result _ c.flag-f.ensures in
    record { value = w.0; out_after = w.1 }
