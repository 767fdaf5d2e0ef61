use Rattle.pochahuic.proofs.NumberLaws.{profile_answered}
use Rattle.pochahuic.proofs.pochahuic_profile.Goals as goal

pub returns : goal.returns
returns c =
    let w = profile_answered c.profile-p.result _ c.profile-p.ensures _ c.time_numbers-time.ensures in
    record { value = w.0; out_after = w.1 }
