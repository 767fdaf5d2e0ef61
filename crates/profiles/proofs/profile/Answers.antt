use Rattle.profiles.proofs.RecordLaws.{record-given}
use Rattle.profiles.proofs.profile.Goals as goal

pub returns : goal.returns
returns c =
    let w = c.in-Ok.ensures in
    record-given _ _ _ _ w.1 _ _ _
    (c.time_in.ensures _ (c.station_value-time.ensures w.0 w.1.values))
    (c.number_in.ensures _ (c.station_value-castno.ensures w.0 w.1.values))
    (c.number_in-2.ensures _ (c.station_value-date.ensures w.0 w.1.values))
