use Rattle.report_text.specs.Report.{profile_line}
use Rattle.pages.proofs.PageLaws.{put-after}
use Rattle.report_text.proofs.report_lines.put_profile.Goals as goal

pub returns : goal.returns
unfolding profile_line
returns c =
    let p = c.profile-p.ensures in
    rw (← p)
    (put-after _ _ _ _ _ _ _ _ c.put-a.ensures
    (put-after _ _ _ _ _ _ _ _ c.number_field-b.ensures
    (put-after _ _ _ _ _ _ _ _ c.number_field-c.ensures
    (put-after _ _ _ _ _ _ _ _ c.station_field-d.ensures
    (put-after _ _ _ _ _ _ _ _ c.station_field-e.ensures
    (put-after _ _ _ _ _ _ _ _ c.number_field-f.ensures c.put.ensures))))))
