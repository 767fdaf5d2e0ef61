use Rattle.report_text.specs.Report.{accepted_line}
use Rattle.pages.proofs.PageLaws.{put-after}
use Rattle.report_text.proofs.report_lines.put_accepted.Goals as goal

pub returns : goal.returns
unfolding accepted_line
returns c =
    put-after _ _ _ _ _ _ _ _ c.put-a.ensures (put-after _ _ _ _ _ _ _ _ c.kind_field-b.ensures (put-after _ _ _ _ _ _ _ _ c.number_field-d.ensures (put-after _ _ _ _ _ _ _ _ c.number_field-e.ensures (put-after _ _ _ _ _ _ _ _ c.number_field-f.ensures (put-after _ _ _ _ _ _ _ _ c.number_field-g.ensures c.put.ensures)))))
