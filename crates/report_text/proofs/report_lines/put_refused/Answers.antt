use Rattle.report_text.specs.Report.{refused_line}
use Rattle.pages.proofs.PageLaws.{put-after}
use Rattle.report_text.proofs.report_lines.put_refused.Goals as goal

pub returns : goal.returns
unfolding refused_line
returns c =
    put-after _ _ _ _ _ _ _ _ c.put-a.ensures (put-after _ _ _ _ _ _ _ _ c.number_field-b.ensures (put-after _ _ _ _ _ _ _ _ c.number_field-d.ensures (put-after _ _ _ _ _ _ _ _ c.number_field-e.ensures c.put.ensures)))
