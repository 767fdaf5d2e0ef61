use Rattle.pages.proofs.PageLaws.{put-after}
use Rattle.report_text.proofs.ReportLaws.{lay_along, report-long, report-refused, report-accepted}
use Rattle.report_text.proofs.report.Goals as goal

pub returns-then-file-gt-MOST_BYTES : goal.returns-then-file-gt-MOST_BYTES
returns-then-file-gt-MOST_BYTES c =
    lay_along _ _ _ _ (report-long _ c.if-file-gt-MOST_BYTES.true) c.put.ensures

pub returns-then-c-ne0 : goal.returns-then-c-ne0
returns-then-c-ne0 c =
    lay_along _ _ _ _ (report-refused _ c.if-file-gt-MOST_BYTES.false _ c.check-c.ensures c.if-c-ne0.true) c.put_refused.ensures

pub returns : goal.returns
returns c =
    lay_along _ _ _ _ (report-accepted _ c.if-file-gt-MOST_BYTES.false _ c.check-c.ensures c.if-c-ne0.false)
    (put-after _ _ _ _ _ _ _ _ c.put_accepted-at.ensures c.put_profiles.ensures)
