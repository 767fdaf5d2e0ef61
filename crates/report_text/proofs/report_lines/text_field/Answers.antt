use Rattle.pages.proofs.PageLaws.{put-after}
use Rattle.report_text.proofs.report_lines.text_field.Goals as goal

pub returns : goal.returns
returns c =
    put-after _ _ _ _ _ _ _ _ c.put-at.ensures c.put.ensures
