use mathlib.Core.Path.{ap}
use Rattle.report_text.specs.Report.{field}
use Rattle.report_text.proofs.ReportLaws.{lay_along}
use Rattle.report_text.proofs.report_lines.station_field.Goals as goal

pub returns : goal.returns
returns c =
    lay_along _ _ _ _ (ap field c.station.ensures.part.content) c.text_field.ensures
