use Rattle.pages.specs.Pages.{lay}
use Rattle.report_text.proofs.report_lines.kind_field.Goals as goal

pub returns-in-Bottle : goal.returns-in-Bottle
returns-in-Bottle c = rw c.in-Bottle.is c.text_field.ensures

pub returns-in-Ctd : goal.returns-in-Ctd
returns-in-Ctd c = rw c.in-Ctd.is c.text_field-in-Ctd.ensures

pub returns-in-Unknown : goal.returns-in-Unknown
unfolding lay
returns-in-Unknown c = rw c.in-Unknown.is
