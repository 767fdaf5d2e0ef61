use mathlib.Core.Path.{sym}
use lib.Seq.{length-take-le}
use Rattle.report_text.proofs.FitLaws.{report-laid, read_says, page_longer}
use Rattle.report_text.proofs.report_page.Goals as goal

pub returns : goal.returns
returns c =
    let a = c.args in
    let w = report-laid _ _ _ _ c.told-room c.report_first.ensures in
    let p = page_longer _ _ _ _ w.0 w.1 in
    record {
      value = w.0;
      room_after = w.1;
      read_says = read_says a.input.now a.n c.told-input;
      prefix_len = (p, sym (length-take-le _ _ p));
    }
