-- The file is opened, then the row's line and the column's cell are found.
use mathlib.Core.Path.{◌∙◌}
use Rattle.std.proofs.lemmas.Result.{err_from_is_err_and}
use Rattle.exchange.proofs.CellLaws.{ask-refused, ask-missed, ask-found}
use Rattle.exchange.proofs.finding.find_cell.Goals as goal

pub returns-in_err-o : goal.returns-in_err-o
returns-in_err-o c =
    let p = err_from_is_err_and c.from_residual.result c.from_residual.ensures.1 in
    let q = c.in_err-o.ensures in
    rw (p.1, p.2, q.1) (ask-refused _ _ _ _ c.open_file.ensures q.0)

pub returns-then-row-checked : goal.returns-then-row-checked
returns-then-row-checked c =
    let q = c.in_ok-o.ensures in
    rw c.nowhere.ensures (ask-missed _ _ _ _ (q.0 ∙ c.open_file.ensures) q.1 c.if-row-checked.true)

pub returns : goal.returns
returns c =
    let q = c.in_ok-o.ensures in
    ask-found _ _ _ _ (q.0 ∙ c.open_file.ensures) q.1 c.if-row-checked.false _ _ _ _ c.line_start-at.ensures c.line_end.ensures c.kind_in.ensures c.cell_span.ensures
