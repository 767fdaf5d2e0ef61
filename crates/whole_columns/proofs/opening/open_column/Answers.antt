use mathlib.Core.Path.{sym, ◌∙◌}
use native.Mathlib.Omega.{arith}
use Rattle.std.proofs.lemmas.Result.{err_from_is_err_and}
use Rattle.whole_columns.proofs.OpeningLaws.{file-refused, column-absent, column-other, table-short, column-found}
use Rattle.whole_columns.proofs.opening.open_column.Goals as goal

pub returns-in_err-o : goal.returns-in_err-o
returns-in_err-o c =
    let p = err_from_is_err_and c.from_residual.result c.from_residual.ensures.1 in
    let q = c.in_err-o.ensures in
    rw (p.1, p.2, q.1) (file-refused _ _ _ _ _ c.open_file.ensures q.0)

pub returns-then-column-c : goal.returns-then-column-c
returns-then-column-c c =
    let q = c.in_ok-o.ensures in
    rw c.nowhere.ensures (column-absent _ _ _ _ _ (q.0 ∙ c.open_file.ensures) q.1 c.if-column-c.true)

pub returns-then-not-is_read : goal.returns-then-not-is_read
returns-then-not-is_read c =
    let q = c.in_ok-o.ensures in
    rw c.nowhere-then-not-is_read.ensures (column-other _ _ _ _ _ (q.0 ∙ c.open_file.ensures) q.1 c.if-column-c.false _ c.kind_in-kind.ensures (sym c.is_read.ensures ∙ c.if-not-is_read.true))

pub returns-then-room-c : goal.returns-then-room-c
returns-then-room-c c =
    let q = c.in_ok-o.ensures in
    rw c.nowhere-then-room-c.ensures (table-short _ _ _ _ _ (q.0 ∙ c.open_file.ensures) q.1 c.if-column-c.false _ c.kind_in-kind.ensures (sym c.is_read.ensures ∙ c.if-not-is_read.false) (omega (arith, c.if-room-c.true)))

pub returns : goal.returns
returns c =
    let q = c.in_ok-o.ensures in
    column-found _ _ _ _ _ (q.0 ∙ c.open_file.ensures) q.1 c.if-column-c.false _ c.kind_in-kind.ensures (sym c.is_read.ensures ∙ c.if-not-is_read.false) (omega (arith, c.if-room-c.false))
