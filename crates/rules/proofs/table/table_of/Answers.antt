-- The lines before the names line, it and the units line, the data lines and those after them.
use mathlib.Core.Path.{sym, ◌∙◌}
use native.Mathlib.Omega.{arith}
use lib.Seq.{length-take-le}
use Rattle.format.specs.Places.{after}
use Rattle.rules.specs.Inner.Free.{ended}
use Rattle.columns.proofs.ColumnLaws.{columns-read}
use Rattle.rules.proofs.ExitLaws.{goes-on, ends, exit}
use Rattle.rules.proofs.TableLaws.{after-all, due-goes, units_due, units-other, units-on, kinds-room, names_due, names-refused, names-on, columns_of, table_at, file_told}
use Rattle.rules.proofs.table.table_of.Goals as goal

pub returns-in_err-units : goal.returns-in_err-units
returns-in_err-units c =
    let w = rw c.in_ok-top.was at c.read_top.ensures in
    rw (exit _ _ c.from_residual-in_err-units.ensures.1) (w.3.on ∙ names_due _ _ _ _ _ (sym c.due_line.ensures ∙ c.in_err-units.was))

pub returns-in_err-columns : goal.returns-in_err-columns
returns-in_err-columns c =
    let w = rw c.in_ok-top.was at c.read_top.ensures in
    let u = due-goes _ _ _ (sym c.due_line.ensures ∙ c.in_ok-units.was) in
    let e = ends _ _ c.from_residual-in_err-columns.result _ _ c.on_line.ensures c.in_err-columns.was c.from_residual-in_err-columns.ensures.1 in
    let x = columns_of w.0 _ _ _ _ w.3.kind c.eq.ensures c.read_columns.ensures in
    rw e.2 (w.3.on ∙ names-refused _ _ _ _ _ u _ (x ∙ e.1))

pub due_line-requires-2 : goal.due_line-requires-2
due_line-requires-2 c =
    let w = rw c.in_ok-top.was at c.read_top.ensures in
    let u = due-goes _ _ _ (sym c.due_line.ensures ∙ c.in_ok-units.was) in
    omega (arith, w.3.inside, u.inside, u.counted)

pub returns-in_err-data : goal.returns-in_err-data
returns-in_err-data c =
    let w = rw c.in_ok-top.was at c.read_top.ensures in
    let u = due-goes _ _ _ (sym c.due_line.ensures ∙ c.in_ok-units.was) in
    let x = columns-read _ _ _ (columns_of w.0 _ _ _ _ w.3.kind c.eq.ensures c.read_columns.ensures ∙ goes-on _ _ _ _ c.on_line.ensures c.in_ok-columns.was) in
    rw (exit _ _ c.from_residual-in_err-data.ensures.1) (w.3.on ∙ names-on _ _ _ _ _ u _ x ∙ units_due _ _ _ _ _ _ (sym c.due_line-2.ensures ∙ c.in_err-data.was))

pub returns-then-cell_count-columns : goal.returns-then-cell_count-columns
returns-then-cell_count-columns c =
    let w = rw c.in_ok-top.was at c.read_top.ensures in
    let u = due-goes _ _ _ (sym c.due_line.ensures ∙ c.in_ok-units.was) in
    let x = columns-read _ _ _ (columns_of w.0 _ _ _ _ w.3.kind c.eq.ensures c.read_columns.ensures ∙ goes-on _ _ _ _ c.on_line.ensures c.in_ok-columns.was) in
    let e = due-goes _ _ _ (sym c.due_line-2.ensures ∙ c.in_ok-data.was) in
    w.3.on ∙ names-on _ _ _ _ _ u _ x ∙ units-other _ _ _ _ _ _ e _ c.cell_count.ensures (λ z. c.if-cell_count-columns.true (z ∙ sym x.many))

pub shared_ref_as_front-read_data : goal.shared_ref_as_front-read_data
shared_ref_as_front-read_data c =
    let w = rw c.in_ok-top.was at c.read_top.ensures in
    let x = columns-read _ _ _ (columns_of w.0 _ _ _ _ w.3.kind c.eq.ensures c.read_columns.ensures ∙ goes-on _ _ _ _ c.on_line.ensures c.in_ok-columns.was) in
    x.few

pub slice_bounds-read_data-end : goal.slice_bounds-read_data-end
slice_bounds-read_data-end c =
    let w = rw c.in_ok-top.was at c.read_top.ensures in
    let x = columns-read _ _ _ (columns_of w.0 _ _ _ _ w.3.kind c.eq.ensures c.read_columns.ensures ∙ goes-on _ _ _ _ c.on_line.ensures c.in_ok-columns.was) in
    sym (length-take-le _ _ (kinds-room x))

pub read_data-requires : goal.read_data-requires
read_data-requires c =
    let w = rw c.in_ok-top.was at c.read_top.ensures in
    let u = due-goes _ _ _ (sym c.due_line.ensures ∙ c.in_ok-units.was) in
    let x = columns-read _ _ _ (columns_of w.0 _ _ _ _ w.3.kind c.eq.ensures c.read_columns.ensures ∙ goes-on _ _ _ _ c.on_line.ensures c.in_ok-columns.was) in
    let e = due-goes _ _ _ (sym c.due_line-2.ensures ∙ c.in_ok-data.was) in
    let n = length-take-le _ _ (kinds-room x) in
    (e.inside.1, omega (arith, w.3.inside, u.inside, u.counted, e.inside, e.counted), omega (arith, n, x.many), omega (arith, n, x.few))

pub returns-in_err-d : goal.returns-in_err-d
returns-in_err-d c =
    let w = rw c.in_ok-top.was at c.read_top.ensures in
    let u = due-goes _ _ _ (sym c.due_line.ensures ∙ c.in_ok-units.was) in
    let x = columns-read _ _ _ (columns_of w.0 _ _ _ _ w.3.kind c.eq.ensures c.read_columns.ensures ∙ goes-on _ _ _ _ c.on_line.ensures c.in_ok-columns.was) in
    let e = due-goes _ _ _ (sym c.due_line-2.ensures ∙ c.in_ok-data.was) in
    let r = rw c.in_err-d.was at c.read_data.ensures in
    rw (exit _ _ c.from_residual-in_err-d.ensures.1)
    (w.3.on ∙ names-on _ _ _ _ _ u _ x ∙ units-on _ _ _ _ _ _ e _ c.cell_count.ensures (c.if-cell_count-columns.false ∙ x.many) ∙ r _ (sym x.kinds))

pub free_lines-requires : goal.free_lines-requires
free_lines-requires c =
    let w = rw c.in_ok-top.was at c.read_top.ensures in
    let u = due-goes _ _ _ (sym c.due_line.ensures ∙ c.in_ok-units.was) in
    let e = due-goes _ _ _ (sym c.due_line-2.ensures ∙ c.in_ok-data.was) in
    let r = rw c.in_ok-d.was at c.read_data.ensures in
    (r.inside.1, omega (arith, w.3.inside, u.inside, u.counted, e.inside, e.counted, r.inside, r.few))

pub returns-in_err-free_lines : goal.returns-in_err-free_lines
returns-in_err-free_lines c =
    let w = rw c.in_ok-top.was at c.read_top.ensures in
    let u = due-goes _ _ _ (sym c.due_line.ensures ∙ c.in_ok-units.was) in
    let x = columns-read _ _ _ (columns_of w.0 _ _ _ _ w.3.kind c.eq.ensures c.read_columns.ensures ∙ goes-on _ _ _ _ c.on_line.ensures c.in_ok-columns.was) in
    let e = due-goes _ _ _ (sym c.due_line-2.ensures ∙ c.in_ok-data.was) in
    let r = rw c.in_ok-d.was at c.read_data.ensures in
    let f = rw c.in_err-free_lines.was at c.free_lines.ensures in
    rw (exit _ _ c.from_residual-in_err-free_lines.ensures.1)
    (w.3.on ∙ names-on _ _ _ _ _ u _ x ∙ units-on _ _ _ _ _ _ e _ c.cell_count.ensures (c.if-cell_count-columns.false ∙ x.many) ∙ r.on _ (sym x.kinds)
    ∙ f (after _ _) ended)

pub returns : goal.returns
returns c =
    let w = rw c.in_ok-top.was at c.read_top.ensures in
    let u = due-goes _ _ _ (sym c.due_line.ensures ∙ c.in_ok-units.was) in
    let x = columns-read _ _ _ (columns_of w.0 _ _ _ _ w.3.kind c.eq.ensures c.read_columns.ensures ∙ goes-on _ _ _ _ c.on_line.ensures c.in_ok-columns.was) in
    let e = due-goes _ _ _ (sym c.due_line-2.ensures ∙ c.in_ok-data.was) in
    let r = rw c.in_ok-d.was at c.read_data.ensures in
    let f = rw c.in_ok-free_lines.was at c.free_lines.ensures in (
      table_at w.0 w.1 c.args.s.now c.in_ok-top.top.names.at c.in_ok-units.units.line,
      file_told _ c.in_ok-top.top _ _ _ w.3 c.in_ok-units.units u c.in_ok-columns.columns x c.in_ok-data.data e c.in_ok-d.d r
          (w.3.on ∙ names-on _ _ _ _ _ u _ x ∙ units-on _ _ _ _ _ _ e _ c.cell_count.ensures (c.if-cell_count-columns.false ∙ x.many) ∙ r.on _ (sym x.kinds)
          ∙ after-all _ _ _ f _ _),
    )
