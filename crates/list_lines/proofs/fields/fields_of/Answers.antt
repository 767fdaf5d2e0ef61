use mathlib.Core.Path.{refl}
use mathlib.Core.Bool.{true, false}
use native.Mathlib.Omega.{arith}
use Rattle.orders.proofs.OneLineLaws.{one-ends}
use Rattle.orders.proofs.ListLineLaws.{name_from, name-to, fields_read_lem, millionths-back}
use Rattle.list_lines.proofs.fields.fields_of.Goals as goal

pub overflow_sub-e : goal.overflow_sub-e
overflow_sub-e c = omega (arith, (one-ends _ c.requires).room)

pub bounds-line-0 : goal.bounds-line-0
bounds-line-0 c = omega (arith, (one-ends _ c.requires).room)

pub slice_bounds-is_name-count : goal.slice_bounds-is_name-count
slice_bounds-is_name-count c = name_from (one-ends _ c.requires) c.whole-row.ensures c.after-start.ensures c.judge-name.ensures

pub slice_bounds-is_name-start : goal.slice_bounds-is_name-start
slice_bounds-is_name-start c = name_from (one-ends _ c.requires) c.whole-row.ensures c.after-start.ensures c.judge-name.ensures

pub slice_bounds-is_name-end : goal.slice_bounds-is_name-end
slice_bounds-is_name-end c = name-to (one-ends _ c.requires) c.whole-row.ensures c.after-start.ensures c.judge-name.ensures

pub returns-then-not-is_good-flag : goal.returns-then-not-is_good-flag
returns-then-not-is_good-flag c =
    fields_read_lem (one-ends _ c.requires) c.whole-row.ensures c.after-start.ensures c.judge-name.ensures
    c.after.ensures c.judge-value.ensures c.after-2.ensures c.whole-flag.ensures
    c.is_name-is_name.result false _ c.is_name-is_name.ensures refl c.if-not-is_good-flag.true

pub overflow_sub-result : goal.overflow_sub-result
overflow_sub-result c = name_from (one-ends _ c.requires) c.whole-row.ensures c.after-start.ensures c.judge-name.ensures

pub returns : goal.returns
returns c =
    fields_read_lem (one-ends _ c.requires) c.whole-row.ensures c.after-start.ensures c.judge-name.ensures
    c.after.ensures c.judge-value.ensures c.after-2.ensures c.whole-flag.ensures
    c.is_name-is_name.result true _ c.is_name-is_name.ensures (millionths-back _ _ _ c.signed_size.ensures) c.if-not-is_good-flag.false
