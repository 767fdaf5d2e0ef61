use Prim.Native.Nat.{ℕ}
use mathlib.Core.Path.{refl, ap}
use native.Mathlib.Nat.{add_comm, add-sub_cancel_left}
use native.Mathlib.Omega.{arith}
use lib.ListN.{take, drop}
use Rattle.orders.proofs.ListLineLaws.{name-within}
use Rattle.list_lines.proofs.name_in_line.Goals as goal

pub overflow_add-result : goal.overflow_add-result
overflow_add-result c = omega (arith, name-within _ _ c.read_list_line-l.ensures)

pub slice_bounds-result-end : goal.slice_bounds-result-end
slice_bounds-result-end c = name-within _ _ c.read_list_line-l.ensures

pub returns : goal.returns
returns c =
    let s = c.args.line in
    let p = c.read_list_line-l.result.name in
    rw (← c.read_list_line-l.ensures)
    (record { block = refl; offset = add_comm _ _; content = ap (λ (k : ℕ). take k (drop p.start s.now)) (add-sub_cancel_left p.start p.len) })
