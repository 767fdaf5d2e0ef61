use Prim.Native.Nat.{ℕ}
use mathlib.Core.Path.{refl, ap}
use native.Mathlib.Nat.{add_comm, add-sub_cancel_left}
use native.Mathlib.Omega.{arith}
use lib.ListN.{take, drop}
use Rattle.line_bytes.proofs.SpaceLaws.{span_fits}
use Rattle.line_bytes.proofs.trimmed.Goals as goal

pub overflow_add-result : goal.overflow_add-result
overflow_add-result c = omega (arith, span_fits _ _ _ _ c.trim_span-start.ensures)

pub slice_bounds-result-end : goal.slice_bounds-result-end
slice_bounds-result-end c = span_fits _ _ _ _ c.trim_span-start.ensures

pub returns : goal.returns
returns c =
    let s = c.args.s in
    let p = c.trim_span-start.result in
    rw (← c.trim_span-start.ensures)
    (record { block = refl; offset = add_comm _ _; content = ap (λ (k : ℕ). take k (drop p.start s.now)) (add-sub_cancel_left p.start p.len) })
