-- The run and the counts go on from the rows read.
use mathlib.Core.Path.{sym, ◌∙◌}
use mathlib.Core.Bool.{true, false}
use native.Mathlib.Omega.{arith}
use Rattle.rules.proofs.DataLaws.{so-far-row, so-far-ended, so-far_out, line-held, line-within, line-test, line_refused, line-none, line-end, inside-next}
use Rattle.rules.proofs.ExitLaws.{goes-on, ends}
use Rattle.rules.proofs.data.read_data.Goals as goal

pub returns-in_err-e : goal.returns-in_err-e
returns-in_err-e c =
    let a = c.args in
    let w = ends _ _ c.from_residual.result _ _ c.on_line.ensures c.in_err-e.was c.from_residual.ensures.1 in
    rw w.2 (λ t k. c.loop-d.invariant.on t _ k ∙ line_refused a.s.now a.kinds.now c.loop-d.d w.0 (sym c.line_at.ensures ∙ w.1) c.loop-d-test.true t _)

pub slice_bounds-is_end_data-count : goal.slice_bounds-is_end_data-count
slice_bounds-is_end_data-count c =
    let a = c.args in
    let g = line-held a.s.now c.loop-d.d.at _ (sym c.line_at.ensures ∙ goes-on _ _ _ _ c.on_line.ensures c.in_ok-e.was) in
    (line-within g).0

pub slice_bounds-is_end_data-start : goal.slice_bounds-is_end_data-start
slice_bounds-is_end_data-start c =
    let a = c.args in
    let g = line-held a.s.now c.loop-d.d.at _ (sym c.line_at.ensures ∙ goes-on _ _ _ _ c.on_line.ensures c.in_ok-e.was) in
    omega (arith, line-within g)

pub slice_bounds-is_end_data-end : goal.slice_bounds-is_end_data-end
slice_bounds-is_end_data-end c =
    let a = c.args in
    let g = line-held a.s.now c.loop-d.d.at _ (sym c.line_at.ensures ∙ goes-on _ _ _ _ c.on_line.ensures c.in_ok-e.was) in
    omega (arith, line-within g)

pub returns-then-d-eq0 : goal.returns-then-d-eq0
returns-then-d-eq0 c =
    let a = c.args in
    let g = line-held a.s.now c.loop-d.d.at _ (sym c.line_at.ensures ∙ goes-on _ _ _ _ c.on_line.ensures c.in_ok-e.was) in
    let y = line-test g c.is_end_data.result true c.is_end_data.ensures c.if-is_end_data.true in
    λ t k. c.loop-d.invariant.on t _ k ∙ line-none a.s.now a.kinds.now c.loop-d.d _ g y c.if-d-eq0.true t _

pub returns-then-is_end_data : goal.returns-then-is_end_data
returns-then-is_end_data c =
    let a = c.args in
    let g = line-held a.s.now c.loop-d.d.at _ (sym c.line_at.ensures ∙ goes-on _ _ _ _ c.on_line.ensures c.in_ok-e.was) in
    let y = line-test g c.is_end_data.result true c.is_end_data.ensures c.if-is_end_data.true in
    so-far-ended a.s.now a.kinds.now a.from.at c.loop-d.d c.loop-d.invariant a.from.line _ (inside-next a.s.now a.kinds.now c.loop-d.d _ g)
    (λ t. line-end a.s.now a.kinds.now c.loop-d.d _ g y c.if-d-eq0.false t _)

pub add_row-requires : goal.add_row-requires
add_row-requires c =
    let a = c.args in
    let g = line-held a.s.now c.loop-d.d.at _ (sym c.line_at.ensures ∙ goes-on _ _ _ _ c.on_line.ensures c.in_ok-e.was) in
    (c.loop-d.invariant.held, (g, line-test g c.is_end_data.result false c.is_end_data.ensures c.if-is_end_data.false), c.requires.2, c.requires.3)

pub loop-d-preserved : goal.loop-d-preserved
loop-d-preserved c =
    let a = c.args in
    so-far-row a.s.now a.kinds.now a.from.at c.loop-d.d c.loop-d.invariant c.add_row.new.d (rw (goes-on _ _ _ _ c.on_line-in-loop-d.ensures c.in_ok-on_line.was) at c.add_row.ensures)

pub returns : goal.returns
returns c =
    let a = c.args in
    rw c.line_due.ensures (λ t k. so-far_out a.s.now a.kinds.now a.from.at c.loop-d.d c.loop-d.invariant a.from.line c.loop-d-test.false t k)
