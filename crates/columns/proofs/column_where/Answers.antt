-- No column passed is wanted, and the rest of the line has the others.
use mathlib.Core.Path.{sym, ◌∙◌}
use native.Mathlib.Omega.{arith}
use Rattle.columns.proofs.AskedLaws.{look-room, look-found, look_none, look-next}
use Rattle.columns.proofs.column_where.Goals as goal

pub returns-then-wanted : goal.returns-then-wanted
returns-then-wanted g c =
    λ p h. look-found _ _ _ c.cell_end-q.ensures _ p _ (c.loop-wanted.invariant.1 p h) _ c.trimmed.ensures.content _ (h _ _ c.wanted.ensures) c.if-wanted.true

pub returns-then-ends_line : goal.returns-then-ends_line
returns-then-ends_line g c =
    λ p h. look_none _ _ _ c.cell_end-q.ensures _ p _ (c.loop-wanted.invariant.1 p h) _ c.trimmed.ensures.content _ (h _ _ c.wanted.ensures) c.if-wanted.false (sym c.ends_line.ensures ∙ c.if-ends_line.true)

pub overflow_add-i : goal.overflow_add-i
overflow_add-i g c = omega (arith, look-room _ _ _ c.cell_end-q.ensures (sym c.ends_line.ensures ∙ c.if-ends_line.false))

pub overflow_add-k : goal.overflow_add-k
overflow_add-k g c = omega (arith, c.loop-wanted.invariant.0, look-room _ _ _ c.cell_end-q.ensures (sym c.ends_line.ensures ∙ c.if-ends_line.false))

pub loop-wanted-smaller : goal.loop-wanted-smaller
loop-wanted-smaller g c = omega (arith, look-room _ _ _ c.cell_end-q.ensures (sym c.ends_line.ensures ∙ c.if-ends_line.false))

pub loop-wanted-preserved : goal.loop-wanted-preserved
loop-wanted-preserved g c =
    let l = sym c.ends_line.ensures ∙ c.if-ends_line.false in (
      omega (arith, c.loop-wanted.invariant.0, look-room _ _ _ c.cell_end-q.ensures l),
      λ p h. look-next _ _ _ c.cell_end-q.ensures _ p _ (c.loop-wanted.invariant.1 p h) _ c.trimmed.ensures.content _ (h _ _ c.wanted.ensures) c.if-wanted.false l,
    )
