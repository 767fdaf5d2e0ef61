-- The trimmed text at the place of the cell, which is nowhere where there is no such cell.
use mathlib.Core.Logic.{⊎_elim}
use native.Mathlib.Omega.{arith}
use Rattle.columns.proofs.AskedLaws.{name-none, name-some, name-room}
use Rattle.columns.proofs.name_in.Goals as goal

pub returns-then-column-eq0 : goal.returns-then-column-eq0
returns-then-column-eq0 c = let a = c.args in name-none a.s.now a.at _ c.if-column-eq0.true _ c.trimmed.ensures.content

pub overflow_add-p : goal.overflow_add-p
overflow_add-p c = ⊎_elim (λ z. omega (arith, z)) (λ z. omega (arith, z)) (name-room _ _ _ _ c.cell_span-p.ensures)

pub returns : goal.returns
returns c = name-some _ _ _ c.if-column-eq0.false _ c.cell_span-p.ensures _ c.trimmed-2.ensures.content
