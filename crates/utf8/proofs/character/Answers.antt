use mathlib.Core.Path.{◌∙◌, sym}
use Rattle.utf8.proofs.RowLaws.{rows_taken, rows_on, rows_none}
use Rattle.utf8.proofs.character.Goals as goal

pub returns-then-takes : goal.returns-then-takes
returns-then-takes c =
    sym (c.loop-row.invariant ∙ rows_taken _ _ _ c.loop-row-test.true (sym c.takes.ensures ∙ c.if-takes.true) ∙ sym c.length_of.ensures)

pub loop-row-preserved : goal.loop-row-preserved
loop-row-preserved c =
    c.loop-row.invariant ∙ rows_on _ _ _ c.loop-row-test.true (sym c.takes.ensures ∙ c.if-takes.false)

pub returns : goal.returns
returns c = sym (c.loop-row.invariant ∙ rows_none _ _ _ c.loop-row-test.false)
