use mathlib.Core.Path.{ap, ◌∙◌}
use Rattle.cursors.specs.declared.Cursor.{Cursor}
use Rattle.cursors.specs.Walk.{step_of}
use Rattle.pochahuic_walk.specs.Cursors.{cursor_numbers}
use Rattle.pochahuic_walk.proofs.pochahuic_walk_next.Goals as goal

pub returns : goal.returns
returns c =
    let e = c.step_at-next.ensures ∙ ap (step_of _) c.cursor_of.ensures in
    record { value = ap (λ (x : Cursor). x.cell.number) e; cursor_after = c.numbers_of.ensures ∙ ap cursor_numbers e }
