use mathlib.Core.Path.{ap, ◌∙◌}
use Rattle.cursors.specs.declared.Cursor.{Cursor}
use Rattle.pochahuic_walk.specs.Cursors.{cursor_numbers}
use Rattle.pochahuic_walk.proofs.pochahuic_walk_open.Goals as goal

pub returns : goal.returns
returns c = let e = c.open_at-opened.ensures in
    record { value = ap (λ (x : Cursor). x.cell.number) e; cursor_after = c.numbers_of.ensures ∙ ap cursor_numbers e }
