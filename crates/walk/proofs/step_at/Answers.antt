use mathlib.Core.Path.{sym, ◌∙◌}
use Rattle.cursors.specs.Walk.{on_cell}
use Rattle.cursors.proofs.StepLaws.{step-over, step_right, step_down, step-last}
use Rattle.walk.proofs.step_at.Goals as goal
use Rattle.walk.proofs.step_at.Goals.{then-cursor, else-cursor+then-cursor-2}

pub returns-then-cursor-file : goal.returns-then-cursor-file
returns-then-cursor-file c = c.at_end.ensures ∙ sym (step-over _ c.args.cursor c.if-cursor-file.true)

pub returns-else-cursor-2 : goal.returns-else-cursor-2
returns-else-cursor-2 c = c.at_end-else-cursor-2.ensures ∙ sym (step-last _ c.args.cursor c.if-cursor-file.false c.if-cursor.false c.if-cursor-2.false)

pub returns : goal.returns
returns c =
    let x = c.args.cursor in
    let a = c.cell_after-a.ensures in
    let h = c.if-cursor-file.false in
    c.on_cell.ensures
    ∙ elim c.if-cursor.branch [
      | then-cursor w ↦ (λ j. on_cell x (a j) (w.row-is j).0 (w.row-is j).1) ∙ sym (step_right _ x h w.if-cursor.true)
      | else-cursor+then-cursor-2 w ↦ (λ j. on_cell x (a j) (w.row-is j).0 (w.row-is j).1) ∙ sym (step_down _ x h w.if-cursor.false w.if-cursor-2.true)
    ]
