use mathlib.Core.Path.{◌≡◌, ap, ◌∙◌}
use Rattle.line_bytes.specs.Spaces.{trim_span}
use Rattle.cursors.specs.declared.Cursor.{Cursor}
use Rattle.cursors.specs.Walk.{ended, on_cell}
use Rattle.cursors.proofs.StepLaws.{open-refused, open-accepted}
use Rattle.walk.proofs.open_at.Goals as goal

pub returns-then-c-ne0 : goal.returns-then-c-ne0
returns-then-c-ne0 c =
    let o = c.open_file-o in
    (λ j. record { cell = c.no_place.ensures j; stop = 0; row = 0; column = 0; rows = o.result.checked.rows; columns = o.result.checked.columns })
    ∙ open-refused _ o.result o.ensures c.if-c-ne0.true

pub returns : goal.returns
returns c =
    let o = c.open_file-o in
    let x : Cursor = record { cell = c.no_place.result; stop = 0; row = 0; column = 0; rows = o.result.checked.rows; columns = o.result.checked.columns } in
    let e : x ≡ ended o.result.checked = λ j. record { cell = c.no_place.ensures j; stop = 0; row = 0; column = 0; rows = o.result.checked.rows; columns = o.result.checked.columns } in
    let q = c.cell_end-stop.ensures in
    let p = c.trim_span.ensures ∙ ap (trim_span _ _) q in
    c.on_cell.ensures
    ∙ (λ j. on_cell (e j) (record { place = p j; stop = q j }) 1 1)
    ∙ open-accepted _ o.result o.ensures c.if-c-ne0.false
