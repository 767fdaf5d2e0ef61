use mathlib.Core.Path.{◌∙◌}
use native.Mathlib.Omega.{arith}
use Rattle.format.specs.Labels.{unit_place}
use Rattle.format.proofs.LabelLaws.{units-inside, unit_label}
use Rattle.labels.proofs.unit_place.Goals as goal

pub overflow_add-feed : goal.overflow_add-feed
overflow_add-feed c =
    let q = c.in-Ok.ensures in
    omega (arith, c.line_end-feed.ensures, units-inside _ _ q.0 q.1)

pub returns-in-Ok : goal.returns-in-Ok
returns-in-Ok c =
    let q = c.in-Ok.ensures in
    c.label_in.ensures ∙ unit_label _ _ q.0 q.1 _ _ c.line_end-feed.ensures

pub returns-in-Err : goal.returns-in-Err
unfolding unit_place
returns-in-Err c = rw (c.no_place.ensures, c.in-Err.ensures)
