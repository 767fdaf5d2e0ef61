use mathlib.Core.Path.{◌∙◌}
use Rattle.format.specs.Labels.{name_place}
use Rattle.format.proofs.LabelLaws.{name_label}
use Rattle.labels.proofs.name_place.Goals as goal

pub returns-in-Ok : goal.returns-in-Ok
returns-in-Ok c =
    let q = c.in-Ok.ensures in
    c.label_in.ensures ∙ name_label _ _ q.0 q.1 _

pub returns-in-Err : goal.returns-in-Err
unfolding name_place
returns-in-Err c = rw (c.no_place.ensures, c.in-Err.ensures)
