use mathlib.Core.Path.{◌∙◌}
use Rattle.exchange.proofs.CellLaws.{call-place, read-place}
use Rattle.exchange.proofs.cell_place.Goals as goal

pub returns-in-Ok : goal.returns-in-Ok
returns-in-Ok c = read-place _ _ _ c.in-Ok.a c.in-Ok.ensures _ c.trim_span.ensures

pub returns-in-Err : goal.returns-in-Err
returns-in-Err c = c.no_place.ensures ∙ call-place _ _ _ c.in-Err.e c.in-Err.ensures
