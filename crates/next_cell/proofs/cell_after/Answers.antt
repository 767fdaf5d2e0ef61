use Rattle.next_cell.proofs.StopLaws.{end-inside, after_any, after_solid}
use Rattle.next_cell.proofs.cell_after.Goals as goal

pub ends_solid-requires : goal.ends_solid-requires
ends_solid-requires c = end-inside _ _ _ c.cell_stop-stop.ensures

pub past_spaces-first-requires : goal.past_spaces-first-requires
past_spaces-first-requires c = let w = c.ends_solid.ensures c.if-ends_solid.true in (w.0, end-inside _ _ _ c.cell_stop-stop.ensures w.0, w.1)

pub returns-then-ends_solid : goal.returns-then-ends_solid
returns-then-ends_solid c =
    let w = c.ends_solid.ensures c.if-ends_solid.true in
    let p = c.past_spaces-first.ensures in
    after_solid _ _ _ c.cell_stop-stop.ensures _ p.0 p.1 w.1 p.2

pub returns : goal.returns
returns c = after_any _ _ _ c.cell_stop-stop.ensures _ c.trim_span.ensures
