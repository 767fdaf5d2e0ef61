-- src/lib.rt:162:8
-- src/lib.rt:163:9
-- src/lib.rt:165:9
-- src/lib.rt:159:1
-- src/lib.rt:159:1
use mathlib.Core.Path.{sym, ◌∙◌}
use Rattle.verdicts.specs.Rows.{cells_at}
use Rattle.verdicts.proofs.JudgeLaws.{stop_from}
use Rattle.cells.proofs.judge_cells.Goals as goal

pub invariant_of-line : goal.invariant_of-line
invariant_of-line c =
    let t = stop_from _ _ _ _ (sym c.stops.ensures ∙ c.if-stops.true) in record { room = t.room; feed = t.feed; parts = t.parts }

pub cells-requires : goal.cells-requires
cells-requires c = (stop_from _ _ _ _ (sym c.stops.ensures ∙ c.if-stops.true)).inside

pub returns-then-stops : goal.returns-then-stops
unfolding cells_at
returns-then-stops c = rw (sym c.stops.ensures ∙ c.if-stops.true) c.cells.ensures

pub returns-else-stops : goal.returns-else-stops
unfolding cells_at
returns-else-stops c = rw (sym c.stops.ensures ∙ c.if-stops.false) c.none.ensures
