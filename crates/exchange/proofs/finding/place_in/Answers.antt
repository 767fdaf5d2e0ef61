-- Column 0 is none.
use Rattle.exchange.proofs.LocateLaws.{place-some, place_none}
use Rattle.exchange.proofs.finding.place_in.Goals as goal

pub returns-then-column-gt0 : goal.returns-then-column-gt0
returns-then-column-gt0 c = place-some _ _ _ c.if-column-gt0.true _ c.cell_span.ensures

pub returns-else-column-gt0 : goal.returns-else-column-gt0
returns-else-column-gt0 c = place_none _ _ _ c.if-column-gt0.false
