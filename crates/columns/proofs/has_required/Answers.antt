-- The station names, or CTDPRS.
use mathlib.Core.Path.{ap, ◌∙◌}
use Rattle.std.specs.Prelude.{is_some}
use Rattle.format.specs.Inner.Names.{names_at}
use Rattle.columns.proofs.ColumnLaws.{pressure-found}
use Rattle.columns.proofs.has_required.Goals as goal

pub returns-else-bottle : goal.returns-else-bottle
returns-else-bottle c = rw c.if-bottle.false (c.is_some.ensures ∙ ap is_some c.place_of.ensures ∙ pressure-found (names_at c.args.s.now c.args.places.now))
