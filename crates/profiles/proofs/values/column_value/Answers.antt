-- The cell of the column of that name, if the names line has one.
use Rattle.profiles.proofs.ValueLaws.{column-none, cell-found}
use Rattle.profiles.proofs.values.column_value.Goals as goal

pub returns-then-c-eq0 : goal.returns-then-c-eq0
returns-then-c-eq0 c =
    column-none c.requires _ _ c.column_in-c.ensures c.if-c-eq0.true

pub returns : goal.returns
returns c =
    cell-found c.requires _ _ c.column_in-c.ensures c.if-c-eq0.false _ _ c.line_end.ensures c.cell_span-p.ensures
