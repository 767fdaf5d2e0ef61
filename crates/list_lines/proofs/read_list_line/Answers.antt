use mathlib.Core.Path.{refl, sym, ◌∙◌}
use Rattle.orders.proofs.ListLineLaws.{line_refused, line-by_fields}
use Rattle.list_lines.proofs.read_list_line.Goals as goal

pub returns-then-not-is_one_line : goal.returns-then-not-is_one_line
returns-then-not-is_one_line c = line_refused _ refl (sym c.is_one_line.ensures ∙ c.if-not-is_one_line.true)

pub fields_of-requires : goal.fields_of-requires
fields_of-requires c = sym c.is_one_line.ensures ∙ c.if-not-is_one_line.false

pub returns : goal.returns
returns c = line-by_fields _ c.fields_of.ensures (sym c.is_one_line.ensures ∙ c.if-not-is_one_line.false)
