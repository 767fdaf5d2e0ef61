-- A flag column has one of the two kinds of flags, another that of the catalogue.
use mathlib.Core.Path.{sym, ◌∙◌}
use mathlib.Core.Bool.{true, false}
use Rattle.columns.proofs.ColumnLaws.{parameter_taken, kind-listed, kind-flagged}
use Rattle.columns.proofs.kind_of_name.Goals as goal

pub returns-then-p-eq0 : goal.returns-then-p-eq0
returns-then-p-eq0 c =
    kind-listed _ _ c.parameter_length-p.ensures c.if-p-eq0.true _ _ c.requires.0 c.requires.1 _ c.kind_of.ensures

pub slice_bounds-begins_ctd-end : goal.slice_bounds-begins_ctd-end
slice_bounds-begins_ctd-end c = parameter_taken _ _ c.parameter_length-p.ensures

pub returns-then-begins_ctd : goal.returns-then-begins_ctd
returns-then-begins_ctd c =
    kind-flagged _ _ c.parameter_length-p.ensures c.if-p-eq0.false true (sym c.if-begins_ctd.true ∙ c.begins_ctd.ensures)

pub returns : goal.returns
returns c =
    kind-flagged _ _ c.parameter_length-p.ensures c.if-p-eq0.false false (sym c.if-begins_ctd.false ∙ c.begins_ctd.ensures)
