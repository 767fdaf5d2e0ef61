-- A parameter is one of the names and no flag column's.
use mathlib.Core.Path.{ap, ◌∙◌}
use native.Mathlib.Omega.{arith}
use Rattle.std.specs.Prelude.{is_some}
use Rattle.columns.proofs.ColumnLaws.{parameter_taken, keeps_plain, keeps-flag, keeps_placed}
use Rattle.columns.proofs.keeps_parameter.Goals as goal

pub returns-then-p-eq0 : goal.returns-then-p-eq0
returns-then-p-eq0 c = keeps_plain _ _ c.parameter_length-p.ensures _ c.if-p-eq0.true

pub slice_bounds-parameter-end : goal.slice_bounds-parameter-end
slice_bounds-parameter-end c = parameter_taken _ _ c.parameter_length-p.ensures

pub returns-then-parameter_length-gt0 : goal.returns-then-parameter_length-gt0
returns-then-parameter_length-gt0 c =
    keeps-flag _ _ c.parameter_length-p.ensures _ c.if-p-eq0.false _ c.parameter_length.ensures c.if-parameter_length-gt0.true

pub returns : goal.returns
returns c =
    c.is_some.ensures ∙ ap is_some c.place_of.ensures ∙ keeps_placed _ _ c.parameter_length-p.ensures _ c.if-p-eq0.false _ c.parameter_length.ensures (omega arith)
