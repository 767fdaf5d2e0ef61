-- It has a parameter, which is the name.
use mathlib.Core.Path.{ap, sym, refl, ◌∙◌}
use mathlib.Core.Bool.{◌&&◌}
use lib.ListN.{take}
use Rattle.line_bytes.specs.Bytes.{equal}
use borrow.Author.Tests.{lt-ltb, le-ltb}
use Rattle.columns.proofs.ColumnLaws.{parameter_taken}
use Rattle.columns.proofs.AskedLaws.{flag-of}
use Rattle.columns.proofs.is_flag_of.Goals as goal

pub slice_bounds-same-end : goal.slice_bounds-same-end
slice_bounds-same-end c = parameter_taken _ _ c.parameter_length-p.ensures

pub returns-then-p-gt0 : goal.returns-then-p-gt0
returns-then-p-gt0 c = ap (λ b. b && c.same.result) (sym (lt-ltb 0 _ c.if-p-gt0.true)) ∙ flag-of _ _ _ c.parameter_length-p.ensures _ c.same.ensures

pub returns-else-p-gt0 : goal.returns-else-p-gt0
returns-else-p-gt0 c =
    let p = c.parameter_length-p in
    let b = equal (take p.result c.args.column.now) c.args.name.now in
    let z = le-ltb 0 _ c.if-p-gt0.false in
    z ∙ sym (ap (λ x. x && b) z) ∙ flag-of _ _ _ p.ensures b refl
