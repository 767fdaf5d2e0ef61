use mathlib.Core.Path.{sym, ◌∙◌}
use native.Mathlib.Omega.{arith}
use borrow.Author.Tests.{eqb-true, eqb-false}
use lib.Seq.{length-take-le}
use Rattle.std.proofs.lemmas.Result.{err_from_is_err_and}
use Rattle.format.proofs.RunLaws.{line-ends}
use Rattle.line_one.proofs.FirstLaws.{first-refused, first-none, first_broken, first_marked, first_neither, first_good}
use Rattle.line_one.proofs.first_line.Goals as goal

pub returns-then-is_empty : goal.returns-then-is_empty
returns-then-is_empty c =
    first-refused _ _ (rw c.broken.ensures (first-none _ (eqb-true _ _ (sym c.if-is_empty.ensures))))

pub returns-in_err-e : goal.returns-in_err-e
returns-in_err-e c =
    let p = err_from_is_err_and c.from_residual.result c.from_residual.ensures.1 in
    rw (p.1, p.2) (first-refused _ _ (first_broken _ (eqb-false _ _ (sym c.if-is_empty.ensures)) _ (sym c.in_err-e.ensures)))

pub slice_bounds-is_mark-end : goal.slice_bounds-is_mark-end
slice_bounds-is_mark-end c =
    sym (length-take-le _ c.args.s.now (omega (arith, (line-ends _ _ _ _ (sym c.in_ok-e.ensures)).1)))

pub returns-then-is_mark : goal.returns-then-is_mark
returns-then-is_mark c =
    first-refused _ _
    (rw c.broken-then-is_mark.ensures
    (first_marked _ (eqb-false _ _ (sym c.if-is_empty.ensures)) _ (sym c.in_ok-e.ensures) (sym c.is_mark.ensures ∙ c.if-is_mark.true)))

pub returns-in_default : goal.returns-in_default
returns-in_default c =
    first-refused _ _
    (rw c.broken-in_default.ensures
    (first_neither _ (eqb-false _ _ (sym c.if-is_empty.ensures)) _ (sym c.in_ok-e.ensures) (sym c.is_mark.ensures ∙ c.if-is_mark.false) (sym c.kind_of_first.ensures ∙ c.in_default.is)))

pub overflow_add-result : goal.overflow_add-result
overflow_add-result c =
    omega (arith, (line-ends _ _ _ _ (sym c.in_ok-e.ensures)).1)

pub returns : goal.returns
returns c =
    first_good _ (eqb-false _ _ (sym c.if-is_empty.ensures)) _ (sym c.in_ok-e.ensures) (sym c.is_mark.ensures ∙ c.if-is_mark.false) _ (sym c.kind_of_first.ensures ∙ c.in-Some.is)
