-- The value among all headers is the value among those from the present line on.
use mathlib.Core.Path.{refl, ◌∙◌}
use native.Mathlib.Omega.{arith}
use Rattle.profiles.proofs.ValueLaws.{headers_done, left_parted, left_passed, left-found}
use Rattle.profiles.proofs.values.header_value.Goals as goal

pub loop-at-init : goal.loop-at-init
loop-at-init c = λ l hs x. record { line = l; headers = hs; lines = x; same = refl }

pub overflow_add-result : goal.overflow_add-result
overflow_add-result c =
    let x = c.loop-at.invariant _ _ c.requires.2 in
    let p = left_parted x c.loop-at-test.true _ _ c.equals_from-q.ensures c.line_end-e.ensures in
    omega (arith, p, p.room)

pub overflow_add-result-then-same : goal.overflow_add-result-then-same
overflow_add-result-then-same c =
    let x = c.loop-at.invariant _ _ c.requires.2 in
    let p = left_parted x c.loop-at-test.true _ _ c.equals_from-q.ensures c.line_end-e.ensures in
    omega (arith, p, p.room)

pub overflow_sub-result : goal.overflow_sub-result
overflow_sub-result c =
    let x = c.loop-at.invariant _ _ c.requires.2 in
    let p = left_parted x c.loop-at-test.true _ _ c.equals_from-q.ensures c.line_end-e.ensures in
    omega (arith, p, p.room)

pub returns-then-same : goal.returns-then-same
returns-then-same c = λ l hs y.
    let x = c.loop-at.invariant l hs y in
    left-found x c.loop-at-test.true _ _ c.equals_from-q.ensures c.line_end-e.ensures _ _ c.trimmed.ensures.content c.same.ensures c.if-same.true

pub overflow_add-at : goal.overflow_add-at
overflow_add-at c =
    let x = c.loop-at.invariant _ _ c.requires.2 in
    let p = left_parted x c.loop-at-test.true _ _ c.equals_from-q.ensures c.line_end-e.ensures in
    omega (arith, p.room)

pub loop-at-smaller : goal.loop-at-smaller
loop-at-smaller c =
    omega (arith, c.line_end-e.ensures, c.loop-at-test.true)

pub loop-at-preserved : goal.loop-at-preserved
loop-at-preserved c = λ l hs y.
    let x = c.loop-at.invariant l hs y in
    left_passed x c.loop-at-test.true _ _ c.equals_from-q.ensures c.line_end-e.ensures _ _ c.trimmed.ensures.content c.same.ensures c.if-same.false

pub returns : goal.returns
returns c = λ l hs y.
    let x = c.loop-at.invariant l hs y in
    x.same ∙ headers_done _ x.lines c.loop-at-test.false
