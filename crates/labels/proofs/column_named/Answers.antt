use Rattle.format.specs.Labels.{named_of}
use Rattle.format.proofs.LabelLaws.{named_none, named_some}
use Rattle.labels.proofs.column_named.Goals as goal

pub returns-in-Err : goal.returns-in-Err
unfolding named_of
returns-in-Err c = rw (c.none_named.ensures, c.in-Err.ensures)

pub returns-then-place-eq0 : goal.returns-then-place-eq0
returns-then-place-eq0 c =
    let q = c.in-Ok.ensures in
    rw (c.none_named-then-place-eq0.ensures, c.nowhere.ensures) (named_none _ _ q.0 q.1 _ _ c.column_in-place.ensures c.if-place-eq0.true)

pub returns : goal.returns
returns c =
    let q = c.in-Ok.ensures in
    named_some _ _ q.0 q.1 _ _ c.column_in-place.ensures c.if-place-eq0.false
