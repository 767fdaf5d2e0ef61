use mathlib.Core.Path.{◌∙◌}
use native.Mathlib.Omega.{arith}
use Rattle.format.specs.Labels.{header_for}
use Rattle.format.proofs.LabelLaws.{header_zero, header-missed, header-equals, header-found}
use Rattle.labels.proofs.header_place.Goals as goal

pub returns-in-Err : goal.returns-in-Err
unfolding header_for
returns-in-Err c = rw (c.no_header.ensures, c.in-Err.ensures)

pub returns-then-k-eq0 : goal.returns-then-k-eq0
returns-then-k-eq0 c =
    let q = c.in-Ok.ensures in
    rw (c.no_header-then-k-eq0.ensures, c.nowhere.ensures) (header_zero _ _ q.0 q.1 _ c.if-k-eq0.true)

pub returns-then-o-at : goal.returns-then-o-at
returns-then-o-at c =
    let q = c.in-Ok.ensures in
    rw (c.no_header-then-o-at.ensures, c.nowhere-then-o-at.ensures) (header-missed _ _ q.0 q.1 _ _ c.if-k-eq0.false c.line_start-at.ensures (omega (arith, c.if-o-at.true)))

pub header_at-requires : goal.header_at-requires
header_at-requires c =
    let q = c.in-Ok.ensures in
    header-equals _ _ q.0 q.1 _ _ c.if-k-eq0.false c.line_start-at.ensures (omega (arith, c.if-o-at.false))

pub returns : goal.returns
returns c =
    let q = c.in-Ok.ensures in
    c.header_at.ensures ∙ header-found _ _ q.0 q.1 _ _ c.if-k-eq0.false c.line_start-at.ensures (omega (arith, c.if-o-at.false))
