-- 10 and 9 by the first fault of the first 256 names, then 11, 12 and 13.
use Rattle.std.proofs.Common.{rules}
use mathlib.Core.Path.{◌≡◌, ◌∙◌}
use native.Mathlib.Omega.{arith}
use Rattle.std.specs.Prelude.{Some, None, Err}
use Rattle.line_bytes.specs.Cells.{pieces, line_at}
use Rattle.format.specs.declared.NameFault.TheVariants.{Bad, Repeated}
use Rattle.format.specs.Inner.Sorts.{sort_for}
use Rattle.columns.proofs.NamesLineLaws.{start-after}
use Rattle.columns.proofs.ColumnLaws.{names-refused, rules-names, bad-within, repeated-within, bad-found, repeated-found, many-found, none_found, names_required, names-flagged, names-read, names_lacking}
use Rattle.columns.proofs.read_columns.Goals as goal

pub offset_bounds-places-k : goal.offset_bounds-places-k
offset_bounds-places-k c =
    let w = c.cells_of-c.ensures in
    let f = c.first_fault in
    let z : f.result ≡ Some (Bad c.in-Some-Bad.k) = cc in
    omega (arith, bad-within _ _ _ w _ f.ensures _ z, w.placed.few)

pub bounds-places-k : goal.bounds-places-k
bounds-places-k c =
    let f = c.first_fault in
    let z : f.result ≡ Some (Bad c.in-Some-Bad.k) = cc in
    bad-within _ _ _ c.cells_of-c.ensures _ f.ensures _ z

pub broken-requires : goal.broken-requires
broken-requires c =
    let a = c.args in
    let w = c.cells_of-c.ensures in
    let f = c.first_fault in
    let z : f.result ≡ Some (Bad c.in-Some-Bad.k) = cc in
    let h = bad-within _ _ _ w _ f.ensures _ z in
    (start-after _ _ (pieces 44 (line_at a.s.now a.at)) _ (w.placed.begin _ _ h), omega (arith, w.placed.inside _ (record { start = 0; len = 0 }) h))

pub returns-in-Some-Bad : goal.returns-in-Some-Bad
returns-in-Some-Bad c =
    let a = c.args in
    let w = c.cells_of-c.ensures in
    let f = c.first_fault in
    let z : f.result ≡ Some (Bad c.in-Some-Bad.k) = cc in
    let h = bad-within _ _ _ w _ f.ensures _ z in
    names-refused _ _ (pieces 44 (line_at a.s.now a.at)) _ (w.placed.begin _ _ h) _ 10 c.broken.ensures (sort_for a.bottle) (line_at a.s.now a.at)
    (rules-names (sort_for a.bottle) (line_at a.s.now a.at) 10 _ (bad-found _ _ _ w _ f.ensures _ z))

pub offset_bounds-places-k-in-Some-Repeated : goal.offset_bounds-places-k-in-Some-Repeated
offset_bounds-places-k-in-Some-Repeated c =
    let w = c.cells_of-c.ensures in
    let f = c.first_fault in
    let z : f.result ≡ Some (Repeated c.in-Some-Repeated.k) = cc in
    omega (arith, repeated-within _ _ _ w _ f.ensures _ z, w.placed.few)

pub bounds-places-k-in-Some-Repeated : goal.bounds-places-k-in-Some-Repeated
bounds-places-k-in-Some-Repeated c =
    let f = c.first_fault in
    let z : f.result ≡ Some (Repeated c.in-Some-Repeated.k) = cc in
    repeated-within _ _ _ c.cells_of-c.ensures _ f.ensures _ z

pub broken-requires-in-Some-Repeated : goal.broken-requires-in-Some-Repeated
broken-requires-in-Some-Repeated c =
    let a = c.args in
    let w = c.cells_of-c.ensures in
    let f = c.first_fault in
    let z : f.result ≡ Some (Repeated c.in-Some-Repeated.k) = cc in
    let h = repeated-within _ _ _ w _ f.ensures _ z in
    (start-after _ _ (pieces 44 (line_at a.s.now a.at)) _ (w.placed.begin _ _ h), omega (arith, w.placed.inside _ (record { start = 0; len = 0 }) h))

pub returns-in-Some-Repeated : goal.returns-in-Some-Repeated
returns-in-Some-Repeated c =
    let a = c.args in
    let w = c.cells_of-c.ensures in
    let f = c.first_fault in
    let z : f.result ≡ Some (Repeated c.in-Some-Repeated.k) = cc in
    let h = repeated-within _ _ _ w _ f.ensures _ z in
    names-refused _ _ (pieces 44 (line_at a.s.now a.at)) _ (w.placed.begin _ _ h) _ 9 c.broken-in-Some-Repeated.ensures (sort_for a.bottle) (line_at a.s.now a.at)
    (rules-names (sort_for a.bottle) (line_at a.s.now a.at) 9 _ (repeated-found _ _ _ w _ f.ensures _ z))

pub broken-requires-in-Some : goal.broken-requires-in-Some
broken-requires-in-Some c =
    let a = c.args in
    let m = c.cells_of-c.ensures.more _ c.in-Some.is in
    (start-after _ _ (pieces 44 (line_at a.s.now a.at)) _ m.2, omega (arith, m.3))

pub returns-in-Some : goal.returns-in-Some
returns-in-Some c =
    let a = c.args in
    let w = c.cells_of-c.ensures in
    let f = c.first_fault in
    let z : f.result ≡ None = cc in
    names-refused _ _ (pieces 44 (line_at a.s.now a.at)) 256 (w.more _ c.in-Some.is).2 _ 11 c.broken-in-Some.ensures (sort_for a.bottle) (line_at a.s.now a.at)
    (rules-names (sort_for a.bottle) (line_at a.s.now a.at) 11 _ (many-found _ _ _ w _ f.ensures z _ c.in-Some.is))

pub returns-in_err-columns : goal.returns-in_err-columns
returns-in_err-columns c =
    let a = c.args in
    let w = c.cells_of-c.ensures in
    let f = c.first_fault in
    let e : c.from_residual.result ≡ Err c.in_err-columns.field-0.0 = search rules in
    e ∙ names-flagged (sort_for a.bottle) (line_at a.s.now a.at) (none_found _ _ _ w _ f.ensures c.in-None.is c.in_default.is) c.kinds_of.result c.kinds_of.ensures _ c.in_err-columns.was

pub returns-then-not-has_required : goal.returns-then-not-has_required
returns-then-not-has_required c =
    let a = c.args in
    let w = c.cells_of-c.ensures in
    let f = c.first_fault in
    names_lacking (sort_for a.bottle) (line_at a.s.now a.at) (none_found _ _ _ w _ f.ensures c.in-None.is c.in_default.is) c.kinds_of.result c.kinds_of.ensures _ c.in_ok-columns.was _
    (names_required _ _ _ w _ f.ensures c.in-None.is c.in_default.is (sort_for a.bottle) _ c.has_required.ensures) c.if-not-has_required.true

pub returns : goal.returns
returns c =
    let a = c.args in
    let w = c.cells_of-c.ensures in
    let f = c.first_fault in
    names-read (sort_for a.bottle) (line_at a.s.now a.at) (none_found _ _ _ w _ f.ensures c.in-None.is c.in_default.is) c.kinds_of.result c.kinds_of.ensures _ c.in_ok-columns.was _
    (names_required _ _ _ w _ f.ensures c.in-None.is c.in_default.is (sort_for a.bottle) _ c.has_required.ensures) c.if-not-has_required.false
