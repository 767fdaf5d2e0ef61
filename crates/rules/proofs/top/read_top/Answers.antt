-- Line 1, the comments, and in a CTD file the headers.
use mathlib.Core.Path.{sym, ◌∙◌}
use native.Mathlib.Omega.{arith}
use Rattle.rules.specs.Inner.Free.{commented}
use Rattle.rules.proofs.ExitLaws.{goes-on, ends, exit}
use Rattle.rules.proofs.FirstRunLaws.{first_read, first-refused}
use Rattle.rules.proofs.TopLaws.{top-bottle, top-ctd, top-refused}
use Rattle.rules.proofs.top.read_top.Goals as goal

pub returns-in_err-first : goal.returns-in_err-first
returns-in_err-first c =
    let w = ends _ _ c.from_residual.result _ _ c.on_line.ensures c.in_err-first.was c.from_residual.ensures.1 in
    rw w.2 (first-refused _ _ (sym c.first_line.ensures ∙ w.1))

pub free_lines-requires : goal.free_lines-requires
free_lines-requires c =
    let a = first_read _ _ (sym c.first_line.ensures ∙ goes-on _ _ _ _ c.on_line.ensures c.in_ok-first.was) in
    (a.inside, omega arith)

pub returns-in_err-headers : goal.returns-in_err-headers
returns-in_err-headers c =
    let a = first_read _ _ (sym c.first_line.ensures ∙ goes-on _ _ _ _ c.on_line.ensures c.in_ok-first.was) in
    let f = rw c.in_err-headers.was at c.free_lines.ensures in
    rw (exit _ _ c.from_residual-in_err-headers.ensures.1) (a.on ∙ f _ commented)

pub read_headers-requires : goal.read_headers-requires
read_headers-requires c =
    let f = rw c.in_ok-headers.was at c.free_lines.ensures in
    (f.inside.1, omega (arith, f.inside.2), λ h. (f.other h).1)

pub returns-in_err-names-in-Ctd : goal.returns-in_err-names-in-Ctd
returns-in_err-names-in-Ctd c =
    let a = first_read _ _ (sym c.first_line.ensures ∙ goes-on _ _ _ _ c.on_line.ensures c.in_ok-first.was) in
    let f = rw c.in_ok-headers.was at c.free_lines.ensures in
    let g = rw c.in_err-names-in-Ctd.was at c.read_headers.ensures in
    rw (exit _ _ c.from_residual-in_err-names-in-Ctd.ensures.1) (top-refused a _ f c.in-Ctd.is _ g)

pub returns-in_ok-names-in-Ctd : goal.returns-in_ok-names-in-Ctd
returns-in_ok-names-in-Ctd c =
    let a = first_read _ _ (sym c.first_line.ensures ∙ goes-on _ _ _ _ c.on_line.ensures c.in_ok-first.was) in
    let f = rw c.in_ok-headers.was at c.free_lines.ensures in
    let g = rw c.in_ok-names-in-Ctd.was at c.read_headers.ensures in
    top-ctd a _ f c.in-Ctd.is _ g

pub returns-in_default : goal.returns-in_default
returns-in_default c =
    let a = first_read _ _ (sym c.first_line.ensures ∙ goes-on _ _ _ _ c.on_line.ensures c.in_ok-first.was) in
    let f = rw c.in_ok-headers.was at c.free_lines.ensures in
    top-bottle a _ f c.in_default.not-Ctd
