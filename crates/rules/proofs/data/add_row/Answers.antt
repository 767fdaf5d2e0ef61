use mathlib.Core.Path.{refl, ◌∙◌}
use borrow.Author.Tests.{lt-ltb, le-ltb}
use native.Mathlib.Omega.{arith}
use Rattle.rows.proofs.RowLaws.{row_read, border_one}
use Rattle.rules.proofs.DataLaws.{rows-below, line-stop, line_full, line_odd, line_row}
use Rattle.rules.proofs.ExitLaws.{exit}
use Rattle.rules.proofs.data.add_row.Goals.{then-d-gt0, else-d-gt0}
use Rattle.rules.proofs.data.add_row.Goals as goal

pub returns-then-d-eq-MOST_ROWS : goal.returns-then-d-eq-MOST_ROWS
returns-then-d-eq-MOST_ROWS c =
    let a = c.args in
    let p = c.requires in
    λ t l k. line_full a.s.now a.kinds.now a.d.now _ p.1.0 p.1.1 (omega (arith, c.if-d-eq-MOST_ROWS.true)) t l

pub returns-in_err-r : goal.returns-in_err-r
returns-in_err-r c =
    let a = c.args in
    let p = c.requires in
    let w = row_read a.s.now a.kinds.now a.d.now.at a.e _ c.read_row.ensures (line-stop p.1.0) p.2 p.3 in
    let f = rw c.in_err-r.was at w in
    rw (exit _ _ c.from_residual.ensures.1) (λ t l k. line_odd a.s.now a.kinds.now a.d.now _ p.1.0 p.1.1 (rows-below p.0.few c.if-d-eq-MOST_ROWS.false) _ f t l k)

pub overflow_add-d-4 : goal.overflow_add-d-4
overflow_add-d-4 c =
    let a = c.args in
    let p = c.requires in
    let w = row_read a.s.now a.kinds.now a.d.now.at a.e _ c.read_row.ensures (line-stop p.1.0) p.2 p.3 in
    let f = rw c.in_ok-r.was at w in
    omega (arith, f.few, p.0.missing, p.0.few)

pub returns : goal.returns
returns c =
    let a = c.args in
    let p = c.requires in
    let w = row_read a.s.now a.kinds.now a.d.now.at a.e _ c.read_row.ensures (line-stop p.1.0) p.2 p.3 in
    let f = rw c.in_ok-r.was at w in
    line_row a.s.now a.kinds.now a.d.now _ p.1.0 p.1.1 (rows-below p.0.few c.if-d-eq-MOST_ROWS.false) c.in_ok-r.r f p.0 _
    (border_one c.if-d-gt0.same_profile _ _ c.from.ensures
    (elim c.if-d-gt0.branch [
      | then-d-gt0 w ↦ w.same_profile-is ∙ w.same_keys-same_profile.ensures ∙ rw (lt-ltb 0 a.d.now.rows w.if-d-gt0.true) refl
      | else-d-gt0 w ↦ w.same_profile-is ∙ rw (le-ltb 0 a.d.now.rows w.if-d-gt0.false) refl
    ]))
