-- What is left to judge, from the present cell and counts, gives what the whole line gives.
use Prim.Native.Nat.{ℕ, ◌+◌}
use mathlib.Core.Path.{◌≡◌, refl, sym, ◌∙◌, ap, subst}
use native.Mathlib.Omega.{arith}
use lib.ListN.{get_or}
use Rattle.line_bytes.specs.Cells.{cell_end}
use Rattle.line_bytes.proofs.CellLaws.{cell_end-within, stop-short}
use Rattle.verdicts.proofs.RowLaws.{share_most, left-none, left-refused, left_ended, left_goes, ends_at}
use Rattle.cells.proofs.ScanLaws.{stop_on}
use Rattle.cells.proofs.scans.Line.cells.Goals as goal

pub loop-k-init : goal.loop-k-init
loop-k-init c = (c.requires, omega arith, refl)

pub returns-then-j-ne0 : goal.returns-then-j-ne0
returns-then-j-ne0 c =
    let a = c.args in
    left-refused a.i a.kinds.now a.self.bytes.now a.self.separator c.loop-k.at c.loop-k.k c.loop-k.missing c.loop-k.keys a.self.end
    (stop_on c.args.self c.loop-k.invariant.0) c.loop-k-test.true c.judged-j.result c.judged-j.ensures c.if-j-ne0.true _ _ _ c.loop-k.invariant.2 c.ended.ensures refl

pub overflow_add-missing : goal.overflow_add-missing
overflow_add-missing c = omega (arith, share_most _ _ _ c.missing_of-missing.ensures)

pub bounds-self-q : goal.bounds-self-q
bounds-self-q c =
    let a = c.args in
    let t = stop_on c.args.self c.loop-k.invariant.0 in
    let q : c.judged-j.result.at ≡ cell_end a.self.separator a.self.bytes.now c.loop-k.at = ends_at a.i a.kinds.now a.self.bytes.now a.self.separator c.loop-k.at c.loop-k.k c.loop-k.missing c.loop-k.keys a.self.end t c.loop-k-test.true c.judged-j.result c.judged-j.ensures in
    omega (arith, q, cell_end-within t, c.args.self.room)

pub returns-then-self-q : goal.returns-then-self-q
returns-then-self-q c =
    let a = c.args in
    let t = stop_on c.args.self c.loop-k.invariant.0 in
    left_ended a.i a.kinds.now a.self.bytes.now a.self.separator c.loop-k.at c.loop-k.k c.loop-k.missing c.loop-k.keys a.self.end t c.loop-k-test.true c.judged-j.result c.judged-j.ensures c.if-j-ne0.false
    _ (ap (λ (x : ℕ). c.loop-k.missing + x) c.missing_of-missing.ensures) _ c.note.ensures c.if-self-q.true _ _ _ c.loop-k.invariant.2 c.ended-then-self-q.ensures refl

pub overflow_add-at : goal.overflow_add-at
overflow_add-at c =
    let a = c.args in
    let t = stop_on c.args.self c.loop-k.invariant.0 in
    let q : c.judged-j.result.at ≡ cell_end a.self.separator a.self.bytes.now c.loop-k.at = ends_at a.i a.kinds.now a.self.bytes.now a.self.separator c.loop-k.at c.loop-k.k c.loop-k.missing c.loop-k.keys a.self.end t c.loop-k-test.true c.judged-j.result c.judged-j.ensures in
    omega (arith, q, cell_end-within t, c.args.self.room)

pub loop-k-preserved : goal.loop-k-preserved
loop-k-preserved c =
    let a = c.args in
    let t = stop_on c.args.self c.loop-k.invariant.0 in
    let q : c.judged-j.result.at ≡ cell_end a.self.separator a.self.bytes.now c.loop-k.at = ends_at a.i a.kinds.now a.self.bytes.now a.self.separator c.loop-k.at c.loop-k.k c.loop-k.missing c.loop-k.keys a.self.end t c.loop-k-test.true c.judged-j.result c.judged-j.ensures in
    let g = left_goes a.i a.kinds.now a.self.bytes.now a.self.separator c.loop-k.at c.loop-k.k c.loop-k.missing c.loop-k.keys a.self.end t c.loop-k-test.true c.judged-j.result c.judged-j.ensures c.if-j-ne0.false
    (c.loop-k.missing + c.missing_of-missing.result) (ap (λ (x : ℕ). c.loop-k.missing + x) c.missing_of-missing.ensures) _ c.note.ensures c.if-self-q.false in
    let u = stop-short (stop_on c.args.self (cell_end-within t)) (subst (λ (x : ℕ). get_or a.self.bytes.now x 0 ≡ 10 → ⊥) q g.0) in
    (omega (arith, q, u), omega (arith, share_most _ _ _ c.missing_of-missing.ensures), c.loop-k.invariant.2 ∙ g.1)

pub returns : goal.returns
returns c =
    let a = c.args in
    c.none.ensures ∙ sym (c.loop-k.invariant.2 ∙ left-none a.i a.kinds.now a.self.bytes.now a.self.separator c.loop-k.at c.loop-k.k c.loop-k.missing c.loop-k.keys c.loop-k-test.false)
