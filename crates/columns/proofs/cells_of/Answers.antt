-- The cells passed are placed, and the rest of the line has the others.
use mathlib.Core.Path.{◌≡◌, refl, sym, ◌∙◌}
use native.Mathlib.Omega.{arith}
use lib.ListN.{length-set}
use Rattle.line_bytes.proofs.CellLaws.{cell_end_from}
use Rattle.columns.proofs.NamesLineLaws.{walked_none, walked_more, placed-more, walked-last, walked-room, walked_on_lem}
use Rattle.columns.proofs.cells_of.Goals as goal

pub loop-k-init : goal.loop-k-init
loop-k-init c = walked_none c.args.s.now c.args.at _ refl

pub overflow_sub-places : goal.overflow_sub-places
overflow_sub-places c = omega (arith, c.cell_end-q.ensures, cell_end_from 44 c.args.s.now c.loop-k.i)

pub returns-then-ends_line : goal.returns-then-ends_line
returns-then-ends_line c =
    let w = c.loop-k.invariant in
    let h = c.loop-k-test.true in
    let q = c.cell_end-q in
    record {
      wide = length-set _ _ _ ∙ w.wide;
      few = omega arith;
      placed = placed-more _ _ _ _ _ w h _ q.ensures;
      all = λ z. walked-last _ _ _ _ _ w h _ q.ensures (sym c.ends_line.ensures ∙ c.if-ends_line.true);
      more = λ i z. absurd cc;
    }

pub overflow_add-i : goal.overflow_add-i
overflow_add-i c = omega (arith, walked-room _ _ _ _ _ c.loop-k.invariant c.loop-k-test.true _ c.cell_end-q.ensures (sym c.ends_line.ensures ∙ c.if-ends_line.false))

pub loop-k-preserved : goal.loop-k-preserved
loop-k-preserved c = walked_on_lem _ _ _ _ _ c.loop-k.invariant c.loop-k-test.true _ c.cell_end-q.ensures (sym c.ends_line.ensures ∙ c.if-ends_line.false)

pub returns : goal.returns
returns c =
    let l = c.loop-k in
    let w = l.invariant in
    let n : l.k ≡ 256 = omega (arith, w.few) in
    record {
      wide = w.wide;
      few = omega arith;
      placed = rw n at w.placed;
      all = λ z. absurd cc;
      more = λ i z. let e : l.i ≡ i = cc in (refl, omega (arith, walked_more _ _ _ _ _ w), sym e ∙ (rw n at w.here), rw e at w.near);
    }
