-- The loop's invariant: where no byte was found that ends the cell, it ends where that k bytes behind i does.
use Prim.Native.Nat.{ℕ, ◌+◌}
use mathlib.Core.Path.{◌≡◌, sym, ap, ◌∙◌}
use native.Mathlib.Nat.{add-zero}
use native.Mathlib.Omega.{arith}
use Rattle.line_bytes.specs.Cells.{cell_end}
use Rattle.next_cell.proofs.StopLaws.{goes_on_lem}
use Rattle.next_cell.proofs.ends_near.Goals as goal

pub loop-k-init : goal.loop-k-init
loop-k-init c = (omega arith, λ z. ap (cell_end 44 _) (sym (add-zero _)))

pub loop-k-preserved : goal.loop-k-preserved
loop-k-preserved c = (omega arith, goes_on_lem _ _ _ _ (omega arith) c.loop-k.invariant.1)

pub returns : goal.returns
returns c =
    λ z.
    let e : c.loop-k.k ≡ 8 = omega arith in
    c.loop-k.invariant.1 z ∙ ap (λ (k : ℕ). cell_end 44 c.args.s.now (c.args.i + k)) e
