-- The loop's invariant: n counts the first k bytes from i on.
use Prim.Native.Nat.{ℕ, ◌+◌}
use mathlib.Core.Path.{◌≡◌, sym, ◌∙◌, ap}
use native.Mathlib.Omega.{arith}
use mathlib.Core.Bool.{cond}
use lib.ListN.{get_or, take, drop}
use lib.Dec.{eqb}
use Rattle.format.specs.Inner.Grid.{count_of}
use Rattle.format.proofs.GridWalkLaws.{count_none, count_byte}
use Rattle.grid.proofs.count_in.Goals as goal

pub loop-k-init : goal.loop-k-init
loop-k-init c = let a = c.args in (omega arith, omega arith, sym (count_none a.wanted (drop a.i a.s.now)))

pub overflow_add-n : goal.overflow_add-n
overflow_add-n c = omega (arith, c.is_byte-n.ensures.1)

pub loop-k-preserved : goal.loop-k-preserved
loop-k-preserved c =
    let a = c.args in (
      omega arith,
      omega (arith, c.is_byte-n.ensures.1),
      ap (λ (x : ℕ). c.loop-k.n + x) c.is_byte-n.ensures.0
          ∙ ap (λ (x : ℕ). x + cond (eqb (get_or a.s.now (a.i + c.loop-k.k) 0) a.wanted) 1 0) c.loop-k.invariant.2
          ∙ sym (count_byte a.wanted a.s.now a.i c.loop-k.k (omega arith)),
    )

pub returns : goal.returns
returns c =
    let a = c.args in
    let e : c.loop-k.k ≡ a.width = omega arith in
    c.loop-k.invariant.2 ∙ ap (λ (x : ℕ). count_of a.wanted (take x (drop a.i a.s.now))) e
