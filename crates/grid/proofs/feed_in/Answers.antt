-- The loop's invariant: where no line feed is found, the first k bytes from i on have none.
use Prim.Native.Nat.{ℕ}
use mathlib.Core.Path.{◌≡◌, subst}
use native.Mathlib.Omega.{arith}
use lib.ListN.{take, drop}
use Rattle.format.specs.Inner.Grid.{count_of}
use Rattle.format.proofs.GridWalkLaws.{count_none}
use Rattle.format.proofs.CellWalkLaws.{none_more}
use Rattle.grid.proofs.feed_in.Goals as goal

pub loop-k-init : goal.loop-k-init
loop-k-init c = (omega arith, λ z. count_none 10 (drop c.args.i c.args.s.now))

pub loop-k-preserved : goal.loop-k-preserved
loop-k-preserved c = let a = c.args in (omega arith, none_more a.s.now a.i c.loop-k.k c.loop-k.feed (omega arith) c.loop-k.invariant.1)

pub returns : goal.returns
returns c =
    let a = c.args in
    let e : c.loop-k.k ≡ a.width = omega arith in
    λ z. subst (λ (x : ℕ). count_of 10 (take x (drop a.i a.s.now)) ≡ 0) e (c.loop-k.invariant.1 z)
