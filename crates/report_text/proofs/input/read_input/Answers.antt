use Prim.Native.Nat.{ℕ, ◌+◌, ◌≤◌}
use mathlib.Core.Path.{◌≡◌, sym, ◌∙◌, ap, subst}
use mathlib.Core.List.{List, ◌++◌}
use Rattle.std.proofs.Common.{arith, length, take, length-take-le}
use Rattle.std.proofs.lemmas.List.{take-append-le}
use Rattle.std.proofs.Math.Seq.{take-append-add}
use Rattle.std.proofs.KnownBytes.{Consumes-trans}
use Rattle.std.specs.Io.KnownBytes.{Consumes}
use Rattle.report_text.proofs.input.read_input.Goals as goal

-- where some bytes were put behind the first n, the first n and g are these and the first g of those
take_put : (n g : ℕ) (xs ys zs : List ℕ) → n ≤ length xs → g ≤ length ys → take (n + g) (take n xs ++ (ys ++ zs)) ≡ take n xs ++ take g ys
take_put n g xs ys zs h l =
    ap (λ (k : ℕ). take (k + g) (take n xs ++ (ys ++ zs))) (sym (length-take-le n xs h))
    ∙ take-append-add (take n xs) (ys ++ zs) g
    ∙ ap (λ (w : List ℕ). take n xs ++ w) (take-append-le g ys zs l)

pub loop-n-preserved : goal.loop-n-preserved
loop-n-preserved g c =
    let s = c.loop-n.room in
    let e = take_put c.loop-n.n c.in_ok-got.got s c.read.new.buf _ (omega arith) (omega (arith, c.in_ok-got.ensures.bound)) in
    record {
      within = omega (arith, c.in_ok-got.ensures.bound);
      bytes = subst (Consumes (g.R.Read.remaining c.args.from.now) (g.R.Read.remaining c.read.new.self)) (sym e)
          (Consumes-trans _ _ _ _ _ c.loop-n.invariant.bytes c.in_ok-got.ensures.bytes.0);
    }
