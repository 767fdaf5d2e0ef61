-- The loop's invariant: the run goes on from the present line.
use mathlib.Core.Path.{sym, ◌∙◌}
use native.Mathlib.Omega.{arith}
use borrow.Author.Tests.{eqb-true}
use Rattle.std.proofs.Common.{rules}
use Rattle.rules.proofs.FreeLaws.{free_broken, free_on}
use Rattle.rules.proofs.ExitLaws.{exit, after-ends, next-read}
use Rattle.rules.proofs.free.free_lines.Goals.{then-eq, else-eq}
use Rattle.rules.proofs.free.free_lines.Goals as goal

pub returns-in_err-next : goal.returns-in_err-next
returns-in_err-next c =
    let w = after-ends _ _ _ (sym c.line_after.ensures ∙ c.in_err-next.was) in
    rw (exit _ _ c.from_residual.ensures.1, w.2) (λ p f. c.loop-next.invariant.4 p f
    ∙ free_broken f _ _ c.loop-next-test.true (λ q. elim c.if-eq.branch [ then-eq b ↦ search rules | else-eq b ↦ eqb-true _ _ (sym b.value-is ∙ c.if-s-next-eq35.true) ]) w.0 w.1 _)

pub loop-next-smaller : goal.loop-next-smaller
loop-next-smaller c =
    let d = next-read _ _ _ _ _ (sym c.line_after.ensures ∙ c.in_ok-next.was) in
    omega (arith, d.inside)

pub loop-next-preserved : goal.loop-next-preserved
loop-next-preserved c =
    let d = next-read _ _ _ _ _ (sym c.line_after.ensures ∙ c.in_ok-next.was) in
    let v = c.loop-next.invariant in (
      omega (arith, v.0, d.inside),
      d.inside.1,
      omega (arith, v.2, d.inside, d.counted),
      omega (arith, v.3, d.inside, d.counted),
      λ p f. v.4 p f
          ∙ free_on f _ _ c.loop-next-test.true (λ q. elim c.if-eq.branch [ then-eq b ↦ search rules | else-eq b ↦ eqb-true _ _ (sym b.value-is ∙ c.if-s-next-eq35.true) ]) _ _ d,
      λ o y. (omega (arith, d.counted), d.starts (v.5 o y).0 (v.5 o y).1),
    )
