-- A span that does not fit has the empty text.
use native.Mathlib.Omega.{arith}
use Rattle.rows.proofs.KeyLaws.{span_none, span-some}
use Rattle.rows.proofs.span_text.Goals.{then-s-x-via-then-s-x, then-s-x-via-else-s-x+then-s-x-2}
use Rattle.rows.proofs.span_text.Goals as goal

pub returns-then-s-x : goal.returns-then-s-x
returns-then-s-x c =
    elim c.then-s-x.branch [
      | then-s-x-via-then-s-x w ↦ span_none _ _ (omega (arith, w.if-s-x.true))
      | then-s-x-via-else-s-x+then-s-x-2 w ↦ span_none _ _ (omega (arith, w.if-s-x-2.true, w.if-s-x.false))
    ]

pub returns : goal.returns
returns c = span-some _ _ _ c.trimmed.ensures.content
