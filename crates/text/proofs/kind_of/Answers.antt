use Prim.Native.Nat.{ℕ}
use native.Mathlib.Omega.{arith}
use Rattle.std.proofs.Common.{Option, unwrap_or}
use mathlib.Core.Path.{ap, sym, ◌∙◌}
use Rattle.text.proofs.EntryLaws.{search-start, search-end, search-stop, search-step, kind-nowhere, kind_at_lem}
use Rattle.text.proofs.kind_of.Goals as goal

pub loop-k-init : goal.loop-k-init
loop-k-init c = search-start _ _

pub returns-then-is_entry : goal.returns-then-is_entry
returns-then-is_entry c =
    c.unwrap_or.ensures
    ∙ ap (λ (o : Option ℕ). unwrap_or o 11) c.copied.ensures
    ∙ c.get.ensures.lookup.4 (omega arith) 11
    ∙ kind_at_lem _ _ _ _ (c.loop-k.invariant ∙ search-stop _ _ _ c.loop-k-test.true (sym c.is_entry.ensures ∙ c.if-is_entry.true))

pub loop-k-preserved : goal.loop-k-preserved
loop-k-preserved c =
    c.loop-k.invariant ∙ search-step _ _ _ c.loop-k-test.true (sym c.is_entry.ensures ∙ c.if-is_entry.false)

pub returns : goal.returns
returns c = kind-nowhere _ _ _ (c.loop-k.invariant ∙ search-end _ _ _ c.loop-k-test.false)
