use Prim.Native.Nat.{ℕ, ◌+◌, ◌*◌, ◌<◌}
use native.Mathlib.Omega.{arith}
use mathlib.Core.Path.{◌≡◌, ap, sym, ◌∙◌, refl}
use lib.ListN.{length, get_or}
use lib.Dec.{eqb}
use borrow.Author.Rules.{rules}
use Rattle.text.proofs.EntryLaws.{entry-long, entry-stop, entry-step, entry-ends, entry_full}
use Rattle.text.proofs.catalogue.is_entry.Goals as goal

pub returns-then-name-gt-ENTRY : goal.returns-then-name-gt-ENTRY
returns-then-name-gt-ENTRY c = sym (entry-long _ c.args.name.now _ c.requires c.if-name-gt-ENTRY.true)

pub loop-j-init : goal.loop-j-init
loop-j-init c = refl

pub returns-then-listed-entry : goal.returns-then-listed-entry
returns-then-listed-entry c = sym (c.loop-j.invariant ∙ entry-stop _ c.args.name.now _ c.requires _ (search rules) c.loop-j-test.true c.if-listed-entry.true)

pub loop-j-preserved : goal.loop-j-preserved
loop-j-preserved c = c.loop-j.invariant ∙ entry-step _ c.args.name.now _ c.requires _ (search rules) c.loop-j-test.true c.if-listed-entry.false

pub returns-then-name-eq-ENTRY : goal.returns-then-name-eq-ENTRY
returns-then-name-eq-ENTRY c =
    ap (λ (m : ℕ). eqb m 16) c.if-name-eq-ENTRY.true
    ∙ sym (c.loop-j.invariant ∙ entry_full _ c.args.name.now _ c.requires _ (omega (arith, c.if-name-eq-ENTRY.true, c.loop-j-test.false)) c.loop-j-test.false)

pub returns-else-name-eq-ENTRY : goal.returns-else-name-eq-ENTRY
returns-else-name-eq-ENTRY c =
    let a = c.args in
    let e : c.loop-j.j ≡ length a.name.now = omega (arith, c.loop-j-test.false, c.loop-j.auto.j-end) in
    let low : c.loop-j.j < 16 = omega (arith, e, c.if-name-gt-ENTRY.false, c.if-name-eq-ENTRY.false) in
    sym (c.loop-j.invariant ∙ entry-ends _ a.name.now _ c.requires _ low c.loop-j-test.false ∙ ap (λ (m : ℕ). eqb (get_or a.listed.now (16 * a.k + m) 0) 0) e)
