-- The run from the start is what is left from the present line on, after the headers read.
use Prim.Native.Nat.{ℕ}
use mathlib.Core.Path.{◌≡◌, refl, sym, subst, ◌∙◌}
use native.Mathlib.Omega.{arith}
use lib.ListN.{take, length-set}
use Rattle.std.proofs.Common.{rules}
use Rattle.headers.proofs.HeaderLaws.{first-kept, first_said, header-kept}
use Rattle.format.specs.Inner.Names.{names_at}
use Rattle.rules.proofs.ExitLaws.{goes-on, ends}
use Rattle.rules.proofs.HeaderRunLaws.{HeadersOn, first_on, left_ended, left-refused, left-on, left-named, left_lacking, place, take-more}
use Rattle.rules.proofs.heads.more_headers.Goals as goal

pub overflow_sub-places : goal.overflow_sub-places
overflow_sub-places c = omega (arith, (first-kept c.args.s.now c.args.from.at _ c.requires.read).named)

pub overflow_add-at : goal.overflow_add-at
overflow_add-at c = omega (arith, (first-kept c.args.s.now c.args.from.at _ c.requires.read).parted.room)

pub loop-count-init : goal.loop-count-init
loop-count-init c =
    let b = c.requires in
    let a = c.args in
    let k = first-kept a.s.now a.from.at _ b.read in
    let d = first_said a.s.now a.from.at _ b.read in
    (omega (arith, k.parted, k.named, b.few), omega (arith, k.parted.room), refl, first_on a.s.now a.from b.inside b.apart _ b.read)

pub returns-then-s-at : goal.returns-then-s-at
returns-then-s-at c = rw c.line_due.ensures (left_ended c.loop-count.invariant.3 c.loop-count-test.true c.if-s-at.true)

pub returns-in_err-g : goal.returns-in_err-g
returns-in_err-g c =
    let w = ends _ _ c.from_residual.result _ _ c.on_line.ensures c.in_err-g.was c.from_residual.ensures.1 in
    rw w.2 (left-refused c.loop-count.invariant.3 c.loop-count-test.true c.if-s-at.false _ (sym c.header_line.ensures ∙ w.1))

pub overflow_sub-places-in-loop-count : goal.overflow_sub-places-in-loop-count
overflow_sub-places-in-loop-count c =
    let z = sym c.header_line.ensures ∙ goes-on _ _ _ _ c.on_line.ensures c.in_ok-g.was in
    omega (arith, (header-kept c.args.s.now c.loop-count.at (names_at c.args.s.now (take c.loop-count.count c.loop-count.places)) _ z).named)

pub bounds-places-count : goal.bounds-places-count
bounds-places-count c =
    let d = first_said c.args.s.now c.args.from.at _ c.requires.read in
    omega (arith, d.2, c.loop-count-test.true)

pub overflow_add-at-in-loop-count : goal.overflow_add-at-in-loop-count
overflow_add-at-in-loop-count c =
    let z = sym c.header_line.ensures ∙ goes-on _ _ _ _ c.on_line.ensures c.in_ok-g.was in
    let k = header-kept c.args.s.now c.loop-count.at (names_at c.args.s.now (take c.loop-count.count c.loop-count.places)) _ z in
    omega (arith, k.parted.room)

pub loop-count-preserved : goal.loop-count-preserved
loop-count-preserved c =
    let a = c.args in
    let l = c.loop-count in
    let z = sym c.header_line.ensures ∙ goes-on _ _ _ _ c.on_line.ensures c.in_ok-g.was in
    let k = header-kept a.s.now l.at (names_at a.s.now (take l.count l.places)) _ z in
    let d = first_said a.s.now a.from.at _ c.requires.read in
    let t = take-more l.places l.count (place l.at c.in_ok-g.g.equals) (omega (arith, d.2, c.loop-count-test.true, l.invariant.2)) in (
      omega (arith, k.parted, k.named, l.invariant.0),
      omega (arith, k.parted.room),
      simp length-set l.invariant.2,
      rw t (left-on l.invariant.3 c.loop-count-test.true c.if-s-at.false _ z),
    )

pub overflow_sub-result : goal.overflow_sub-result
overflow_sub-result c =
    let d = first_said c.args.s.now c.args.from.at _ c.requires.read in
    omega (arith, d.1)

pub returns-then-not-has_station : goal.returns-then-not-has_station
returns-then-not-has_station c =
    let a = c.args in
    let l = c.loop-count in
    let d = first_said a.s.now a.from.at _ c.requires.read in
    let e : l.count ≡ a.first.said = omega (arith, l.auto.count-end (omega (arith, d.1)), c.loop-count-test.false) in
    let o = subst (λ (n : ℕ). HeadersOn a.s.now a.from a.first.said n (take n l.places) l.at) e l.invariant.3 in
    left_lacking o (omega arith) _ c.has_station.ensures (search rules)

pub returns : goal.returns
returns c =
    let a = c.args in
    let l = c.loop-count in
    let d = first_said a.s.now a.from.at _ c.requires.read in
    let e : l.count ≡ a.first.said = omega (arith, l.auto.count-end (omega (arith, d.1)), c.loop-count-test.false) in
    let o = subst (λ (n : ℕ). HeadersOn a.s.now a.from a.first.said n (take n l.places) l.at) e l.invariant.3 in
    left-named o (omega arith) _ c.has_station.ensures (search rules) (omega (arith, d.1)) l.invariant.1 (omega (arith, l.invariant.0, e))
