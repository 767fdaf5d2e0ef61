-- What is left of the names, after the earlier ones, gives the fault of all; in the inner loop no earlier name is the same.
use Rattle.std.proofs.Common.{rules}
use mathlib.Core.Path.{◌≡◌, sym, ◌∙◌}
use native.Mathlib.Omega.{arith}
use mathlib.Core.List.{[]}
use mathlib.Core.Bool.{false, true}
use lib.ListN.{get_or, take}
use Rattle.line_bytes.specs.Bytes.{equal}
use Rattle.line_bytes.specs.Names.{is_name}
use Rattle.format.specs.Faults.{member}
use Rattle.format.specs.Inner.Names.{names_at}
use Rattle.format.proofs.NameLaws.{names-length, from_first, member-none, member-more, member_at, fault-end, fault_bad, fault_repeated, fault-step}
use Rattle.names.proofs.first_fault.Goals as goal

pub loop-j-init : goal.loop-j-init
loop-j-init c =
    let a = c.args in
    let ns = names_at a.s.now a.places.now in
    (c.names.invariant.0, member-none ns (get_or ns c.names.k []))

pub loop-j-preserved : goal.loop-j-preserved
loop-j-preserved c =
    let a = c.args in
    let o = c.names in
    let l = c.loop-j in
    let ns = names_at a.s.now a.places.now in
    let z = names-length a.s.now a.places.now in
    let e : equal (get_or ns l.j []) (get_or ns o.k []) ≡ false = search rules in
    (l.invariant.0, member-more ns (get_or ns o.k []) l.j (omega (arith, z)) l.invariant.1 e)

pub names-preserved : goal.names-preserved
names-preserved c =
    let a = c.args in
    let o = c.names in
    let l = c.loop-j in
    let ns = names_at a.s.now a.places.now in
    let e : l.j ≡ o.k = omega arith in
    let m : member (get_or ns o.k []) (take o.k ns) ≡ false = rw e at l.invariant.1 in
    let g : is_name (get_or ns o.k []) ≡ true = search rules in
    (l.invariant.0, o.invariant.1 ∙ fault-step ns o.k (omega (arith, names-length a.s.now a.places.now)) g m)

pub returns-after-names : goal.returns-after-names
returns-after-names c =
    let a = c.args in
    let o = c.names in
    let ns = names_at a.s.now a.places.now in
    o.invariant.0 ∙ sym (from_first ns ∙ o.invariant.1 ∙ fault-end ns o.k (omega (arith, names-length a.s.now a.places.now)))

pub returns-then-not-is_name : goal.returns-then-not-is_name
returns-then-not-is_name c =
    let a = c.args in
    let o = c.names in
    let ns = names_at a.s.now a.places.now in
    let g : is_name (get_or ns o.k []) ≡ false = search rules in
    sym (from_first ns ∙ o.invariant.1 ∙ fault_bad ns o.k (omega (arith, names-length a.s.now a.places.now)) g)

pub returns-then-same : goal.returns-then-same
returns-then-same c =
    let a = c.args in
    let o = c.names in
    let l = c.loop-j in
    let ns = names_at a.s.now a.places.now in
    let z = names-length a.s.now a.places.now in
    let e : equal (get_or ns l.j []) (get_or ns o.k []) ≡ true = search rules in
    let g : is_name (get_or ns o.k []) ≡ true = search rules in
    sym (from_first ns ∙ o.invariant.1 ∙ fault_repeated ns o.k (omega (arith, z)) g (member_at ns (get_or ns o.k []) l.j o.k (omega arith) (omega (arith, z)) e))
