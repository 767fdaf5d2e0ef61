-- The columns passed have their kinds, and rule 12 goes on from the present name.
use mathlib.Core.Path.{refl}
use native.Mathlib.Omega.{arith}
use Rattle.line_bytes.specs.Cells.{pieces, line_at}
use Rattle.columns.proofs.NamesLineLaws.{start-after}
use Rattle.columns.proofs.ColumnLaws.{kinded-none, turn-refused, turn-kept, kinds-refused, kinds_done}
use Rattle.columns.proofs.kinds_of.Goals as goal

pub loop-k-init : goal.loop-k-init
loop-k-init c = kinded-none _ _ refl

pub returns : goal.returns
returns c =
    let a = c.args in
    kinds_done (pieces 44 (line_at a.s.now a.at)) _ _ _ c.loop-k.invariant (omega arith) c.requires.1

pub broken-requires : goal.broken-requires
broken-requires c =
    let h = c.loop-k-test.true in
    let p = c.requires.0 in
    (start-after _ _ (pieces 44 (line_at c.args.s.now c.args.at)) _ (p.begin _ _ h), omega (arith, p.inside _ (record { start = 0; len = 0 }) h))

pub returns-then-not-keeps_parameter : goal.returns-then-not-keeps_parameter
returns-then-not-keeps_parameter c =
    let h = c.loop-k-test.true in
    let a = c.args in
    kinds-refused _ _ (pieces 44 (line_at a.s.now a.at)) _ (c.requires.0.begin _ _ h) _ 12 c.broken.ensures _
    (turn-refused _ _ _ c.requires.0 c.requires.1 _ h _ c.loop-k.invariant _ c.name_at-name.ensures _ c.keeps_parameter.ensures c.if-not-keeps_parameter.true)

pub loop-k-preserved : goal.loop-k-preserved
loop-k-preserved c =
    turn-kept _ _ _ c.requires.0 c.requires.1 _ c.loop-k-test.true _ c.loop-k.invariant _ c.name_at-name.ensures _ c.keeps_parameter.ensures c.if-not-keeps_parameter.false _ c.kind_of_name.ensures
