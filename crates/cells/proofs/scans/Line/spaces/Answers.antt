-- The loop's invariant: every byte passed is a space. The line feed at e ends it.
use native.Mathlib.Omega.{arith}
use borrow.Author.Rules.{rules}
use borrow.Author.Tests.{eq-eqb, ne_eqb}
use Rattle.line_bytes.specs.Inner.Scans.{Scan}
use Rattle.line_bytes.proofs.CellLaws.{stop-short}
use Rattle.cells.proofs.ScanLaws.{stop_on}
use Rattle.cells.proofs.scans.Line.spaces.Goals as goal

pub loop-p-init : goal.loop-p-init
loop-p-init c = (search rules, search rules, Scan.still)

pub loop-p-smaller : goal.loop-p-smaller
loop-p-smaller c = omega (arith, stop-short (stop_on c.args.self c.loop-p.invariant.1) (λ z. omega arith))

pub loop-p-preserved : goal.loop-p-preserved
loop-p-preserved c =
    let l = stop-short (stop_on c.args.self c.loop-p.invariant.1) (λ z. omega arith) in
    (omega arith, omega (arith, l), Scan.more c.loop-p.invariant.2 (omega arith) (eq-eqb _ _ c.loop-p-test.true))

pub returns : goal.returns
returns c = let a = c.loop-p.invariant in record { low = a.0; high = a.1; over = a.2; stops = ne_eqb _ _ c.loop-p-test.false }
