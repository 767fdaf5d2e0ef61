use mathlib.Core.Path.{sym}
use native.Mathlib.Omega.{arith}
use Rattle.line_bytes.specs.Inner.Scans.{Scan}
use Rattle.lines.proofs.LinePassLaws.{scan-join}
use Rattle.lines.proofs.first_odd.Goals as goal

pub loop-i-init : goal.loop-i-init
loop-i-init c =
    let a = c.past_plain.ensures in
    let b = c.past_plain-i.ensures in
    (omega (arith, a.low, b.low), b.high, scan-join a.over b.over)

pub loop-i-preserved : goal.loop-i-preserved
loop-i-preserved c = (omega arith, omega arith, Scan.more c.loop-i.invariant.2 (omega arith) (sym c.if-is_plain.ensures))

pub returns-else-is_plain : goal.returns-else-is_plain
returns-else-is_plain c = record { low = c.loop-i.invariant.0; high = c.loop-i.invariant.1; over = c.loop-i.invariant.2 }

pub returns-after-loop-i : goal.returns-after-loop-i
returns-after-loop-i c = record { low = c.loop-i.invariant.0; high = c.loop-i.invariant.1; over = c.loop-i.invariant.2 }
