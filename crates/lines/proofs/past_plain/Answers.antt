use native.Mathlib.Omega.{arith}
use Rattle.line_bytes.specs.Inner.Scans.{Scan}
use Rattle.lines.proofs.LinePassLaws.{scan-join}
use Rattle.lines.proofs.past_plain.Goals as goal

pub loop-i-init : goal.loop-i-init
loop-i-init g c = (omega arith, c.requires.range.0, Scan.still)

pub overflow_sub-limit : goal.overflow_sub-limit
overflow_sub-limit g c = c.loop-i.invariant.1

pub loop-i-smaller : goal.loop-i-smaller
loop-i-smaller g c = omega (arith, c.requires.size, c.loop-i-test.true)

pub loop-i-preserved : goal.loop-i-preserved
loop-i-preserved g c = (
  omega (arith, c.loop-i.invariant.0),
  omega (arith, c.loop-i.invariant.1, c.loop-i-test.true),
  scan-join c.loop-i.invariant.2 (c.are_plain.ensures c.if-are_plain.true),
)

pub returns-else-are_plain : goal.returns-else-are_plain
returns-else-are_plain g c = record { low = c.loop-i.invariant.0; high = c.loop-i.invariant.1; over = c.loop-i.invariant.2 }

pub returns-after-loop-i : goal.returns-after-loop-i
returns-after-loop-i g c = record { low = c.loop-i.invariant.0; high = c.loop-i.invariant.1; over = c.loop-i.invariant.2 }
