-- The loop's invariant: every byte passed is a space. The line feed at e ends it.
use Prim.Native.Nat.{◌-◌, ◌≤◌}
use Rattle.line_bytes.specs.Bytes.{is_space}
use Rattle.line_bytes.specs.Inner.Scans.{Scan}
use Rattle.cells.proofs.scans.Line.spaces.Given as goal

abbrev pub invariant-loop-p : goal.invariant-loop-p
invariant-loop-p l = (l.i ≤ l.p) × (l.p ≤ l.self.end) × Scan is_space l.self.bytes.now l.i l.p

abbrev pub decreases-loop-p : goal.decreases-loop-p
decreases-loop-p l = l.self.end - l.p
