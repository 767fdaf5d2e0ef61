-- The loop's invariant: the bytes passed are digits, which make v0 into v. No product wraps, since at most ten digits follow a number below 10^9.
use Prim.Native.Nat.{◌-◌, ◌≤◌}
use Rattle.cells.specs.Inner.Runs.{Written}
use Rattle.cells.proofs.scans.Line.digits.Given as goal

abbrev pub invariant-loop-p : goal.invariant-loop-p
invariant-loop-p l = (l.p ≤ l.self.end) × Written l.self.bytes.now l.i l.v0 l.p (l.p - l.i) l.v
