use Prim.Native.Nat.{◌-◌, ◌≤◌}
use Rattle.line_bytes.specs.Inner.Scans.{Scan}
use Rattle.line_bytes.specs.Inner.Lines.{is_plain}
use Rattle.lines.proofs.past_plain.Given as goal

abbrev pub invariant-loop-i : goal.invariant-loop-i
invariant-loop-i g l = (l.at ≤ l.i) × (l.i ≤ l.limit) × Scan is_plain l.s l.at l.i

abbrev pub decreases-loop-i : goal.decreases-loop-i
decreases-loop-i g l = l.limit - l.i
