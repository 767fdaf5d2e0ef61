-- The loop's invariant: every byte passed is one of a word.
use Prim.Native.Nat.{◌-◌, ◌≤◌}
use Rattle.line_bytes.specs.Inner.Scans.{Scan}
use Rattle.cells.specs.Inner.Runs.{word_byte}
use Rattle.cells.proofs.scans.Line.word_end.Given as goal

abbrev pub invariant-loop-i : goal.invariant-loop-i
invariant-loop-i l = (l.i ≤ l.p) × (l.p ≤ l.self.end) × Scan (word_byte l.self.separator) l.self.bytes.now l.i l.p

abbrev pub decreases-loop-i : goal.decreases-loop-i
decreases-loop-i l = l.self.end - l.p
