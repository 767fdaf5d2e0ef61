-- The loop's invariant: the cell that goes on at p ends where that at i does.
use Prim.Native.Nat.{◌-◌, ◌≤◌}
use mathlib.Core.Path.{◌≡◌}
use Rattle.line_bytes.specs.Cells.{cell_end}
use Rattle.cells.proofs.scans.Line.text_end.Given as goal

abbrev pub invariant-loop-p : goal.invariant-loop-p
invariant-loop-p l = (l.i ≤ l.p) × (l.p ≤ l.self.end) × (cell_end l.self.separator l.self.bytes.now l.i ≡ cell_end l.self.separator l.self.bytes.now l.p)

abbrev pub decreases-loop-p : goal.decreases-loop-p
decreases-loop-p l = l.self.end - l.p
