-- What is left to judge, from the present cell and counts, gives what the whole line gives.
use Prim.Native.Nat.{◌≤◌}
use mathlib.Core.Path.{◌≡◌}
use Rattle.line_bytes.specs.Cells.{pieces, line_at}
use Rattle.verdicts.specs.Rows.{no_keys, cells_from}
use Rattle.verdicts.proofs.RowLaws.{left}
use Rattle.cells.proofs.scans.Line.cells.Given as goal

abbrev pub invariant-loop-k : goal.invariant-loop-k
invariant-loop-k l =
    (l.at ≤ l.self.end) × (l.missing ≤ l.k)
    × (cells_from l.i l.i 0 0 no_keys l.kinds (pieces l.self.separator (line_at l.self.bytes.now l.i)) ≡ left l.i l.kinds l.self.bytes.now l.self.separator l.at l.k l.missing l.keys)
