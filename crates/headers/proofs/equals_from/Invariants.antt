-- The = of the whole line is that of what is left of it.
use Prim.Native.Nat.{max, ◌≤◌}
use mathlib.Core.Path.{◌≡◌}
use lib.ListN.{length}
use Rattle.line_bytes.specs.Cells.{cell_end}
use Rattle.headers.proofs.equals_from.Given as goal

abbrev pub invariant-loop-i : goal.invariant-loop-i
invariant-loop-i l = (l.i ≤ max l.at (length l.s)) × (cell_end 61 l.s l.at ≡ cell_end 61 l.s l.i)
