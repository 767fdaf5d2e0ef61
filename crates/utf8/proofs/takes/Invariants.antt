use Prim.Native.Nat.{◌≤◌}
use mathlib.Core.Path.{◌≡◌}
use lib.ListN.{length}
use Rattle.utf8.specs.Syntax.{takes}
use Rattle.utf8.specs.Rows.{row_in}
use Rattle.utf8.proofs.RowLaws.{takes_from}
use Rattle.utf8.proofs.takes.Given as goal

abbrev pub invariant-loop-j : goal.invariant-loop-j
invariant-loop-j l = (l.n ≤ 4) × (l.n ≤ length l.text) × (takes (row_in l.row) l.text ≡ takes_from l.row l.n l.text l.j)
