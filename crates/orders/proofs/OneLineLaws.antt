-- One line with no spaces: its one line feed is its last byte.
use Prim.Native.Nat.{ℕ, ◌+◌, ◌-◌}
use mathlib.Core.Path.{◌≡◌}
use mathlib.Core.List.{List}
use mathlib.Core.Bool.{true}
use native.Mathlib.Omega.{arith}
use lib.ListN.{length}
use lib.Dec.{eqb}
use borrow.Author.Tests.{eqb-true}
use Rattle.line_bytes.specs.Bytes.{every}
use Rattle.line_bytes.specs.Cells.{line_at}
use Rattle.line_bytes.proofs.CellLaws.{both_true}
use Rattle.line_bytes.proofs.SpaceLaws.{is_solid}
use Rattle.format.specs.Inner.Lines.{Ends}
use Rattle.orders.specs.ListLines.{is_one_line}

-- the line feed stands at the last place
pub one-ends : (s : List ℕ) → is_one_line s ≡ true → Ends s 0 (length s - 1)
one-ends s h =
    let e = eqb-true (length (line_at s 0) + 1) (length s) (both_true (eqb (length (line_at s 0) + 1) (length s)) (every is_solid s) h).0 in
    record { room = omega arith; far = omega arith }
