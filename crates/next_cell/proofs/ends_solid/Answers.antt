use mathlib.Core.Path.{sym}
use mathlib.Core.Bool.{true≢false}
use native.Mathlib.Omega.{arith}
use borrow.Author.Tests.{not-true, eqb-false}
use Rattle.next_cell.proofs.ends_solid.Goals as goal

pub returns-then-stop-i : goal.returns-then-stop-i
returns-then-stop-i c = λ h. absurd (true≢false (sym h))

pub bounds-s-stop : goal.bounds-s-stop
bounds-s-stop c = omega (arith, c.requires (omega arith))

pub returns : goal.returns
returns c = λ h. (omega arith, eqb-false _ 32 (not-true _ h))
