use mathlib.Core.Path.{◌≡◌}
use mathlib.Core.Bool.{true}
use Prim.Native.Nat.{◌+◌}
use Rattle.line_bytes.specs.Inner.Scans.{Scan}
use Rattle.line_bytes.specs.Inner.Lines.{is_plain}
use Rattle.lines.proofs.are_plain.Given as goal

abbrev pub invariant-loop-b : goal.invariant-loop-b
invariant-loop-b g l = l.plain ≡ true → Scan is_plain l.s l.i (l.i + l.b-index)
