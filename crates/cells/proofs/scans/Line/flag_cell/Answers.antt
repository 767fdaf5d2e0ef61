use Prim.Native.Nat.{ℕ}
use mathlib.Core.List.{List}
use mathlib.Core.Path.{sym, ◌∙◌}
use native.Mathlib.Omega.{arith}
use lib.Dec.{eqb}
use borrow.Author.Tests.{lt-ltb}
use Rattle.verdicts.specs.Judge.{in_flags, whole_of}
use Rattle.verdicts.proofs.JudgeLaws.{kind-flag}
use Rattle.cells.proofs.ScanLaws.{stop_on, begun_at, judged_solid}
use Rattle.cells.proofs.JudgingLaws.{kind-blank}
use Rattle.cells.proofs.scans.Line.flag_cell.Goals as goal

pub returns-then-ends : goal.returns-then-ends
returns-then-ends c =
    kind-blank (stop_on c.args.self c.requires.0) c.spaces-a.ensures c.args.kind _ _ c.ends.ensures (rw (c.if-ends.true, lt-ltb c.args.kind 11 (omega arith))) c.blank.ensures

pub flag-requires : goal.flag-requires
flag-requires c = begun_at (stop_on c.args.self c.requires.0) c.spaces-a.ensures (sym c.ends.ensures ∙ c.if-ends.false)

pub returns-else-ends : goal.returns-else-ends
returns-else-ends c =
    kind-flag _ _ _ _ (omega arith) (omega arith)
    (judged_solid (stop_on c.args.self c.requires.0) c.spaces-a.ensures (λ (t : List ℕ). in_flags (eqb c.args.kind 5) (whole_of 1 t)) _
    (sym c.ends.ensures ∙ c.if-ends.false) c.flag.ensures)
