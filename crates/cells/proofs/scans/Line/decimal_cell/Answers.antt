use native.Mathlib.Omega.{arith}
use mathlib.Core.Path.{sym, ◌∙◌}
use borrow.Author.Tests.{lt-ltb}
use Rattle.verdicts.specs.Decimals.{decimal_of}
use Rattle.verdicts.proofs.JudgeLaws.{kind-decimal}
use Rattle.cells.proofs.ScanLaws.{stop_on, begun_at, judged_solid}
use Rattle.cells.proofs.JudgingLaws.{kind-blank}
use Rattle.cells.proofs.scans.Line.decimal_cell.Goals as goal

pub returns-then-ends : goal.returns-then-ends
returns-then-ends c =
    kind-blank (stop_on c.args.self c.requires.0) c.spaces-a.ensures c.args.kind _ _ c.ends.ensures (rw (c.if-ends.true, lt-ltb c.args.kind 11 (omega arith))) c.blank.ensures

pub decimal-requires : goal.decimal-requires
decimal-requires c = begun_at (stop_on c.args.self c.requires.0) c.spaces-a.ensures (sym c.ends.ensures ∙ c.if-ends.false)

pub returns-else-ends : goal.returns-else-ends
returns-else-ends c =
    kind-decimal _ _ _ _ _ _ (omega arith) c.top.ensures
    (judged_solid (stop_on c.args.self c.requires.0) c.spaces-a.ensures decimal_of _ (sym c.ends.ensures ∙ c.if-ends.false) c.decimal.ensures)
    c.ranged.ensures
