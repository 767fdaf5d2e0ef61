use Prim.Native.Nat.{◌≤◌}
use native.Mathlib.Omega.{arith}
use Rattle.verdicts.specs.Judge.{key_text_of, date_of, time_of}
use Rattle.verdicts.proofs.JudgeLaws.{kind-key, kind-date, kind-time, kind-free}
use Rattle.cells.proofs.ScanLaws.{stop_on, begun_at, judged_solid, cell_end_spaces}
use Rattle.cells.proofs.JudgingLaws.{key_word, text_asked, kind-blank}
use Rattle.cells.proofs.scans.Line.other_cell.Goals as goal
use Rattle.cells.proofs.scans.Line.other_cell.Goals.{in_default-via-then-kind-lt6, in_default-via-else-kind-lt6+else-kind-lt8}

pub returns-then-ends-kind : goal.returns-then-ends-kind
returns-then-ends-kind c =
    kind-blank (stop_on c.args.self c.requires.0) c.spaces-a.ensures c.args.kind _ _ c.ends.ensures c.if-ends-kind.true c.blank.ensures

pub returns-in-6-to-7 : goal.returns-in-6-to-7
returns-in-6-to-7 c =
    kind-key _ _ _ _ (omega arith) (omega arith)
    (judged_solid (stop_on c.args.self c.requires.0) c.spaces-a.ensures key_text_of _ (text_asked _ _ _ c.ends.ensures c.if-ends-kind.false (omega arith))
    (key_word (stop_on c.args.self c.spaces-a.ensures.high) c.word_end.ensures _ c.close.ensures))

pub returns-in-9 : goal.returns-in-9
returns-in-9 c =
    kind-date _ _ _ _ c.in-9.is
    (judged_solid (stop_on c.args.self c.requires.0) c.spaces-a.ensures date_of _ (text_asked _ _ _ c.ends.ensures c.if-ends-kind.false (omega arith)) c.date.ensures)

pub time-requires : goal.time-requires
time-requires c =
    begun_at (stop_on c.args.self c.requires.0) c.spaces-a.ensures (text_asked _ _ _ c.ends.ensures c.if-ends-kind.false (omega arith))

pub returns-in-10 : goal.returns-in-10
returns-in-10 c =
    kind-time _ _ _ _ c.in-10.is
    (judged_solid (stop_on c.args.self c.requires.0) c.spaces-a.ensures time_of _ (text_asked _ _ _ c.ends.ensures c.if-ends-kind.false (omega arith)) c.time.ensures)

pub returns-in_default : goal.returns-in_default
returns-in_default c =
    let t = stop_on c.args.self c.requires.0 in
    let l : 11 ≤ c.args.kind =
    elim c.in_default.branch [
      | in_default-via-then-kind-lt6 w ↦ omega arith
      | in_default-via-else-kind-lt6+else-kind-lt8 w ↦ omega arith
    ]
    in
    kind-free _ _ _ _ l (rw (cell_end_spaces t c.spaces-a.ensures.over, c.text_end.ensures.0))
