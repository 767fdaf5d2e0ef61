use native.Mathlib.Omega.{arith}
use lib.ListN.{get_or}
use Rattle.line_bytes.proofs.DigitLaws.{digit_range}
use Rattle.cells.proofs.ScanLaws.{begun_on}
use Rattle.cells.proofs.JudgingLaws.{digit-within, flag-wrong, flag-held}
use Rattle.cells.proofs.scans.Line.flag.Goals as goal

pub returns-then-b : goal.returns-then-b
returns-then-b c =
    flag-wrong (begun_on c.args.self c.requires) _ _ c.requires.inside c.requires.solid c.if-b.true c.wrong.ensures

pub overflow_sub-b : goal.overflow_sub-b
overflow_sub-b c =
    let b = get_or c.args.self.bytes.now c.args.a 0 in
    (digit_range b (digit-within b c.if-b.false)).0

pub overflow_cast-b : goal.overflow_cast-b
overflow_cast-b c =
    let b = get_or c.args.self.bytes.now c.args.a 0 in
    omega (arith, digit_range b (digit-within b c.if-b.false))

pub returns-else-b : goal.returns-else-b
returns-else-b c = flag-held (begun_on c.args.self c.requires) _ c.if-b.false _ c.close-c.ensures _ c.within.ensures
