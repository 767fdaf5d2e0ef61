-- The loop's invariant: the bytes passed are digits, which make v0 into v. No product wraps, since at most ten digits follow a number below 10^9.
use Prim.Native.Nat.{◌+◌, ◌-◌}
use mathlib.Core.Path.{◌≡◌}
use native.Mathlib.Omega.{arith}
use lib.ListN.{get_or}
use Rattle.cells.specs.Inner.Runs.{Written}
use Rattle.line_bytes.proofs.CellLaws.{stop-short}
use Rattle.line_bytes.proofs.DigitLaws.{digit_range}
use Rattle.cells.proofs.ScanLaws.{stop_on, digits-room}
use Rattle.cells.proofs.JudgingLaws.{digit-within}
use Rattle.cells.proofs.scans.Line.digits.Goals as goal

pub loop-p-init : goal.loop-p-init
loop-p-init c = let z : c.args.i - c.args.i ≡ 0 = omega arith in (c.requires.0, rw z Written.still)

pub overflow_mul-v : goal.overflow_mul-v
overflow_mul-v c = omega (arith, digits-room c.loop-p.invariant.1 c.requires.3 (omega arith))

pub overflow_add-v : goal.overflow_add-v
overflow_add-v c =
    let b = get_or c.args.self.bytes.now c.loop-p.p 0 in
    omega (arith, digits-room c.loop-p.invariant.1 c.requires.3 (omega arith), digit_range b (digit-within b c.if-d.false))

pub loop-p-preserved : goal.loop-p-preserved
loop-p-preserved c =
    let b = get_or c.args.self.bytes.now c.loop-p.p 0 in
    let d = digit-within b c.if-d.false in
    let r = digit_range b d in
    let l = stop-short (stop_on c.args.self c.loop-p.invariant.0) (λ z. omega (arith, r)) in
    let z : c.loop-p.p + 1 - c.args.i ≡ c.loop-p.p - c.args.i + 1 = omega arith in
    (omega (arith, l), rw z (Written.more c.loop-p.invariant.1 (omega arith) d))
