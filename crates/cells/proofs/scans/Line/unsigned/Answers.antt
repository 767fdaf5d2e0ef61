-- The digits before the point, and those after it: a return for each way in which they end.
use Prim.Native.Nat.{◌*◌, ◌^◌, ◌<◌}
use native.Mathlib.Omega.{arith}
use Rattle.line_bytes.proofs.CellLaws.{stop-short}
use Rattle.cells.proofs.ScanLaws.{stop_on, digits_small, digits_scaled}
use Rattle.cells.proofs.DecimalLaws.{unsigned-wide, unsigned-none, unsigned-whole, unsigned_fine, unsigned-point, unsigned-good}
use Rattle.cells.proofs.scans.Line.unsigned.Goals as goal

pub overflow_sub-q : goal.overflow_sub-q
overflow_sub-q c = c.digits-w.ensures.low

pub returns-then-q-p-gt9 : goal.returns-then-q-p-gt9
returns-then-q-p-gt9 c =
    unsigned-wide (stop_on c.args.self c.requires) c.digits-w.ensures _ _ c.if-q-p-gt9.true c.wrong.ensures

pub returns-then-q-p : goal.returns-then-q-p
returns-then-q-p c =
    unsigned-none (stop_on c.args.self c.requires) c.digits-w.ensures _ _ c.if-self-q-ne46.true c.if-q-p-gt9.false c.if-q-p.true c.wrong-then-q-p.ensures

pub overflow_mul-v : goal.overflow_mul-v
overflow_mul-v c = omega (arith, digits_small c.digits-w.ensures.over c.if-q-p-gt9.false)

pub returns-else-q-p : goal.returns-else-q-p
returns-else-q-p c =
    unsigned-whole (stop_on c.args.self c.requires) c.digits-w.ensures _ _ c.if-self-q-ne46.true c.if-q-p-gt9.false c.if-q-p.false c.close.ensures

pub digits-f-requires : goal.digits-f-requires
digits-f-requires c =
    let l = stop-short (stop_on c.args.self c.digits-w.ensures.high) (λ z. omega arith) in
    (omega (arith, l), omega arith, omega arith, digits_small c.digits-w.ensures.over c.if-q-p-gt9.false)

pub overflow_sub-after : goal.overflow_sub-after
overflow_sub-after c = c.digits-f.ensures.low

pub returns-then-after-gt6 : goal.returns-then-after-gt6
returns-then-after-gt6 c =
    unsigned_fine (stop_on c.args.self c.requires) c.digits-w.ensures _ _ c.if-self-q-ne46.false c.digits-f.ensures c.if-after-gt6.true c.wrong-then-after-gt6.ensures

pub returns-then-r-p-eq1 : goal.returns-then-r-p-eq1
returns-then-r-p-eq1 c =
    unsigned-point (stop_on c.args.self c.requires) c.digits-w.ensures _ _ c.if-self-q-ne46.false c.digits-f.ensures c.if-after-gt6.false c.if-r-p-eq1.true c.wrong-then-r-p-eq1.ensures

pub overflow_mul-f : goal.overflow_mul-f
overflow_mul-f c =
    let y = digits_scaled c.digits-f.ensures.over (digits_small c.digits-w.ensures.over c.if-q-p-gt9.false) c.if-after-gt6.false in
    let z : c.digits-f.result.v * c.last_place.result < 10 ^ 15 = rw c.last_place.ensures y in
    omega (arith, z)

pub returns-else-r-p-eq1 : goal.returns-else-r-p-eq1
returns-else-r-p-eq1 c =
    unsigned-good (stop_on c.args.self c.requires) c.digits-w.ensures _ _ c.if-self-q-ne46.false c.digits-f.ensures c.if-after-gt6.false _ c.if-q-p-gt9.false c.if-r-p-eq1.false c.last_place.ensures c.close-else-r-p-eq1.ensures
