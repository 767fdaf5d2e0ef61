-- The part of the file at the cell's place.
use Prim.Native.Nat.{ℕ}
use mathlib.Core.Path.{refl, ap}
use native.Mathlib.Nat.{add_comm, add-sub_cancel_left}
use native.Mathlib.Omega.{arith}
use lib.ListN.{take, drop}
use Rattle.exchange.proofs.CellLaws.{place_is, place-refusal, place-fits}
use Rattle.exchange.proofs.cell.Goals as goal

pub overflow_add-end : goal.overflow_add-end
overflow_add-end c = omega (arith, place-fits _ _ _ _ c.cell_place-p.ensures)

pub slice_bounds-result-end : goal.slice_bounds-result-end
slice_bounds-result-end c = place-fits _ _ _ _ c.cell_place-p.ensures

pub returns : goal.returns
returns c =
    let s = c.args.file in
    let p = c.cell_place-p.result in
    let e = c.cell_place-p.ensures in
    record {
      part = rw (← place_is _ _ _ p e)
          (record { block = refl; offset = add_comm _ _; content = ap (λ (k : ℕ). take k (drop p.place.start s.now)) (add-sub_cancel_left p.place.start p.place.len) });
      refusal_after = place-refusal _ _ _ p e;
    }
