use mathlib.Core.Path.{◌≡◌, refl, ap}
use Prim.Native.Nat.{ℕ}
use native.Mathlib.Nat.{add_comm, add-sub_cancel_left}
use native.Mathlib.Omega.{arith}
use lib.ListN.{take, drop}
use Rattle.format.specs.Grid.{nowhere}
use Rattle.cursors.specs.Walk.{part_of}
use Rattle.cursors.proofs.StepLaws.{part_past, part-long, part-fits}
use Rattle.walk.proofs.part_at.Goals as goal
use Rattle.walk.proofs.part_at.Goals.{then-file-start-via-then-file-start, then-file-start-via-else-file-start+then-file-start-2}

pub returns-then-file-start : goal.returns-then-file-start
returns-then-file-start c =
    let a = c.args in
    let none : part_of a.file.now a.cursor ≡ nowhere = elim c.then-file-start.branch [
      | then-file-start-via-then-file-start w ↦ part_past a.file.now a.cursor w.if-file-start.true
      | then-file-start-via-else-file-start+then-file-start-2 w ↦ part-long a.file.now a.cursor w.if-file-start.false w.if-file-start-2.true
    ] in
    rw none (record { block = refl; offset = omega arith; content = refl })

pub returns : goal.returns
returns c =
    let a = c.args in
    let q = part-fits a.file.now a.cursor (omega (arith, c.if-file-start.false, c.if-file-start-2.false)) in
    rw q
    (record {
      block = refl;
      offset = add_comm _ _;
      content = ap (λ (k : ℕ). take k (drop a.cursor.cell.place.start a.file.now)) (add-sub_cancel_left a.cursor.cell.place.start a.cursor.cell.place.len);
    })
