use Prim.Native.Nat.{ℕ}
use mathlib.Core.Path.{sym, ap, ◌∙◌}
use native.Mathlib.Omega.{arith}
use Rattle.format.specs.Answers.{reading_for}
use Rattle.format.specs.ReadingNumbers.{reading_case, read_millionths, read_value}
use Rattle.whole_columns.specs.declared.ColumnRead.{ColumnRead}
use Rattle.whole_columns.proofs.OpeningLaws.{values-answer, given-rows}
use Rattle.whole_columns.proofs.FillLaws.{kept}
use Rattle.whole_columns.proofs.column_values.Goals as goal

pub returns-in-Err : goal.returns-in-Err
returns-in-Err c =
    let e = c.no_column.ensures in
    let z = ap (λ (y : ColumnRead). y.rows) e in
    record {
      value = values-answer _ _ _ _ _ _ _ _ c.min.ensures c.min-room.ensures (e ∙ sym c.in-Err.ensures);
      cases_after = kept _ _ _ z;
      millionths_after = kept _ _ _ z;
      values_after = kept _ _ _ z;
    }

pub fill_values-requires : goal.fill_values-requires
fill_values-requires c =
    let w = c.in-Ok.ensures in
    record { stands = w.stands; rows_in_bounds = (omega (arith, w.fits), omega (arith, w.fits), omega (arith, w.fits)) }

pub returns-in-Ok : goal.returns-in-Ok
returns-in-Ok c =
    let s = c.args.file.now in
    let w = c.in-Ok.ensures in
    let e = c.rows_given.ensures in
    let f = c.fill_values.ensures in
    record {
      value = values-answer _ _ _ _ _ _ _ _ c.min.ensures c.min-room.ensures (e ∙ sym w.answer);
      cases_after = given-rows (λ (k i : ℕ). reading_case (reading_for s i k)) _ _ _ _ _ w.column e f.cases_after;
      millionths_after = given-rows (λ (k i : ℕ). read_millionths (reading_for s i k)) _ _ _ _ _ w.column e f.millionths_after;
      values_after = given-rows (λ (k i : ℕ). read_value (reading_for s i k)) _ _ _ _ _ w.column e f.values_after;
    }
