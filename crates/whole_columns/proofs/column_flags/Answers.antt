use Prim.Native.Nat.{ℕ}
use mathlib.Core.Path.{sym, ap, ◌∙◌}
use Rattle.format.specs.Answers.{flagged_of}
use Rattle.whole_columns.specs.declared.ColumnRead.{ColumnRead}
use Rattle.whole_columns.proofs.OpeningLaws.{flags-answer, given-rows}
use Rattle.whole_columns.proofs.FillLaws.{kept}
use Rattle.whole_columns.proofs.column_flags.Goals as goal

pub returns-in-Err : goal.returns-in-Err
returns-in-Err c =
    let e = c.no_column.ensures in
    record { value = flags-answer _ _ _ _ (e ∙ sym c.in-Err.ensures); flags_after = kept _ _ _ (ap (λ (y : ColumnRead). y.rows) e) }

pub fill_flags-requires : goal.fill_flags-requires
fill_flags-requires c = let w = c.in-Ok.ensures in record { stands = w.stands; rows_in_bounds = w.fits }

pub returns-in-Ok : goal.returns-in-Ok
returns-in-Ok c =
    let w = c.in-Ok.ensures in
    let e = c.rows_given.ensures in
    record {
      value = flags-answer _ _ _ _ (e ∙ sym w.answer);
      flags_after = given-rows (λ (k i : ℕ). (flagged_of c.args.file.now i k).flag) _ _ _ _ _ w.column e c.fill_flags.ensures;
    }
