use borrow.Author.Rules.{rules}
use Rattle.whole_columns.proofs.FillingLaws.{fill_start, fill_turn, fill_end}
use Rattle.whole_columns.proofs.filling.fill_values.Goals as goal

pub loop-k-init : goal.loop-k-init
loop-k-init c = fill_start c.requires.stands c.requires.rows_in_bounds

pub loop-k-preserved : goal.loop-k-preserved
loop-k-preserved c =
    fill_turn c.requires.stands c.requires.rows_in_bounds c.loop-k.invariant c.loop-k-test.true _ c.decimal_step-d.ensures _ c.entry_for-x.ensures _ (search rules)

pub returns : goal.returns
returns c =
    let f = fill_end c.requires.stands c.requires.rows_in_bounds c.loop-k.invariant c.loop-k-test.false in
    record { cases_after = f.0; millionths_after = f.1.0; values_after = f.1.1 }
