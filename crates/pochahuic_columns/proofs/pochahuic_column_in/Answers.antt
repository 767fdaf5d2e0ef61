use Rattle.pochahuic_columns.proofs.pochahuic_column_in.Goals as goal

pub returns : goal.returns
returns c = c.column_in.ensures
