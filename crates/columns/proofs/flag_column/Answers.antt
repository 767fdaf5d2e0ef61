-- The first flag column of the column's name.
use Rattle.std.proofs.Common.{rules}
use Rattle.columns.specs.Inner.NamesLine.{is_flag_of}
use Rattle.columns.proofs.AskedLaws.{flag_looked}
use Rattle.columns.proofs.flag_column.Goals as goal

pub returns : goal.returns
returns c = flag_looked _ _ _ c.name_in-name.ensures _ (c.column_where.ensures (is_flag_of c.name_in-name.result.now) (λ x b k. search rules))
