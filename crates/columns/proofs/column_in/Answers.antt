-- The first column of that name.
use Rattle.std.proofs.Common.{rules}
use Rattle.columns.specs.Inner.NamesLine.{is_named}
use Rattle.columns.proofs.AskedLaws.{column_looked}
use Rattle.columns.proofs.column_in.Goals as goal

pub returns : goal.returns
unfolding is_named
returns c = column_looked _ _ _ (c.column_where.ensures (is_named c.args.name.now) (λ x b k. search rules))
