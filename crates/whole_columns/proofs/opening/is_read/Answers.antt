use Rattle.whole_columns.proofs.OpeningLaws.{decimal-kinds}
use Rattle.whole_columns.proofs.opening.is_read.Goals as goal

pub returns-in-Decimals : goal.returns-in-Decimals
returns-in-Decimals c = rw c.in-Decimals.is (decimal-kinds c.args.kind)
