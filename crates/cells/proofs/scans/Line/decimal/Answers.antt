-- The sign, and the number after it.
use Rattle.cells.proofs.ScanLaws.{begun_on}
use Rattle.cells.proofs.DecimalLaws.{decimal-signed}
use Rattle.cells.proofs.scans.Line.decimal.Goals as goal

pub returns : goal.returns
returns c =
    decimal-signed (begun_on c.args.self c.requires) c.requires _ _ c.after_sign.ensures.0 c.unsigned.ensures
