use Rattle.exchange.proofs.CellLaws.{call_reading, read_reading}
use Rattle.exchange.proofs.decimal.Goals as goal

pub returns-in-Ok : goal.returns-in-Ok
returns-in-Ok c = read_reading _ _ _ c.in-Ok.a c.in-Ok.ensures _ c.read_decimal.ensures

pub returns-in-Err : goal.returns-in-Err
returns-in-Err c = call_reading _ _ _ c.in-Err.e c.in-Err.ensures
