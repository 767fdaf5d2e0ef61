-- The refusal, or the cells and the name of the column that was asked for.
use Rattle.exchange.proofs.LocateLaws.{locate-refused, locate-found}
use Rattle.exchange.proofs.locate.Goals as goal

pub returns-in-Ok : goal.returns-in-Ok
returns-in-Ok c = locate-found _ _ _ c.in-Ok.a c.in-Ok.ensures _ c.is_ctd.ensures _ c.flag_column-flag.ensures _ c.place_in.ensures

pub returns-in-Err : goal.returns-in-Err
returns-in-Err c = locate-refused _ _ _ c.in-Err.e c.in-Err.ensures
