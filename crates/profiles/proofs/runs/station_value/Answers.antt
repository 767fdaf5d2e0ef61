use Rattle.profiles.proofs.RecordLaws.{station-column, station-headers, station-header}
use Rattle.profiles.proofs.runs.station_value.Goals as goal

pub header_value-requires : goal.header_value-requires
header_value-requires c = station-headers _ _ _ c.requires.1

pub returns-in-Bottle : goal.returns-in-Bottle
returns-in-Bottle c = λ t w. station-column _ t _ w _ c.in-Bottle.is _ c.column_value.ensures

pub returns-in_default : goal.returns-in_default
returns-in_default c = λ t w. station-header _ t _ w c.in_default.not-Bottle _ _ c.header_value.ensures
