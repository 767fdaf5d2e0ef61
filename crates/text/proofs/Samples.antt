-- The bench samples marked P, computed.
use mathlib.Core.Path.{refl}
use Rattle.line_bytes.specs.Bytes.{every, equal, numeral}
use Rattle.line_bytes.specs.Cells.{first_piece, cell_end}
use Rattle.line_bytes.specs.Spaces.{trim_front, keep, trim_end, trim}
use Rattle.verdicts.specs.Decimals.{front, fraction, settle, unsigned_of, decimal_of}
use Rattle.verdicts.specs.Dates.{is_leap, month_days, is_day, is_date}
use Rattle.verdicts.specs.Kinds.{kind_of}
use Rattle.verdicts.specs.Judge.{date_of, of_kind, judge, stops_at, judged_at}
use Rattle.verdicts.specs.Verdicts.{signed}
use Rattle.text.specs.Reading.{reading_of, reading_at}
use Rattle.text.specs.Samples.{SamplesHold}

pub samples_hold : SamplesHold
unfolding every equal numeral first_piece cell_end trim_front keep trim_end trim front fraction settle unsigned_of decimal_of is_leap month_days is_day is_date kind_of date_of of_kind judge stops_at judged_at signed reading_of reading_at
samples_hold = refl
