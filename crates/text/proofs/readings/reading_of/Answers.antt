use mathlib.Core.Path.{◌∙◌}
use Rattle.text.proofs.ReadingLaws.{number_small, reading-other, reading-refused, reading-good}
use Rattle.text.proofs.readings.reading_of.Goals as goal

pub returns-then-kind-gt-DEPTH : goal.returns-then-kind-gt-DEPTH
returns-then-kind-gt-DEPTH c = reading-other _ _ c.if-kind-gt-DEPTH.true

pub returns-then-j-ne0 : goal.returns-then-j-ne0
returns-then-j-ne0 c = reading-refused _ _ c.if-kind-gt-DEPTH.false c.if-j-ne0.true

pub read_number-requires : goal.read_number-requires
read_number-requires c = number_small _ _ _ c.signed_size.ensures

pub returns : goal.returns
returns c =
    c.read_number.ensures ∙ reading-good _ _ c.if-kind-gt-DEPTH.false _ c.if-j-ne0.false c.signed_size.ensures
