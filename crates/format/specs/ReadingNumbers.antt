-- Document 01, "Decimals": a reading as numbers, for tables and for programs in other languages: 0 where it is present, 1 where it is missing, 2 where it is
-- refused; both numbers are 0 unless it is present.
use Rattle.std.specs.Prelude.{ℕ, ℤ, pos, Float}
use Rattle.std.specs.Float.{binary64}
use Rattle.std.specs.Float.Ieee.{of_int}
use Rattle.text.specs.declared.Reading.{Reading}
use Rattle.text.specs.declared.Reading.TheVariants.{Present, Missing, Refused}

abbrev pub reading_case : Reading → ℕ
reading_case (Present m v) = 0
reading_case Missing = 1
reading_case (Refused a b c) = 2

abbrev pub read_millionths : Reading → ℤ
read_millionths (Present m v) = m
read_millionths Missing = pos 0
read_millionths (Refused a b c) = pos 0

abbrev pub read_value : Reading → Float
read_value (Present m v) = v
read_value Missing = of_int binary64 (pos 0)
read_value (Refused a b c) = of_int binary64 (pos 0)
