-- Document 01, "Decimals": a decimal column's reading. A present reading carries its millionths and its double; a missing one carries no number.
use Rattle.std.specs.Prelude.{ℕ, List, Bool, true, false, cond, eqb, ℤ, pos, negsuc, neg_ℤ, Float}
use Rattle.std.specs.Float.{binary64}
use Rattle.std.specs.Float.Ieee.{of_int, div}
use Rattle.verdicts.specs.declared.Judged.{Judged}
use Rattle.text.specs.declared.Reading.{Reading}
use Rattle.text.specs.declared.Reading.TheVariants.{Present, Missing, Refused}
use Rattle.verdicts.specs.Kinds.{Kind, measured, latitude, longitude, depth, flag, ctd_flag, expocode, stnnbr, castno, date, time, free, kind_of}
use Rattle.verdicts.specs.Verdicts.{signed}
use Rattle.verdicts.specs.Judge.{judged_at}

-- the double: the millionths, held exactly, divided once by one million
unfoldable pub double_of : ℤ → Float
double_of m = div binary64 (of_int binary64 m) (of_int binary64 (pos 1000000))

-- two numbers are the same
abbrev pub same_number : ℤ → ℤ → Bool
same_number (pos a) (pos b) = eqb a b
same_number (pos a) (negsuc b) = false
same_number (negsuc a) (pos b) = false
same_number (negsuc a) (negsuc b) = eqb a b

-- missing: -999 in millionths
abbrev pub is_missing : ℤ → Bool
is_missing m = same_number m (neg_ℤ (pos 999000000))

-- the reading of a number of millionths
abbrev pub read_number : ℤ → Reading
read_number m = cond (is_missing m) Missing (Present m (double_of m))

-- the columns that can be read as decimals
abbrev pub is_decimal : Kind → Bool
is_decimal measured = true
is_decimal latitude = true
is_decimal longitude = true
is_decimal depth = true
is_decimal flag = false
is_decimal ctd_flag = false
is_decimal expocode = false
is_decimal stnnbr = false
is_decimal castno = false
is_decimal date = false
is_decimal time = false
is_decimal free = false

-- the reading of a judged cell of a kind
unfoldable pub reading_of : ℕ → Judged → Reading
reading_of k j =
    cond (is_decimal (kind_of k))
    (cond (eqb j.number 0) (read_number (signed j.minus j.size)) (Refused j.number 0 0))
    (Refused 22 0 0)

-- what reading the cell at i gives
unfoldable pub reading_at : ℕ → ℕ → List ℕ → ℕ → ℕ → Reading
reading_at k c s i e = reading_of k (judged_at k c s i e)
