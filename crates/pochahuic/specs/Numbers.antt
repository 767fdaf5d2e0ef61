-- The answers of the calls as numbers, for programs in other languages: for each case of each answer the numbers of document 01 in a fixed order, refusal
-- number, line and column first, 0 each where nothing is refused.
use Rattle.std.specs.Prelude.{ℕ, List, [], ◌∷◌, get_or}
use Rattle.text.specs.declared.Reading.{Reading}
use Rattle.text.specs.declared.Reading.TheVariants.{Present, Missing, Refused}
use Rattle.format.specs.declared.FileKind.{FileKind}
use Rattle.format.specs.declared.FileKind.TheVariants.{Unknown, Bottle, Ctd}
use Rattle.format.specs.declared.Checked.{Checked}
use Rattle.format.specs.declared.CellPlace.{CellPlace}
use Rattle.format.specs.declared.Flagged.{Flagged}
use Rattle.format.specs.declared.CastTime.{CastTime}
use Rattle.format.specs.declared.CastTime.TheVariants.{Given, Missing as Untimed}
use Rattle.format.specs.declared.ProfileRecord.{ProfileRecord}
use Rattle.orders.specs.declared.Answer.{Answer}
use Rattle.orders.specs.declared.ListLine.{ListLine}
use Rattle.orders.specs.Corrections.{numbers_of}

-- ---- the check: the kind is 0 for none, 1 for a bottle file, 2 for a CTD file; then the counts
abbrev pub kind_number : FileKind → ℕ
kind_number Unknown = 0
kind_number Bottle = 1
kind_number Ctd = 2

abbrev pub check_numbers : Checked → List ℕ
check_numbers x = x.number ∷ x.line ∷ x.column ∷ kind_number x.kind ∷ x.columns ∷ x.rows ∷ x.profiles ∷ x.missing ∷ []

-- ---- a trimmed cell or station value, by its place in the file: its start, counted from 0, and its length
abbrev pub place_numbers : CellPlace → List ℕ
place_numbers x = x.number ∷ x.line ∷ x.column ∷ x.place.start ∷ x.place.len ∷ []

-- ---- a decimal: its case, millionths and double (ReadingNumbers of the crate format), and its refusal
abbrev pub refusal_of : Reading → List ℕ
refusal_of (Present m v) = 0 ∷ 0 ∷ 0 ∷ []
refusal_of Missing = 0 ∷ 0 ∷ 0 ∷ []
refusal_of (Refused a b c) = a ∷ b ∷ c ∷ []

-- ---- a flag
abbrev pub flag_numbers : Flagged → List ℕ
flag_numbers x = x.number ∷ x.line ∷ x.column ∷ x.flag ∷ []

-- ---- a profile: its first row, rows, CASTNO and DATE; then 1 with the hour and the minute where its time is given, else 0
abbrev pub time_numbers : CastTime → List ℕ
time_numbers (Given h m) = 1 ∷ h ∷ m ∷ []
time_numbers Untimed = 0 ∷ 0 ∷ 0 ∷ []

abbrev pub profile_numbers : ProfileRecord → List ℕ
profile_numbers x = x.number ∷ x.line ∷ x.column ∷ x.first ∷ x.rows ∷ x.castno ∷ x.date ∷ time_numbers x.time

-- ---- a correction: the refusal alone (numbers_of of the crate orders), and its number
abbrev pub answer_number : Answer → ℕ
answer_number x = get_or (numbers_of x) 0 0

-- ---- a list line, which has no line and column: its number, row, the name's start in the line, counted from 0, and length, decimals as written, flag
abbrev pub line_numbers : ListLine → List ℕ
line_numbers x = x.number ∷ x.row ∷ x.name.start ∷ x.name.len ∷ x.decimals ∷ x.flag ∷ []
