-- Document 01, "The report program": lines, each ended by a line feed, their fields parted by tabs. Over 65,536 bytes: `too long`. Refused: `refused`, number,
-- line, column. Accepted: one `accepted` line (kind, columns, rows, profiles, missing), then a `profile` line each (first row, rows, EXPOCODE, STNNBR, CASTNO).
use Rattle.std.specs.Prelude.{ℕ, zero, suc, List, [], ◌∷◌, ◌++◌, cond, length, eqb, ltb}
use Rattle.line_bytes.specs.Bytes.{bytes}
use Rattle.format.specs.declared.FileKind.{FileKind}
use Rattle.format.specs.declared.FileKind.TheVariants.{Unknown, Bottle, Ctd}
use Rattle.format.specs.declared.Checked.{Checked}
use Rattle.format.specs.declared.ProfileRecord.{ProfileRecord}
use Rattle.format.specs.Answers.{checked_of}
use Rattle.format.specs.Records.{profile_of, stationed_of, station_place}
use Rattle.numbers.specs.Texts.{whole_text}
use Rattle.numbers.specs.Patches.{text_at}

-- a field after the first: a tab and its text
abbrev pub field : List ℕ → List ℕ
field t = 9 ∷ t

abbrev pub number : ℕ → List ℕ
number n = 9 ∷ whole_text n

abbrev pub too_long : List ℕ
too_long = bytes "too long" ++ 10 ∷ []

unfoldable pub refused_line : Checked → List ℕ
refused_line c = bytes "refused" ++ (number c.number ++ (number c.line ++ (number c.column ++ 10 ∷ [])))

abbrev pub kind_field : FileKind → List ℕ
kind_field Bottle = field (bytes "BOTTLE")
kind_field Ctd = field (bytes "CTD")
kind_field Unknown = []

unfoldable pub accepted_line : Checked → List ℕ
accepted_line c =
    bytes "accepted" ++ (kind_field c.kind ++ (number c.columns ++ (number c.rows ++ (number c.profiles ++ (number c.missing ++ 10 ∷ [])))))

-- the station value of profile k, trimmed
abbrev pub station_text : List ℕ → ℕ → List ℕ → List ℕ
station_text f k name = text_at f (station_place f (stationed_of f k name))

unfoldable pub profile_line : List ℕ → ℕ → ProfileRecord → List ℕ
profile_line f k p =
    bytes "profile"
    ++ (number p.first
    ++ (number p.rows
    ++ (field (station_text f k (bytes "EXPOCODE")) ++ (field (station_text f k (bytes "STNNBR")) ++ (number p.castno ++ 10 ∷ [])))))

-- the lines of the first k profiles
unfoldable pub profile_lines : List ℕ → ℕ → List ℕ
profile_lines f zero = []
profile_lines f (suc k) = profile_lines f k ++ profile_line f (suc k) (profile_of f (suc k))

abbrev pub report_by : List ℕ → Checked → List ℕ
report_by f c = cond (eqb c.number 0) (accepted_line c ++ profile_lines f c.profiles) (refused_line c)

unfoldable pub report_of : List ℕ → List ℕ
report_of f = cond (ltb 65536 (length f)) too_long (report_by f (checked_of f))
