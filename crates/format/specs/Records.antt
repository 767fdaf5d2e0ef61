-- Document 01, "Profiles": a profile's record holds its cast time, either given or missing, its first row, its row count, CASTNO and DATE, all from its
-- first row; in a CTD file the last two and the time come from the headers, even if a column has that name.
use Rattle.std.specs.Prelude.{ℕ, ◌+◌, ◌-◌, ◌/◌, ◌%◌, List, [], ◌∷◌, map, cond, length, get_or, ltb}
use Rattle.line_bytes.specs.declared.Span.{Span}
use Rattle.line_bytes.specs.Bytes.{line_feed, bytes, equal}
use Rattle.line_bytes.specs.Cells.{pieces}
use Rattle.verdicts.specs.Verdicts.{Verdict, blank, wrong, out_of_range, good, size_of}
use Rattle.verdicts.specs.Kinds.{Kind, castno, date, time}
use Rattle.verdicts.specs.Judge.{judge}
use Rattle.format.specs.declared.CastTime.{CastTime}
use Rattle.format.specs.declared.CastTime.TheVariants.{Given, Missing}
use Rattle.format.specs.declared.ProfileRecord.{ProfileRecord}
use Rattle.format.specs.declared.CellPlace.{CellPlace}
use Rattle.format.specs.Faults.{place_in}
use Rattle.format.specs.Headers.{raw_name, value_of, Header}
use Rattle.format.specs.Columns.{Sort, bottle, ctd, kinds_of}
use Rattle.format.specs.Places.{Table, Outcome, accepted, refused, outcome_of}
use Rattle.format.specs.Grid.{starts, nowhere}
use Rattle.format.specs.Profiles.{Key, key_of, labels, rows_of}
use Rattle.format.specs.Answers.{rows_in, cell_text, cell_place, trimmed_place}

-- ---- the value of a name: its text with its spaces, and where it stands; or there is none
pub data Value : Type 0 where
  given : (text : List ℕ) (place : Span) → Value
  absent : Value

-- the value of the header on a line of the file, the lines counted from 0: what stands after its =
abbrev pub header_place : List ℕ → ℕ → Span
header_place f l = record {
  start = starts (map length (pieces line_feed f)) l + length (raw_name (get_or (pieces line_feed f) l [])) + 1;
  len = length (value_of (get_or (pieces line_feed f) l []));
}

-- among headers, the first of which stands on line l
unfoldable pub header_value : List ℕ → List ℕ → ℕ → List Header → Value
header_value f name l [] = absent
header_value f name l (h ∷ hs) = cond (equal h.name name) (given h.value (header_place f l)) (header_value f name (l + 1) hs)

-- the headers stand just before the names line, and the units line is the last before the data
abbrev pub headers_line : Table → ℕ
headers_line t = t.line - 2 - length t.headers

-- of the column of that name, in row r
unfoldable pub column_value : Table → List ℕ → ℕ → List ℕ → Value
column_value t f r name =
    cond (ltb (place_in name t.names) (length t.names))
    (given (cell_text t f r (place_in name t.names + 1)) (cell_place t f r (place_in name t.names + 1)))
    absent

-- from the headers of a CTD file, from row r of a bottle file
abbrev pub value_by : Sort → Table → List ℕ → ℕ → List ℕ → Value
value_by bottle t f r name = column_value t f r name
value_by ctd t f r name = header_value f name (headers_line t) t.headers

unfoldable pub station_value : Table → List ℕ → ℕ → List ℕ → Value
station_value t f r name = value_by t.sort t f r name

-- ---- the rows of a profile
-- the profile of each row: by the runs of keys in a bottle file; a CTD file is one profile
abbrev pub labels_by : Sort → List Key → List ℕ
labels_by bottle ks = labels ks
labels_by ctd ks = map (λ (k : Key). 1) ks

unfoldable pub profile_rows : Table → ℕ → List ℕ → ℕ → List ℕ
profile_rows t n f k = rows_of k 1 (labels_by t.sort (map (key_of (kinds_of t.names)) (rows_in t n f)))

-- ---- the record
-- the number that a value of a kind writes; 0 where there is none
abbrev pub number_in : Kind → Value → ℕ
number_in k (given x p) = size_of (judge k x)
number_in k absent = 0

-- -999 is minus 999 as a time (Judge: time_of)
abbrev pub time_in : Verdict → CastTime
time_in blank = Missing
time_in wrong = Missing
time_in out_of_range = Missing
time_in (good m v d) = cond m Missing (Given (v / 100) (v % 100))

-- missing too where there is no TIME
abbrev pub cast_time : Value → CastTime
cast_time (given x p) = time_in (judge time x)
cast_time absent = Missing

abbrev pub no_profile : ℕ → ℕ → ℕ → ProfileRecord
no_profile a b c = record { number = a; line = b; column = c; time = Missing; first = 0; rows = 0; castno = 0; date = 0 }

-- of the profile of the given rows
abbrev pub record_of : Table → List ℕ → List ℕ → ProfileRecord
record_of t f [] = no_profile 21 0 0
record_of t f (r ∷ rs) = record {
  number = 0;
  line = 0;
  column = 0;
  time = cast_time (station_value t f r (bytes "TIME"));
  first = r;
  rows = length (r ∷ rs);
  castno = number_in castno (station_value t f r (bytes "CASTNO"));
  date = number_in date (station_value t f r (bytes "DATE"));
}

abbrev pub profile_by : List ℕ → ℕ → Outcome → ProfileRecord
profile_by f k (accepted t n) = record_of t f (profile_rows t n f k)
profile_by f k (refused a b c) = no_profile a b c

unfoldable pub profile_of : List ℕ → ℕ → ProfileRecord
profile_of f k = profile_by f k (outcome_of f)

-- ---- a station value of a profile by its name: 21 where there is no such profile, header or column
pub data Stationed : Type 0 where
  stands : Span → Stationed
  refused_by : (number line column : ℕ) → Stationed

abbrev pub stationed_at : Value → Stationed
stationed_at (given x p) = stands p
stationed_at absent = refused_by 21 0 0

abbrev pub stationed_in : Table → List ℕ → List ℕ → List ℕ → Stationed
stationed_in t f name [] = refused_by 21 0 0
stationed_in t f name (r ∷ rs) = stationed_at (station_value t f r name)

abbrev pub stationed_by : List ℕ → ℕ → List ℕ → Outcome → Stationed
stationed_by f k name (accepted t n) = stationed_in t f name (profile_rows t n f k)
stationed_by f k name (refused a b c) = refused_by a b c

unfoldable pub stationed_of : List ℕ → ℕ → List ℕ → Stationed
stationed_of f k name = stationed_by f k name (outcome_of f)

-- the trimmed part; refused: the empty part at the file's start, with the refusal beside it
abbrev pub station_place : List ℕ → Stationed → Span
station_place f (stands p) = trimmed_place f p
station_place f (refused_by a b c) = nowhere

abbrev pub station_refusal : Stationed → List ℕ
station_refusal (stands p) = 0 ∷ 0 ∷ 0 ∷ []
station_refusal (refused_by a b c) = a ∷ b ∷ c ∷ []

-- both by value
abbrev pub no_place : ℕ → ℕ → ℕ → CellPlace
no_place a b c = record { number = a; line = b; column = c; place = nowhere }

abbrev pub station_answer : List ℕ → Stationed → CellPlace
station_answer f (stands p) = record { number = 0; line = 0; column = 0; place = trimmed_place f p }
station_answer f (refused_by a b c) = no_place a b c
