-- Laws of the answers that a reader wants to see stated, in document 01's words; the equations of the calls cite the definitions that these laws are about.
-- A term of each type stands in proofs/: AskedLaws, MissingLaws, DecimalLaws, PlaceLaws, ProfileLaws, FirstBrokenLaws.
use Rattle.std.specs.Prelude.{ℕ, zero, suc, ◌+◌, ◌^◌, ◌≤◌, ◌<◌, ◌≡◌, ◌↔◌, ◌⊎◌, List, [], ◌∷◌, ◌++◌, Bool, true, false, cond, ◌&&◌, take, drop, T, ℤ, pos, neg_ℤ, Float}
use Rattle.std.specs.Float.Ieee.Scale.{finite}
use Rattle.line_bytes.specs.declared.Span.{Span}
use Rattle.line_bytes.specs.Spaces.{trim}
use Rattle.text.specs.declared.Reading.{Reading}
use Rattle.text.specs.declared.Reading.TheVariants.{Present, Missing, Refused}
use Rattle.verdicts.specs.Verdicts.{Verdict, good, millionths_of}
use Rattle.verdicts.specs.Kinds.{Kind, measured, latitude, longitude, depth, flag, ctd_flag, kind_of}
use Rattle.verdicts.specs.Judge.{judge}
use Rattle.text.specs.Reading.{double_of, read_number, is_decimal}
use Rattle.format.specs.Grid.{nowhere}
use Rattle.format.specs.Faults.{Fault, clean, breaks}
use Rattle.format.specs.Columns.{bottle, ctd, kinds_of}
use Rattle.format.specs.Places.{Table, after, Outcome, accepted, refused, outcome_of}
use Rattle.format.specs.Profiles.{Key, key_of}
use Rattle.format.specs.Answers.{checked_by, checked_of, is_there, asked_of, kind_at, row_cells, cell_text, cell_place, trimmed_place, cell_of, refusal_by, reading_for, flagged_of}
use Rattle.format.specs.Located.{is_measured, flag_column, located_of}
use Rattle.format.specs.ReadingNumbers.{read_value}
use Rattle.format.specs.Records.{given, station_value, no_profile, profile_of}
use Rattle.laws.specs.RuleOrder.{lines_in, place_before, rules_of}

-- ---- the kind of a column, counted from 1, of a file with the table t; its cell judged
abbrev pub column_kind : Table → ℕ → Kind
column_kind t c = kind_of (kind_at t c)

abbrev pub cell_verdict : Table → List ℕ → ℕ → ℕ → Verdict
cell_verdict t f r c = judge (column_kind t c) (cell_text t f r c)

-- ---- "Refusal numbers", 21 and 22: which calls are refused, and what the others give
abbrev pub IsFlag : Kind → Type 0
IsFlag k = (k ≡ flag) ⊎ (k ≡ ctd_flag)

-- all reading calls give this refusal at row r and column c; the cell is the empty part at the file's start
pub record Refuses (f : List ℕ) (r c number line column : ℕ) : Type 0 where
  pub refusal : refusal_by (asked_of f r c) ≡ number ∷ line ∷ column ∷ []
  pub cell : cell_of f r c ≡ nowhere
  pub decimal : reading_for f r c ≡ Refused number line column
  pub flag : flagged_of f r c ≡ record { number = number; line = line; column = column; flag = 0 }

-- a flag is handed out: one of the set, 1 to 9, but 8 isn't used where the parameter's name begins with CTD
pub record GivesFlag (f : List ℕ) (t : Table) (r c : ℕ) : Type 0 where
  pub number : (flagged_of f r c).number ≡ 0
  pub line : (flagged_of f r c).line ≡ 0
  pub column : (flagged_of f r c).column ≡ 0
  pub low : 1 ≤ (flagged_of f r c).flag
  pub high : (flagged_of f r c).flag ≤ 9
  pub unused : column_kind t c ≡ ctd_flag → (flagged_of f r c).flag ≡ 8 → ⊥

-- the cell is handed out, whatever its column; a decimal is read in a measured, LATITUDE, LONGITUDE or DEPTH column, and is present or missing;
-- a flag is read in a flag column; any other column gives 22
pub record Answers (f : List ℕ) (t : Table) (r c : ℕ) : Type 0 where
  pub refusal : refusal_by (asked_of f r c) ≡ 0 ∷ 0 ∷ 0 ∷ []
  pub cell : cell_of f r c ≡ trimmed_place f (cell_place t f r c)
  pub decimal : is_decimal (column_kind t c) ≡ true → reading_for f r c ≡ read_number (millionths_of (cell_verdict t f r c))
  pub no-decimal : is_decimal (column_kind t c) ≡ false → reading_for f r c ≡ Refused 22 0 0
  pub flag : IsFlag (column_kind t c) → GivesFlag f t r c
  pub no_flag_lem : (IsFlag (column_kind t c) → ⊥) → flagged_of f r c ≡ record { number = 22; line = 0; column = 0; flag = 0 }

pub record AskedExactly : Type 0 where
  -- a refused file wins over everything
  pub file : (f : List ℕ) (a b d : ℕ) → outcome_of f ≡ refused a b d → (r c : ℕ) → Refuses f r c a b d
  -- 21: no such row or column
  pub absent : (f : List ℕ) (t : Table) (n : ℕ) → outcome_of f ≡ accepted t n → (r c : ℕ) → is_there t n r c ≡ false → Refuses f r c 21 0 0
  pub there : (f : List ℕ) (t : Table) (n : ℕ) → outcome_of f ≡ accepted t n → (r c : ℕ) → is_there t n r c ≡ true → Answers f t r c

-- ---- "Decimals": a measured or DEPTH decimal is missing exactly when it equals -999, in any spelling
abbrev pub MissingExactly : Type 0
MissingExactly = (f : List ℕ) (t : Table) (n : ℕ) → outcome_of f ≡ accepted t n → (r c : ℕ) → is_there t n r c ≡ true
    → (column_kind t c ≡ measured) ⊎ (column_kind t c ≡ depth)
    → (reading_for f r c ≡ Missing) ↔ (millionths_of (cell_verdict t f r c) ≡ neg_ℤ (pos 999000000))

-- -999 is out of range in a LATITUDE or LONGITUDE column, so a reading there is present
abbrev pub PresentThere : Type 0
PresentThere = (f : List ℕ) (t : Table) (n : ℕ) → outcome_of f ≡ accepted t n → (r c : ℕ) → is_there t n r c ≡ true
    → (column_kind t c ≡ latitude) ⊎ (column_kind t c ≡ longitude)
    → reading_for f r c ≡ Present (millionths_of (cell_verdict t f r c)) (double_of (millionths_of (cell_verdict t f r c)))

-- a good text's number is the one it writes, by its sign and its size: that is below 10^15, so that 0 never stands for a number too large (Verdicts: signed)
pub record NumbersWritten : Type 0 where
  pub below : (k : Kind) (x : List ℕ) (minus : Bool) (size decimals : ℕ) → judge k x ≡ good minus size decimals → size < 10 ^ 15
  pub number : (k : Kind) (x : List ℕ) (minus : Bool) (size decimals : ℕ) → judge k x ≡ good minus size decimals
      → millionths_of (judge k x) ≡ cond minus (neg_ℤ (pos size)) (pos size)

-- the double of a present reading is finite: neither NaN nor infinite
abbrev pub NoNan : Type 0
NoNan = (f : List ℕ) (r c : ℕ) (millionths : ℤ) (value : Float) → reading_for f r c ≡ Present millionths value → T (finite value)

-- and so is the double that stands for any reading in a table or an export
abbrev pub ValueFinite : Type 0
ValueFinite = (f : List ℕ) (r c : ℕ) → T (finite (read_value (reading_for f r c)))

-- ---- "Lines": the bytes at a place that is handed out are the text that is read there
abbrev pub bytes_at : List ℕ → Span → List ℕ
bytes_at f p = take p.len (drop p.start f)

pub record Placed (f : List ℕ) (t : Table) (n : ℕ) : Type 0 where
  -- a cell, with its spaces; the cell that the call hands out, without them
  pub cell : (r c : ℕ) → is_there t n r c ≡ true → bytes_at f (cell_place t f r c) ≡ cell_text t f r c
  pub trimmed : (r c : ℕ) → is_there t n r c ≡ true → bytes_at f (cell_of f r c) ≡ trim (cell_text t f r c)
  -- the cells of a measurement: its value, and where it is flagged its flag, whose column is there
  pub value : (r c : ℕ) → is_there t n r c ≡ true → bytes_at f (located_of f r c).value ≡ cell_text t f r c
  pub flag : (r c : ℕ) → is_there t n r c ≡ true → (located_of f r c).flagged ≡ true
      → (is_there t n r (flag_column t c) ≡ true) × (bytes_at f (located_of f r c).flag ≡ cell_text t f r (flag_column t c))
  -- a station value, of a column or a header, with its spaces and without
  pub station : (r : ℕ) → 1 ≤ r → r ≤ n → (name x : List ℕ) (p : Span) → station_value t f r name ≡ given x p → (bytes_at f p ≡ x) × (bytes_at f (trimmed_place f p) ≡ trim x)

abbrev pub PlacesHold : Type 0
PlacesHold = (f : List ℕ) (t : Table) (n : ℕ) → outcome_of f ≡ accepted t n → Placed f t n

-- ---- "Profiles": the missing readings of the check are the row and measured column pairs that read as missing
abbrev pub is_missing_reading : Reading → Bool
is_missing_reading (Present m v) = false
is_missing_reading Missing = true
is_missing_reading (Refused a b c) = false

-- whether column c of a file is measured; a refused file has none
abbrev pub measured_by : ℕ → Outcome → Bool
measured_by c (accepted t n) = is_measured t c
measured_by c (refused a b d) = false

abbrev pub measured_in : List ℕ → ℕ → Bool
measured_in f c = measured_by c (outcome_of f)

-- the sum of g over the n numbers from k on
unfoldable pub sum_from : ℕ → ℕ → (ℕ → ℕ) → ℕ
sum_from k zero g = 0
sum_from k (suc n) g = g k + sum_from (k + 1) n g

-- a pair counts one where the decimal call itself reads it as missing
abbrev pub pair_count : List ℕ → ℕ → ℕ → ℕ
pair_count f r c = cond (measured_in f c && is_missing_reading (reading_for f r c)) 1 0

unfoldable pub missing_pairs : List ℕ → ℕ
missing_pairs f = sum_from 1 (checked_of f).rows (λ r. sum_from 1 (checked_of f).columns (λ c. pair_count f r c))

abbrev pub MissingCounted : Type 0
MissingCounted = (f : List ℕ) → (checked_of f).missing ≡ missing_pairs f

-- ---- "Profiles": the profiles of an accepted file, by the check's count and their own records
-- the key of row r: EXPOCODE, STNNBR (trimmed bytes) and CASTNO (as a number)
abbrev pub row_key : Table → List ℕ → ℕ → Key
row_key t f r = key_of (kinds_of t.names) (row_cells t f r)

-- row r is in profile k: there is such a profile, and r is one of its so many rows from its first on
pub record InProfile (f : List ℕ) (k r : ℕ) : Type 0 where
  pub known : (profile_of f k).number ≡ 0
  pub from : (profile_of f k).first ≤ r
  pub to : r < (profile_of f k).first + (profile_of f k).rows

pub record Profiled (f : List ℕ) (t : Table) (n : ℕ) : Type 0 where
  -- 21 exactly for profile 0 and for those beyond the check's count
  pub zeroth : profile_of f 0 ≡ no_profile 21 0 0
  pub beyond : (k : ℕ) → (checked_of f).profiles < k → profile_of f k ≡ no_profile 21 0 0
  pub known : (k : ℕ) → 1 ≤ k → k ≤ (checked_of f).profiles → ((profile_of f k).number ≡ 0) × ((profile_of f k).line ≡ 0) × ((profile_of f k).column ≡ 0)
  -- they part the rows: the first begins with row 1, each other one after the last row of the one before, the last one ends with row n; none is empty
  pub begins : (profile_of f 1).first ≡ 1
  pub follows : (k : ℕ) → 1 ≤ k → k < (checked_of f).profiles → (profile_of f (k + 1)).first ≡ (profile_of f k).first + (profile_of f k).rows
  pub ends : (profile_of f (checked_of f).profiles).first + (profile_of f (checked_of f).profiles).rows ≡ n + 1
  pub some : (k : ℕ) → 1 ≤ k → k ≤ (checked_of f).profiles → 1 ≤ (profile_of f k).rows
  -- so each row is in exactly one
  pub held : (r : ℕ) → 1 ≤ r → r ≤ n → (k : ℕ) × InProfile f k r
  pub once : (k j r : ℕ) → InProfile f k r → InProfile f j r → k ≡ j
  -- a CTD file is one profile
  pub whole : t.sort ≡ ctd → (checked_of f).profiles ≡ 1
  -- in a bottle file one is a longest run of equal keys: they are equal inside it, and differ where another one begins
  pub equal : t.sort ≡ bottle → (k r s : ℕ) → InProfile f k r → InProfile f k s → row_key t f r ≡ row_key t f s
  pub border : t.sort ≡ bottle → (k j r : ℕ) → InProfile f k r → InProfile f j (r + 1) → (k ≡ j → ⊥) → row_key t f r ≡ row_key t f (r + 1) → ⊥

pub record ProfilesPart : Type 0 where
  pub file : (f : List ℕ) (a b c : ℕ) → outcome_of f ≡ refused a b c → (k : ℕ) → profile_of f k ≡ no_profile a b c
  pub part : (f : List ℕ) (t : Table) (n : ℕ) → outcome_of f ≡ accepted t n → Profiled f t n

-- ---- "Refusal numbers": the check says which rule is broken first, and where
-- of some rules in their order: none is broken; rule n is, shown at column c, and none before it
abbrev pub Kept : List Fault → Type 0
Kept [] = Unit {0}
Kept (r ∷ rs) = (r ≡ clean) × Kept rs

pub record Broken (rs : List Fault) (n c : ℕ) : Type 0 where
  pub before : List Fault
  pub behind : List Fault
  pub order : rs ≡ before ++ breaks n c ∷ behind
  pub kept : Kept before

-- rule n is the first that the file breaks: in line l, shown at column c, every line before keeping all its rules
pub record FirstBroken (f : List ℕ) (n l c : ℕ) : Type 0 where
  pub low : 1 ≤ l
  pub high : l ≤ lines_in f
  pub earlier : (k : ℕ) → 1 ≤ k → k < l → Kept (rules_of f k)
  pub here : Broken (rules_of f l) n c

-- every line keeps its rules, and so does the file's end
abbrev pub AllKept : List ℕ → Type 0
AllKept f = (l : ℕ) → 1 ≤ l → l ≤ lines_in f → Kept (rules_of f l)

-- the check refuses with n at l and c exactly where this is the first broken rule, which is one of 1 to 20, and accepts exactly where none is broken, its
-- outcome and its answer alike; an accepted file's table and rows are those to which its lines lead
pub record ChecksFirst : Type 0 where
  pub refuses : (f : List ℕ) (n l c : ℕ) → (outcome_of f ≡ refused n l c) ↔ FirstBroken f n l c
  pub answers : (f : List ℕ) (n l c : ℕ) → (checked_of f ≡ checked_by f (refused n l c)) ↔ FirstBroken f n l c
  pub shown : (f : List ℕ) → ((checked_of f).number ≡ 0 → ⊥) → FirstBroken f (checked_of f).number (checked_of f).line (checked_of f).column
  pub numbers : (f : List ℕ) (n l c : ℕ) → FirstBroken f n l c → (1 ≤ n) × (n ≤ 20)
  pub accepts : (f : List ℕ) → ((t : Table) × (n : ℕ) × (outcome_of f ≡ accepted t n)) ↔ AllKept f
  pub passes : (f : List ℕ) → ((checked_of f).number ≡ 0) ↔ AllKept f
  pub table : (f : List ℕ) (t : Table) (n : ℕ) → outcome_of f ≡ accepted t n → place_before f (lines_in f) ≡ after t n
