-- The words of the contracts of a profile found and of its station values. No promise of a public call cites them.
use Rattle.std.specs.Prelude.{ℕ, ◌+◌, ◌-◌, ◌≤◌, ◌≡◌, List, [], ◌∷◌, map, cond, length, get_or, ltb, Option, IfSome, MatchOption, Result, MatchResult}
use Rattle.line_bytes.specs.Bytes.{comma, line_feed}
use Rattle.line_bytes.specs.Cells.{cell_at, line_at, pieces}
use Rattle.line_bytes.specs.Inner.Scans.{Stop}
use Rattle.verdicts.specs.Kinds.{kind_of}
use Rattle.format.specs.declared.CastTime.{CastTime}
use Rattle.format.specs.declared.Refusal.{Refusal}
use Rattle.profiles.specs.declared.runs.Run.{Run}
use Rattle.profiles.specs.declared.runs.ProfileAt.{ProfileAt}
use Rattle.profiles.specs.declared.values.ValueAt.{ValueAt}
use Rattle.format.specs.Faults.{place_in}
use Rattle.format.specs.Headers.{Header}
use Rattle.format.specs.Columns.{names_of}
use Rattle.format.specs.Places.{Table, accepted, outcome_of}
use Rattle.format.specs.Grid.{starts}
use Rattle.format.specs.Inner.Grid.{cell_span}
use Rattle.format.specs.Answers.{kind_by, row_cells}
use Rattle.format.specs.Records.{Value, given, absent, header_value, headers_line, station_value, profile_rows, number_in, cast_time, no_profile, record_of, profile_of, refused_by, stationed_at, stationed_of}
use Rattle.format.specs.Inner.Heads.{HeaderLines}
use Rattle.format.specs.Inner.Rows.{line_cells}
use Rattle.profiles.specs.Inner.Profiles.{RunOf}

-- ---- a value by place
pub record ValueStands (s : List ℕ) (x : Value) (r : ValueAt) : Type 0 where
  pub is : x ≡ given (cell_at r.separator s r.start) (record { start = r.start; len = r.len })
  pub stop : Stop r.separator s r.start r.feed
  pub room : r.start + r.len ≤ length s

abbrev pub ValueRead : List ℕ → Value → Option ValueAt → Type 0
ValueRead s x r = MatchOption r (x ≡ absent) (ValueStands s x)

-- the number that it writes as a kind, and the time
abbrev pub NumberRead : List ℕ → Option ValueAt → ℕ → ℕ → Type 0
NumberRead s v kind r = (x : Value) → ValueRead s x v → r ≡ number_in (kind_of kind) x

abbrev pub TimeRead : List ℕ → Option ValueAt → CastTime → Type 0
TimeRead s v r = (x : Value) → ValueRead s x v → r ≡ cast_time x

-- ---- of the headers between two places
abbrev pub HeadersStand : List ℕ → ℕ → ℕ → Type 0
HeadersStand s i end = (l : ℕ) × (hs : List Header) × HeaderLines s end i l hs

abbrev pub HeaderFound : List ℕ → ℕ → ℕ → List ℕ → Option ValueAt → Type 0
HeaderFound s i end name r = (l : ℕ) (hs : List Header) → HeaderLines s end i l hs → ValueRead s (header_value s name l hs) r

-- ---- of the columns of a names line, in the row whose line starts at i
pub record ColumnsStand (s : List ℕ) (place i : ℕ) : Type 0 where
  pub row : Stop comma s i (i + length (line_at s i))
  pub many : length (line_cells s i) ≡ length (names_of (line_at s place))

unfoldable pub value_in : List ℕ → ℕ → ℕ → List ℕ → Value
value_in s place i name =
    cond (ltb (place_in name (names_of (line_at s place))) (length (names_of (line_at s place))))
    (given (get_or (line_cells s i) (place_in name (names_of (line_at s place))) []) (cell_span s i (place_in name (names_of (line_at s place)))))
    absent

-- ---- a profile found
-- its rows in a file that is accepted with n rows
pub record RunFound (s : List ℕ) (n k : ℕ) (r : Option Run) : Type 0 where
  pub run : (t : Table) → outcome_of s ≡ accepted t n → RunOf (profile_rows t n s k) r
  pub within : IfSome r (λ x. (1 ≤ x.first) × (x.first ≤ n))

-- where the values of the table t stand
pub record ValuesIn (s : List ℕ) (t : Table) (p : ProfileAt) : Type 0 where
  pub sort : p.kind ≡ kind_by t.sort
  pub named : t.names ≡ names_of (line_at s p.names)
  pub columns : ColumnsStand s p.names p.at
  pub cells : line_cells s p.at ≡ row_cells t s p.first
  pub place : p.at ≡ starts (map length (pieces line_feed s)) (t.line + (p.first - 1))
  pub headers : HeaderLines s p.names p.headers (headers_line t) t.headers

abbrev pub ValuesStand : List ℕ → ProfileAt → Type 0
ValuesStand s p = (t : Table) × ValuesIn s t p

abbrev pub StationRead : List ℕ → ProfileAt → List ℕ → Option ValueAt → Type 0
StationRead s p name r = (t : Table) → ValuesIn s t p → ValueRead s (station_value t s p.first name) r

pub record ProfileFound (s : List ℕ) (k : ℕ) (t : Table) (p : ProfileAt) : Type 0 where
  pub others : List ℕ
  pub many : p.rows ≡ length (p.first ∷ others)
  pub record_is : profile_of s k ≡ record_of t s (p.first ∷ others)
  pub station : (name : List ℕ) → stationed_of s k name ≡ stationed_at (station_value t s p.first name)
  pub values : ValuesIn s t p

abbrev pub ProfileRead : List ℕ → ℕ → Result ProfileAt Refusal → Type 0
ProfileRead s k r = MatchResult r
    (λ p. (t : Table) × ProfileFound s k t p)
    (λ e. (profile_of s k ≡ no_profile e.number e.line e.column) × ((name : List ℕ) → stationed_of s k name ≡ refused_by e.number e.line e.column))
