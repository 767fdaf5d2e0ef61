-- Document 01, "Lines": what the calls promise that show the names of an accepted file's columns and its headers, and find a column by its name.
-- The term stands in proofs/NamingLaws.
use Rattle.std.specs.Prelude.{ℕ, ◌-◌, ◌≤◌, ◌≡◌, List, [], length, get_or}
use Rattle.line_bytes.specs.Spaces.{trim}
use Rattle.format.specs.Headers.{Header}
use Rattle.format.specs.Places.{Table, accepted, outcome_of}
use Rattle.format.specs.Located.{name_at}
use Rattle.format.specs.Labels.{named_of, name_place, header_for}
use Rattle.laws.specs.Promises.{bytes_at}

-- header k, counted from 1
abbrev pub header_number : Table → ℕ → Header
header_number t k = get_or t.headers (k - 1) (record { name = []; value = [] })

-- of an accepted file with the table t
pub record LabelsOf (f : List ℕ) (t : Table) : Type 0 where
  -- the name shown of a column is its name
  pub name : (c : ℕ) → 1 ≤ c → c ≤ length t.names → bytes_at f (name_place f c).place ≡ name_at t c
  -- a column asked by the name that was shown is that column
  pub back : (c : ℕ) → 1 ≤ c → c ≤ length t.names → (named_of f (name_at t c)).place ≡ c
  -- a column that is found is there, and has that name and no other, never one that only begins with it
  pub found : (x : List ℕ) → (named_of f x).number ≡ 0
      → (1 ≤ (named_of f x).place) × ((named_of f x).place ≤ length t.names) × (name_at t (named_of f x).place ≡ x)
  -- a header is shown with its name and its trimmed value
  pub header : (k : ℕ) → 1 ≤ k → k ≤ length t.headers
      → (bytes_at f (header_for f k).name ≡ (header_number t k).name) × (bytes_at f (header_for f k).value ≡ trim (header_number t k).value)

abbrev pub LabelsHold : Type 0
LabelsHold = (f : List ℕ) (t : Table) (n : ℕ) → outcome_of f ≡ accepted t n → LabelsOf f t
