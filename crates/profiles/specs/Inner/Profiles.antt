-- The words of the contracts of a profile's rows. No promise of a public call cites them.
use Rattle.std.specs.Prelude.{ℕ, suc, ◌+◌, ◌<◌, ◌≤◌, ◌≡◌, List, [], map, length, get_or, Option, Some, None, IfSome, MatchOption}
use Rattle.line_bytes.specs.Bytes.{comma}
use Rattle.line_bytes.specs.Cells.{line_at}
use Rattle.line_bytes.specs.Inner.Scans.{Stop}
use Rattle.profiles.specs.declared.runs.Run.{Run}
use Rattle.format.specs.Faults.{clean}
use Rattle.format.specs.Profiles.{key_of, labels, rows_of}
use Rattle.format.specs.Inner.Faults.{row_fault}
use Rattle.format.specs.Inner.Rows.{line_cells, rows_from}

-- from place i on stand n data lines that keep their rules
pub data RowLines (s ks : List ℕ) : ℕ → ℕ → Type 0 where
  none : {i : ℕ} → RowLines s ks i 0
  more : {i n : ℕ} → Stop comma s i (i + length (line_at s i)) → row_fault ks (line_cells s i) ≡ clean → RowLines s ks (i + length (line_at s i) + 1) n → RowLines s ks i (suc n)

-- a run with one more row
abbrev pub with_noted : Option Run → ℕ → Run
with_noted (Some r) row = record { first = r.first; rows = r.rows + 1 }
with_noted None row = record { first = row; rows = 1 }

-- the run of the rows xs: none where there are none
pub record RunIs (xs : List ℕ) (r : Run) : Type 0 where
  pub some : 0 < r.rows
  pub many : r.rows ≡ length xs
  pub first : r.first ≡ get_or xs 0 0

abbrev pub RunOf : List ℕ → Option Run → Type 0
RunOf xs r = MatchOption r (xs ≡ []) (RunIs xs)

-- of the rows of profile k among the n data lines from place i on
pub record RunRead (s ks : List ℕ) (i n k : ℕ) (r : Option Run) : Type 0 where
  pub run : RunOf (rows_of k 1 (labels (map (key_of ks) (rows_from s i n)))) r
  pub within : IfSome r (λ x. (1 ≤ x.first) × (x.first ≤ n))
