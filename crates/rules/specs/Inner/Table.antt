-- The words of the contracts of the whole file's reading; no promise of a public call cites them.
use Rattle.std.specs.Prelude.{ℕ, ◌+◌, ◌-◌, ◌≤◌, ◌≡◌, List, map, true, cond, length, ltb, Result, Err, Ok}
use Rattle.format.specs.declared.Refusal.{Refusal}
use Rattle.rules.specs.declared.free.LineStart.{LineStart}
use Rattle.rules.specs.declared.table.FileTable.{FileTable}
use Rattle.format.specs.Columns.{kinds_of}
use Rattle.format.specs.Places.{Table, accepted, refused, outcome_of}
use Rattle.format.specs.Profiles.{missing_in_rows, key_of, run_count}
use Rattle.format.specs.Records.{headers_line}
use Rattle.format.specs.Answers.{kind_by}
use Rattle.format.specs.Inner.Lines.{StartsAt, line_of}
use Rattle.format.specs.Inner.Rows.{rows_from}
use Rattle.rules.specs.Inner.Free.{due, after_line}
use Rattle.rules.specs.Inner.Top.{LineAt}

-- the line after the one at f, which is due
abbrev pub due_line : List ℕ → LineStart → Result LineStart Refusal
due_line s f = cond (ltb f.at (length s)) (after_line (line_of true s f.at) f.line) (Err (due f.line))

-- what the code's table v says of the table t
pub record TableRead (s : List ℕ) (t : Table) (v : FileTable) : Type 0 where
  pub many : v.columns ≡ length t.names
  pub inside : v.data ≤ length s
  pub starts : StartsAt s (t.line + 1) v.data
  pub missing : v.missing ≡ missing_in_rows (kinds_of t.names) (rows_from s v.data v.rows)
  pub profiles : v.profiles ≡ run_count (map (key_of (kinds_of t.names)) (rows_from s v.data v.rows))

-- what the code's table v says of an accepted file's table t
pub record FileTold (s : List ℕ) (v : FileTable) (t : Table) : Type 0 where
  pub is : outcome_of s ≡ accepted t v.rows
  pub kind : v.kind ≡ kind_by t.sort
  pub read : TableRead s t v
  pub names : LineAt s (t.line - 1) v.names
  pub headers : LineAt s (headers_line t + 1) v.headers

-- the whole file: the table that the check ends with, or the broken rule
abbrev pub FileRead : List ℕ → Result FileTable Refusal → Type 0
FileRead s (Ok v) = (t : Table) × FileTold s v t
FileRead s (Err e) = outcome_of s ≡ refused e.number e.line e.column
