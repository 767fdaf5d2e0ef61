-- The words of the contracts of the lines before the names line; no promise of a public call cites them.
use Rattle.std.specs.Prelude.{ℕ, ◌+◌, ◌≤◌, ◌≡◌, List, length, Result, Ok, Err}
use Rattle.format.specs.declared.Refusal.{Refusal}
use Rattle.rules.specs.declared.top.Top.{Top}
use Rattle.format.specs.Headers.{Header}
use Rattle.format.specs.Columns.{Sort}
use Rattle.format.specs.Places.{names, refused, run, outcome_of}
use Rattle.format.specs.Answers.{kind_by}
use Rattle.format.specs.Inner.Lines.{lines_from, StartsAt}

-- line l, from 1, starts at i
pub record LineAt (s : List ℕ) (l i : ℕ) : Type 0 where
  pub inside : i ≤ length s
  pub starts : StartsAt s l i

-- the check comes to the names line, after the headers hs, the first of which is line m
pub record TopTold (s : List ℕ) (r : Top) (k : Sort) (hs : List Header) (m : ℕ) : Type 0 where
  pub kind : r.kind ≡ kind_by k
  pub on : outcome_of s ≡ run r.names.line (names k hs) (lines_from s r.names.at)
  pub inside : (r.names.at ≤ length s) × (r.names.line ≤ r.names.at + 2)
  pub counted : (1 ≤ r.names.line) × StartsAt s r.names.line r.names.at
  pub headers : (r.names.line ≡ m + length hs) × (1 ≤ m) × LineAt s m r.headers

-- or a rule is broken
abbrev pub TopRead : List ℕ → Result Top Refusal → Type 0
TopRead s (Ok r) = (k : Sort) × (hs : List Header) × (m : ℕ) × TopTold s r k hs m
TopRead s (Err e) = outcome_of s ≡ refused e.number e.line e.column
