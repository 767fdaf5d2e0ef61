-- The words of the contracts of the header lines' run; no promise of a public call cites them.
use Rattle.std.specs.Prelude.{ℕ, ◌+◌, ◌≤◌, ◌<◌, ◌≡◌, List, length, get_or, Result, Ok, Err}
use Rattle.format.specs.declared.Refusal.{Refusal}
use Rattle.headers.specs.declared.FirstHeader.{FirstHeader}
use Rattle.headers.specs.Inner.Headers.{first_header_fault_at, first_header_for}
use Rattle.rules.specs.declared.free.LineStart.{LineStart}
use Rattle.format.specs.Headers.{Header}
use Rattle.format.specs.Columns.{ctd}
use Rattle.format.specs.Places.{comments, names, refused, run}
use Rattle.format.specs.Inner.Lines.{lines_from, StartsAt}

-- the first header line, which is at f, is h and keeps its rules
pub record Begun (s : List ℕ) (f : LineStart) (h : FirstHeader) : Type 0 where
  pub inside : f.at < length s
  pub few : f.line ≤ f.at + 2
  pub apart : get_or s f.at 0 ≡ 35 → ⊥
  pub read : first_header_for (first_header_fault_at s f.at) s f.at ≡ Ok h

-- the headers from f on are read, and r is the line after them
pub record HeadersPassed (s : List ℕ) (f r : LineStart) : Type 0 where
  pub on : (hs : List Header) × (run f.line (comments ctd) (lines_from s f.at) ≡ run r.line (names ctd hs) (lines_from s r.at)) × (r.line ≡ f.line + length hs)
  pub inside : (r.at ≤ length s) × (r.line ≤ r.at + 2)
  pub counted : 1 ≤ f.line → StartsAt s f.line f.at → (1 ≤ r.line) × StartsAt s r.line r.at

-- or a rule is broken
abbrev pub HeadersRead : List ℕ → LineStart → Result LineStart Refusal → Type 0
HeadersRead s f (Ok r) = HeadersPassed s f r
HeadersRead s f (Err e) = run f.line (comments ctd) (lines_from s f.at) ≡ refused e.number e.line e.column
