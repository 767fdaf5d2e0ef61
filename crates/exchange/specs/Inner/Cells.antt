-- The words of the contract of finding the cell of a row and a column; no promise of a public call cites them.
use Rattle.std.specs.Prelude.{ℕ, ◌+◌, ◌-◌, ◌≤◌, ◌≡◌, List, length, Result, Ok, Err}
use Rattle.line_bytes.specs.Bytes.{comma}
use Rattle.line_bytes.specs.Cells.{line_at, cell_at}
use Rattle.line_bytes.specs.Inner.Scans.{Stop}
use Rattle.exchange.specs.declared.finding.Cell.{Cell}
use Rattle.format.specs.declared.Refusal.{Refusal}
use Rattle.format.specs.Columns.{names_of}
use Rattle.format.specs.Places.{Table}
use Rattle.format.specs.Inner.Grid.{cell_span}
use Rattle.format.specs.Answers.{found, missed, asked_of, kind_at, cell_text, cell_place}

-- the cell of row r and column c of the table t, as the code has it
pub record CellRead (s : List ℕ) (r c : ℕ) (t : Table) (x : Cell) : Type 0 where
  pub asked : asked_of s r c ≡ found t
  pub kind : x.kind ≡ kind_at t c
  pub place : x.place ≡ cell_place t s r c
  pub stop : Stop comma s x.place.start x.feed
  pub text : cell_at comma s x.place.start ≡ cell_text t s r c
  pub room : x.place.start + x.place.len ≤ length s
  pub within : (1 ≤ c) × (c ≤ length t.names)
  pub cells : (k : ℕ) → cell_span s x.at (k - 1) ≡ cell_place t s r k
  pub names : t.names ≡ names_of (line_at s x.names)
  pub inside : x.names ≤ length s

-- row r and column c: their cell, or the refusal
abbrev pub AskedRead : List ℕ → ℕ → ℕ → Result Cell Refusal → Type 0
AskedRead s r c (Ok x) = (t : Table) × CellRead s r c t x
AskedRead s r c (Err e) = asked_of s r c ≡ missed e.number e.line e.column
