-- Where the cells of a measurement stand, and the name of their column.
use Prim.Native.Nat.{ℕ, ◌+◌, ◌-◌, ◌≤◌, ◌<◌}
use mathlib.Core.Path.{◌≡◌, sym, ap, ◌∙◌}
use mathlib.Core.List.{List, []}
use mathlib.Core.Bool.{Bool, false, cond}
use lib.ListN.{length, get_or}
use lib.Dec.{eqb, ltb}
use Rattle.std.specs.Prelude.{Ok, Err}
use borrow.Author.Tests.{lt-ltb, le-ltb}
use Rattle.line_bytes.specs.declared.Span.{Span}
use Rattle.line_bytes.specs.Cells.{line_at}
use Rattle.line_bytes.specs.Names.{begins_ctd}
use Rattle.exchange.specs.declared.finding.Cell.{Cell}
use Rattle.format.specs.declared.Located.{Located}
use Rattle.format.specs.declared.Refusal.{Refusal}
use Rattle.format.specs.Columns.{names_of}
use Rattle.format.specs.Grid.{nowhere}
use Rattle.format.specs.Inner.Grid.{cell_span}
use Rattle.format.specs.Inner.Names.{text_in}
use Rattle.format.specs.Located.{flag_column, located_by, located_of}
use Rattle.format.specs.NamesLine.{flag_in_line}
use Rattle.exchange.specs.Inner.Cells.{CellRead, AskedRead}
use Rattle.columns.proofs.AskedLaws.{span-text, span-room}
use Rattle.format.proofs.NamesLineLaws.{flag-asked}

-- ---- a column counted from 1, 0 being none
module _ (s : List ℕ) (at k : ℕ) where
  pub place-some : 0 < k → (p : Span) → p ≡ cell_span s at (k - 1) → p ≡ cond (ltb 0 k) (cell_span s at (k - 1)) nowhere
  place-some h p e = rw (lt-ltb 0 k h) e

  pub place_none : k ≤ 0 → nowhere ≡ cond (ltb 0 k) (cell_span s at (k - 1)) nowhere
  place_none h = rw (le-ltb 0 k h)

-- ---- a name by its cell's place in the names line
module _ (s : List ℕ) (i k : ℕ) (p : Span) (e : p ≡ cell_span s i k) where
  pub name-room : i ≤ length s → p.start + p.len ≤ length s
  name-room h = rw e (span-room s k i h)

  pub name-ctd : (t : List ℕ) (b : Bool) → t ≡ text_in s p.start (p.start + p.len) → b ≡ begins_ctd t → b ≡ begins_ctd (get_or (names_of (line_at s i)) k [])
  name-ctd t b d g = g ∙ ap begins_ctd (d ∙ ap (λ (q : Span). text_in s q.start (q.start + q.len)) e ∙ span-text s k i)

-- ---- the call
module _ (s : List ℕ) (r c : ℕ) where
  pub locate-refused : (e : Refusal) → AskedRead s r c (Err e)
      → ◌≡◌ {A = Located} (record { number = e.number; line = e.line; column = e.column; value = nowhere; measured = false; ctd = false; flagged = false; flag = nowhere }) (located_of s r c)
  unfolding located_of
  locate-refused e w = sym (ap (located_by s r c) w)

  module _ (x : Cell) (w : AskedRead s r c (Ok x)) where
    cell : CellRead s r c w.0 x
    cell = w.1

    pub locate-found : (d : Bool) → d ≡ begins_ctd (get_or (names_of (line_at s x.names)) (c - 1) [])
        → (f : ℕ) → f ≡ flag_in_line (line_at s x.names) c
        → (p : Span) → p ≡ cond (ltb 0 f) (cell_span s x.at (f - 1)) nowhere
        → ◌≡◌ {A = Located} (record { number = 0; line = 0; column = 0; value = x.place; measured = eqb x.kind 0; ctd = d; flagged = ltb 0 f; flag = p }) (located_of s r c)
    unfolding located_of
    locate-found d e f ef p ep =
        let g : f ≡ flag_column w.0 c = ef ∙ flag-asked w.0 (line_at s x.names) cell.names c cell.within.0 cell.within.1 in
        rw (cell.asked, e, ep, cell.kind, cell.place, cell.cells f, g, ← cell.names)
