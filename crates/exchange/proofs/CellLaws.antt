-- A row and a column asked for.
use Prim.Native.Nat.{ℕ, ◌+◌, ◌-◌, ◌≤◌}
use mathlib.Core.Path.{◌≡◌, refl, sym, ap, subst, ◌∙◌}
use mathlib.Core.List.{List, [], ◌∷◌}
use mathlib.Core.Bool.{true, false, ◌||◌}
use native.Mathlib.Omega.{arith}
use lib.ListN.{length, get_or}
use lib.Dec.{eqb}
use Rattle.std.specs.Prelude.{Ok, Err}
use Rattle.line_bytes.specs.declared.Span.{Span}
use Rattle.verdicts.specs.declared.Judged.{Judged}
use Rattle.text.specs.declared.Reading.{Reading}
use Rattle.text.specs.declared.Reading.TheVariants.{Refused}
use Rattle.line_bytes.specs.Spaces.{trim_span}
use Rattle.verdicts.specs.Verdicts.{size_of}
use Rattle.verdicts.specs.Kinds.{kind_of}
use Rattle.verdicts.specs.Judge.{judge, judged_of, judged_at}
use Rattle.text.specs.Reading.{reading_of, reading_at}
use Rattle.verdicts.proofs.JudgeLaws.{judged-stop}
use Rattle.line_bytes.proofs.SpaceLaws.{span_fits}
use Rattle.line_bytes.specs.Cells.{line_at, cell_at, cell_end}
use Rattle.line_bytes.proofs.CellLaws.{stop_moved}
use Rattle.exchange.specs.declared.finding.Cell.{Cell}
use Rattle.format.specs.declared.Flagged.{Flagged}
use Rattle.format.specs.declared.Refusal.{Refusal}
use Rattle.format.specs.declared.CellPlace.{CellPlace}
use Rattle.format.specs.declared.Opened.{Opened}
use Rattle.format.specs.Places.{Table}
use Rattle.format.specs.Grid.{span_in}
use Rattle.format.specs.Opened.{opened_of}
use Rattle.format.specs.Inner.Grid.{line_start, cell_span}
use Rattle.format.specs.Answers.{Asked, found, missed, asked_by, asked_of, kind_at, row_cells, cell_text, cell_place, cell_by, cell_of, refusal_by, place_by, place_for, reading_by, reading_for, flagged_by, flagged_of}
use Rattle.format.specs.NamesLine.{kind_in_line}
use Rattle.exchange.specs.Inner.Cells.{CellRead, AskedRead}
use Rattle.format.proofs.GridLaws.{RowAt, SpanAt, span_at_lem}
use Rattle.format.proofs.InsideLaws.{outside, Inside, inside_by, asked-inside, asked-outside}
use Rattle.format.proofs.OpenedLaws.{OpenedTable, opened-refused, opened-table, row-found}
use Rattle.format.proofs.VerdictLaws.{reading_anywhere, size_anywhere}
use Rattle.format.proofs.NamesLineLaws.{kind-asked}

module _ (s : List ℕ) (r c : ℕ) (o : Opened) (q : o ≡ opened_of s) where
  -- ---- the refusals
  pub ask-refused : (o.checked.number ≡ 0 → ⊥) → asked_of s r c ≡ missed o.checked.number o.checked.line o.checked.column
  unfolding asked_of
  ask-refused z = ap (asked_by r c) (opened-refused s o q z)

  module _ (z : o.checked.number ≡ 0) where
    w : OpenedTable s o
    w = opened-table s o q z

    pub ask-missed : outside r o.checked.rows c o.checked.columns ≡ true → asked_of s r c ≡ missed 21 0 0
    unfolding asked_of
    ask-missed b = ap (asked_by r c) w.is ∙ asked-outside r o.checked.rows c w.table (subst (λ (k : ℕ). outside r o.checked.rows c k ≡ true) w.columns b)

    -- ---- the cell
    module _ (b : outside r o.checked.rows c o.checked.columns ≡ false) where
      there : Inside r o.checked.rows c (length w.table.names)
      there = subst (λ (m : ℕ). Inside r o.checked.rows c m) w.columns (inside_by r o.checked.rows c o.checked.columns b)

      pub ask-found : (at e k : ℕ) (p : Span) → at ≡ line_start s o.first (r - 1) → e ≡ at + length (line_at s at) → k ≡ kind_in_line (line_at s o.names) c → p ≡ cell_span s at (c - 1)
          → (t : Table) × CellRead s r c t (record { kind = k; place = p; at = at; feed = e; names = o.names })
      unfolding asked_of
      ask-found at e k p ea ee ek ep = (w.table, cell)
        where
          row : RowAt s w.table (r - 1) at
          row = subst (RowAt s w.table (r - 1)) (sym ea) (row-found w (r - 1) (omega (arith, there.row, there.rows)))

          span : SpanAt s at (at + length (line_at s at)) (c - 1)
          span = span_at_lem (c - 1) s at _ row.feed (omega (arith, there.column, there.columns, row.many))

          place : (k : ℕ) → cell_span s at (k - 1) ≡ cell_place w.table s r k
          place k = ap (λ (ts : List (List ℕ)). span_in at ts (k - 1)) row.cells ∙ ap (λ (j : ℕ). span_in j (row_cells w.table s r) (k - 1)) row.place

          start_is : p.start ≡ (cell_span s at (c - 1)).start
          start_is = ap (λ (y : Span). y.start) ep

          cell : CellRead s r c w.table (record { kind = k; place = p; at = at; feed = e; names = o.names })
          cell = record {
            asked = ap (asked_by r c) w.is ∙ asked-inside r o.checked.rows c w.table there;
            kind = ek ∙ kind-asked w.table (line_at s o.names) w.named.names_are c there.column there.columns;
            place = ep ∙ place c;
            stop = rw (start_is, ee) (stop_moved row.feed span.inside);
            text = ap (cell_at 44 s) start_is ∙ span.text ∙ ap (λ (ts : List (List ℕ)). get_or ts (c - 1) []) row.cells;
            room = omega (arith, start_is, ap (λ (y : Span). y.len) ep, span.room, row.feed.room);
            within = (there.column, there.columns);
            cells = place;
            names = w.named.names_are;
            inside = w.names.inside;
          }

module _ (s : List ℕ) (r c : ℕ) where
  module _ (e : Refusal) (w : AskedRead s r c (Err e)) where
    pub call_reading : Refused e.number e.line e.column ≡ reading_for s r c
    unfolding reading_for
    call_reading = sym (ap (reading_by s r c) w)

    pub call-flag : ◌≡◌ {A = Flagged} (record { number = e.number; line = e.line; column = e.column; flag = 0 }) (flagged_of s r c)
    unfolding flagged_of
    call-flag = sym (ap (flagged_by s r c) w)

    pub call-place : ◌≡◌ {A = CellPlace} (record { number = e.number; line = e.line; column = e.column; place = record { start = 0; len = 0 } }) (place_for s r c)
    unfolding place_for cell_of
    call-place = sym (ap (λ (a : Asked). place_by (cell_by s r c a) a) w)

  module _ (x : Cell) (w : AskedRead s r c (Ok x)) where
    abbrev t : Table
    t = w.0

    cell : CellRead s r c t x
    cell = w.1

    judged_is : judged_at x.kind 44 s x.place.start x.feed ≡ judged_of (cell_end 44 s x.place.start) (judge (kind_of (kind_at t c)) (cell_text t s r c))
    judged_is = judged-stop cell.stop x.kind ∙ ap (λ (k : ℕ). judged_of (cell_end 44 s x.place.start) (judge (kind_of k) (cell_at 44 s x.place.start))) cell.kind
        ∙ ap (λ (y : List ℕ). judged_of (cell_end 44 s x.place.start) (judge (kind_of (kind_at t c)) y)) cell.text

    pub read_reading : (y : Reading) → y ≡ reading_at x.kind 44 s x.place.start x.feed → y ≡ reading_for s r c
    unfolding reading_for reading_at
    read_reading y e =
        e ∙ ap (reading_of x.kind) judged_is ∙ ap (λ (k : ℕ). reading_of k (judged_of (cell_end 44 s x.place.start) (judge (kind_of (kind_at t c)) (cell_text t s r c)))) cell.kind
        ∙ reading_anywhere (kind_at t c) (cell_end 44 s x.place.start) (judge (kind_of (kind_at t c)) (cell_text t s r c)) ∙ sym (ap (reading_by s r c) cell.asked)

    pub read-flag : (eqb x.kind 4 || eqb x.kind 5) ≡ true → (j : Judged) → j ≡ judged_at x.kind 44 s x.place.start x.feed → ◌≡◌ {A = Flagged} (record { number = 0; line = 0; column = 0; flag = j.size }) (flagged_of s r c)
    unfolding flagged_of
    read-flag b j e =
        let f : j.size ≡ size_of (judge (kind_of (kind_at t c)) (cell_text t s r c)) =
        ap (λ (y : Judged). y.size) (e ∙ judged_is) ∙ size_anywhere (cell_end 44 s x.place.start) (judge (kind_of (kind_at t c)) (cell_text t s r c)) in
        rw (cell.asked, f) (rw (ap (λ (k : ℕ). eqb k 4 || eqb k 5) (sym cell.kind) ∙ b))

    pub read-other : (eqb x.kind 4 || eqb x.kind 5) ≡ false → ◌≡◌ {A = Flagged} (record { number = 22; line = 0; column = 0; flag = 0 }) (flagged_of s r c)
    unfolding flagged_of
    read-other b = rw cell.asked (rw (ap (λ (k : ℕ). eqb k 4 || eqb k 5) (sym cell.kind) ∙ b))

    pub read-place : (p : Span) → p ≡ trim_span s x.place.start (x.place.start + x.place.len) → ◌≡◌ {A = CellPlace} (record { number = 0; line = 0; column = 0; place = p }) (place_for s r c)
    unfolding place_for cell_of
    read-place p e = rw e (rw cell.asked (ap (λ (q : Span). place_by (trim_span s q.start (q.start + q.len)) (found t)) cell.place))

-- ---- the place of a cell, which lies in the file
module _ (s : List ℕ) (r c : ℕ) (p : CellPlace) (e : p ≡ place_for s r c) where
  pub place_is : p.place ≡ cell_of s r c
  unfolding place_for
  place_is = ap (λ (q : CellPlace). q.place) e ∙ go (asked_of s r c)
    where
      go : (a : Asked) → (place_by (cell_of s r c) a).place ≡ cell_of s r c
      go (found t) = refl
      go (missed a b d) = refl

  pub place-refusal : (p.number ∷ p.line ∷ p.column ∷ []) ≡ refusal_by (asked_of s r c)
  unfolding place_for
  place-refusal = ap (λ (q : CellPlace). q.number ∷ q.line ∷ q.column ∷ []) e ∙ go (asked_of s r c)
    where
      go : (a : Asked) → let q = place_by (cell_of s r c) a in (q.number ∷ q.line ∷ q.column ∷ []) ≡ refusal_by a
      go (found t) = refl
      go (missed a b d) = refl

  pub place-fits : p.place.start + p.place.len ≤ length s
  unfolding cell_of
  place-fits = rw place_is (go (asked_of s r c))
    where
      go : (a : Asked) → (cell_by s r c a).start + (cell_by s r c a).len ≤ length s
      go (found t) = span_fits s (cell_place t s r c).start ((cell_place t s r c).start + (cell_place t s r c).len) _ refl
      go (missed a b d) = omega arith
