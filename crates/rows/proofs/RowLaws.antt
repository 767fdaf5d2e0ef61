-- The cells of a data line, judged from the left: against the rules of a row, its missing readings and its key.
use Prim.Native.Nat.{ℕ, suc, ◌+◌, ◌-◌, ◌≤◌, ◌<◌}
use mathlib.Core.Path.{◌≡◌, refl, sym, ap, subst, ◌∙◌}
use mathlib.Core.List.{List, [], ◌∷◌}
use mathlib.Core.Bool.{Bool, true, false, cond, not, ◌&&◌}
use native.Mathlib.Omega.{arith}
use lib.ListN.{length, get_or}
use lib.Dec.{eqb}
use mir.Val.{bool_byte}
use borrow.Author.Tests.{eq-eqb, ne_eqb, eqb-true, eqb-false}
use Rattle.line_bytes.specs.declared.Span.{Span}
use Rattle.verdicts.specs.declared.Keys.{Keys}
use Rattle.verdicts.specs.declared.CellsRead.{CellsRead}
use Rattle.line_bytes.specs.Cells.{cell_at, cell_end}
use Rattle.line_bytes.specs.Spaces.{trim}
use Rattle.verdicts.specs.Verdicts.{Verdict, number_of, is_good, size_of}
use Rattle.verdicts.specs.Kinds.{castno, kind_of}
use Rattle.verdicts.specs.Judge.{judge, judged_of, stops_at}
use Rattle.verdicts.specs.Rows.{is_missing_number, missing_in, noted, no_keys, no_cells, ended_at, is_last, cells_from, cells_at}
use Rattle.line_bytes.specs.Inner.Scans.{Stop}
use Rattle.verdicts.proofs.JudgeLaws.{stop_from, stop-holds, judged_at_lem, judged-number}
use Rattle.line_bytes.proofs.CellLaws.{stop_moved, stop-short, cell_end-within, cell_end_from, cell_end-parts, pieces-last, pieces_more}
use Rattle.line_bytes.proofs.SpaceLaws.{span-bytes}
use Rattle.format.specs.Faults.{clean, breaks, first_of}
use Rattle.format.specs.Profiles.{missing_in_row, cell_of_kind, key_of}
use Rattle.rows.specs.declared.Row.{Row}
use Rattle.format.specs.declared.BrokenRule.{BrokenRule}
use Rattle.std.specs.Prelude.{Result, Ok, Err}
use Rattle.format.specs.Rows.{cell_rules, row_rules}
use Rattle.format.specs.Inner.Faults.{cell_fault, row_fault}
use Rattle.format.specs.Inner.Rows.{span_text, key_at, line_cells}
use Rattle.rows.specs.Inner.RowReads.{wrong_count, broken_at, row_by, row_for, RowKept, RowRead}
use Rattle.format.proofs.GridWalkLaws.{cell-slice}
use Rattle.format.proofs.VerdictLaws.{fault-good, fault_bad, number-good, number_bad}

-- ---- how the cells of the line before the line feed at e are judged, from the one at `at` on
abbrev verdict_at : List ℕ → ℕ → ℕ → Verdict
verdict_at s k at = judge (kind_of k) (cell_at 44 s at)

abbrev missing_to : List ℕ → ℕ → ℕ → ℕ → ℕ
missing_to s k at m = m + missing_in k (verdict_at s k at)

abbrev keys_to : List ℕ → ℕ → ℕ → Keys → Keys
keys_to s k at w = noted k at (cell_end 44 s at) (size_of (verdict_at s k at)) w

abbrev bad_at : List ℕ → ℕ → ℕ → ℕ → ℕ → Keys → CellsRead
bad_at s k at g m w = ended_at at g m w (judged_of (cell_end 44 s at) (verdict_at s k at))

abbrev last_at : List ℕ → ℕ → ℕ → ℕ → ℕ → Keys → CellsRead
last_at s k at g m w = ended_at at (g + 1) (missing_to s k at m) (keys_to s k at w) (judged_of (cell_end 44 s at) (verdict_at s k at))

-- a cell is refused; or the last cell is the last kind's, comes too early, or is followed by another; or the next is judged
data Judging (s : List ℕ) (e : ℕ) : List ℕ → ℕ → ℕ → ℕ → Keys → CellsRead → Type 0 where
  bad : {k : ℕ} {ks : List ℕ} {at g m : ℕ} {w : Keys} → Stop 44 s at e → is_good (verdict_at s k at) ≡ false
      → Judging s e (k ∷ ks) at g m w (bad_at s k at g m w)
  full : {k at g m : ℕ} {w : Keys} → Stop 44 s at e → is_good (verdict_at s k at) ≡ true → get_or s (cell_end 44 s at) 0 ≡ 10
      → Judging s e (k ∷ []) at g m w (last_at s k at g m w)
  short : {k l : ℕ} {ks : List ℕ} {at g m : ℕ} {w : Keys} → Stop 44 s at e → is_good (verdict_at s k at) ≡ true → get_or s (cell_end 44 s at) 0 ≡ 10
      → Judging s e (k ∷ (l ∷ ks)) at g m w (last_at s k at g m w)
  long : {k at g m : ℕ} {w : Keys} → Stop 44 s at e → is_good (verdict_at s k at) ≡ true → get_or s (cell_end 44 s at) 0 ≡ 44
      → Judging s e (k ∷ []) at g m w (last_at s k at g m w)
  more : {k l : ℕ} {ks : List ℕ} {at g m : ℕ} {w : Keys} {r : CellsRead} → Stop 44 s at e → is_good (verdict_at s k at) ≡ true → get_or s (cell_end 44 s at) 0 ≡ 44
      → Judging s e (l ∷ ks) (cell_end 44 s at + 1) (g + 1) (missing_to s k at m) (keys_to s k at w) r
      → Judging s e (k ∷ (l ∷ ks)) at g m w r

-- ---- the cells from `at` on
module _ {s : List ℕ} {at e : ℕ} (t : Stop 44 s at e) where
  cells-last : get_or s (cell_end 44 s at) 0 ≡ 10 → line_cells s at ≡ cell_at 44 s at ∷ []
  cells-last f = pieces-last t f

  cells-more : get_or s (cell_end 44 s at) 0 ≡ 44 → line_cells s at ≡ cell_at 44 s at ∷ line_cells s (cell_end 44 s at + 1)
  cells-more f = pieces_more t (λ z. omega arith) f

  stop-next : get_or s (cell_end 44 s at) 0 ≡ 44 → Stop 44 s (cell_end 44 s at + 1) e
  stop-next f =
      stop_moved t (omega (arith, stop-short (stop_moved t (cell_end-within t)) (λ z. omega (arith, f, z))))

-- ---- what judging the cells gives is such a judging
module _ (s : List ℕ) (e i : ℕ) where
  judging_bad : (k : ℕ) (ks : List ℕ) (at g m : ℕ) (w : Keys) → Stop 44 s at e → is_good (verdict_at s k at) ≡ false
      → Judging s e (k ∷ ks) at g m w (cells_from i at g m w (k ∷ ks) (line_cells s at))
  unfolding cells_from cell_end
  judging_bad k ks at g m w t h = rw h (bad t h)

  judging-end : (k : ℕ) (ks : List ℕ) (at g m : ℕ) (w : Keys) (ts : List (List ℕ)) → line_cells s at ≡ cell_at 44 s at ∷ ts → is_last ks ts ≡ true
      → is_good (verdict_at s k at) ≡ true → Judging s e (k ∷ ks) at g m w (last_at s k at g m w) → Judging s e (k ∷ ks) at g m w (cells_from i at g m w (k ∷ ks) (line_cells s at))
  unfolding cells_from cell_end
  judging-end k ks at g m w ts q l h j =
      subst (λ (us : List (List ℕ)). Judging s e (k ∷ ks) at g m w (cells_from i at g m w (k ∷ ks) us)) (sym q) (rw (h, l) j)

  judging-last : (k at g m : ℕ) (w : Keys) (b f : Bool) → Stop 44 s at e → is_good (verdict_at s k at) ≡ b → eqb (get_or s (cell_end 44 s at) 0) 10 ≡ f
      → Judging s e (k ∷ []) at g m w (cells_from i at g m w (k ∷ []) (line_cells s at))
  judging-last k at g m w false f t h q = judging_bad k [] at g m w t h
  judging-last k at g m w true true t h q =
      let z = eqb-true (get_or s (cell_end 44 s at) 0) 10 q in
      judging-end k [] at g m w [] (cells-last t z) refl h (full t h z)
  judging-last k at g m w true false t h q =
      let z = cell_end-parts t (eqb-false (get_or s (cell_end 44 s at) 0) 10 q) in
      judging-end k [] at g m w (line_cells s (cell_end 44 s at + 1)) (cells-more t z) refl h (long t h z)

  judging-on : (k l : ℕ) (ks : List ℕ) (at g m : ℕ) (w : Keys) → line_cells s at ≡ cell_at 44 s at ∷ line_cells s (cell_end 44 s at + 1)
      → is_good (verdict_at s k at) ≡ true
      → cells_from i at g m w (k ∷ (l ∷ ks)) (line_cells s at)
      ≡ cells_from i (cell_end 44 s at + 1) (g + 1) (missing_to s k at m) (keys_to s k at w) (l ∷ ks) (line_cells s (cell_end 44 s at + 1))
  unfolding cells_from cell_end
  judging-on k l ks at g m w q h = ap (cells_from i at g m w (k ∷ (l ∷ ks))) q ∙ rw h

  judging-more : (k l : ℕ) (ks : List ℕ) (at g m : ℕ) (w : Keys) (b f : Bool) → Stop 44 s at e → is_good (verdict_at s k at) ≡ b → eqb (get_or s (cell_end 44 s at) 0) 10 ≡ f
      → ((a n u : ℕ) (v : Keys) → Stop 44 s a e → Judging s e (l ∷ ks) a n u v (cells_from i a n u v (l ∷ ks) (line_cells s a)))
      → Judging s e (k ∷ (l ∷ ks)) at g m w (cells_from i at g m w (k ∷ (l ∷ ks)) (line_cells s at))
  judging-more k l ks at g m w false f t h q rest = judging_bad k (l ∷ ks) at g m w t h
  judging-more k l ks at g m w true true t h q rest =
      let z = eqb-true (get_or s (cell_end 44 s at) 0) 10 q in
      judging-end k (l ∷ ks) at g m w [] (cells-last t z) refl h (short t h z)
  judging-more k l ks at g m w true false t h q rest =
      let z = cell_end-parts t (eqb-false (get_or s (cell_end 44 s at) 0) 10 q) in
      subst (λ (r : CellsRead). Judging s e (k ∷ (l ∷ ks)) at g m w r) (sym (judging-on k l ks at g m w (cells-more t z) h))
      (more t h z (rest (cell_end 44 s at + 1) (g + 1) (missing_to s k at m) (keys_to s k at w) (stop-next t z)))

judging_from : (s : List ℕ) (e i : ℕ) (ks : List ℕ) (k at g m : ℕ) (w : Keys) → Stop 44 s at e
    → Judging s e (k ∷ ks) at g m w (cells_from i at g m w (k ∷ ks) (line_cells s at))
judging_from s e i [] k at g m w t = judging-last s e i k at g m w (is_good (verdict_at s k at)) (eqb (get_or s (cell_end 44 s at) 0) 10) t refl refl
judging_from s e i (l ∷ ks) k at g m w t =
    judging-more s e i k l ks at g m w (is_good (verdict_at s k at)) (eqb (get_or s (cell_end 44 s at) 0) 10) t refl refl
    (λ a n u v x. judging_from s e i ks l a n u v x)

judging-all : (s ks : List ℕ) (i e : ℕ) (r : CellsRead) → Stop 44 s i e → 0 < length ks → r ≡ cells_at ks 44 s i e → Judging s e ks i 0 0 no_keys r
unfolding cells_at
judging-all s [] i e r t h q = absurd (omega arith)
judging-all s (k ∷ ks) i e r t h q = rw (q, stop-holds t) (judging_from s e i ks k i 0 0 no_keys t)

-- ---- a refused cell
record CellRefused (s : List ℕ) (e : ℕ) (ks : List ℕ) (at g : ℕ) (r : CellsRead) : Type 0 where
  low : at ≤ r.start
  stop : Stop 44 s r.start e
  left : r.good < g + length ks
  count : length (line_cells s at) + g ≡ length (line_cells s r.start) + r.good
  fault : (c : ℕ) → cell_fault c ks (line_cells s at) ≡ breaks r.number (c + (r.start - at))

module _ {s : List ℕ} {at e : ℕ} (t : Stop 44 s at e) (k : ℕ) (ks : List ℕ) where
  faults_bad : (c : ℕ) → is_good (verdict_at s k at) ≡ false → cell_fault c (k ∷ ks) (line_cells s at) ≡ breaks (number_of (verdict_at s k at)) c
  unfolding cell_fault cell_rules first_of
  faults_bad c h = rw (fault_bad (verdict_at s k at) c h)

  faults-last : (c : ℕ) → is_good (verdict_at s k at) ≡ true → get_or s (cell_end 44 s at) 0 ≡ 10 → cell_fault c (k ∷ []) (line_cells s at) ≡ clean
  unfolding cell_fault cell_rules first_of
  faults-last c h z = rw (fault-good (verdict_at s k at) c h)

  faults-more : (c : ℕ) → is_good (verdict_at s k at) ≡ true → get_or s (cell_end 44 s at) 0 ≡ 44
      → cell_fault c (k ∷ ks) (line_cells s at) ≡ cell_fault (c + (cell_end 44 s at - at) + 1) ks (line_cells s (cell_end 44 s at + 1))
  unfolding cell_fault cell_rules first_of cell_end
  faults-more c h z =
      let n : (at + length (cell_at 44 s at)) - at ≡ length (cell_at 44 s at) = omega arith in
      ap (cell_fault c (k ∷ ks)) (cells-more t z) ∙ rw (n, fault-good (verdict_at s k at) c h)

judging-refused : {s : List ℕ} {e : ℕ} {js : List ℕ} {at g m : ℕ} {w : Keys} {r : CellsRead} → Judging s e js at g m w r → (r.number ≡ 0 → ⊥) → CellRefused s e js at g r
judging-refused {s} {e} {js} {at} {g} (bad {k} {ks} t h) z = record {
  low = omega arith;
  stop = t;
  left = omega arith;
  count = refl;
  fault = λ c.
      let e : c ≡ c + (at - at) = omega arith in
      faults_bad t k ks c h ∙ ap (λ (n : ℕ). breaks n c) (sym (judged-number (cell_end 44 s at) (verdict_at s k at))) ∙ ap (breaks (judged_of (cell_end 44 s at) (verdict_at s k at)).number) e;
}
judging-refused {s} {e} {js} {at} (full {k} t h f) z = absurd (z (judged-number (cell_end 44 s at) (verdict_at s k at) ∙ number-good (verdict_at s k at) h))
judging-refused {s} {e} {js} {at} (short {k} t h f) z = absurd (z (judged-number (cell_end 44 s at) (verdict_at s k at) ∙ number-good (verdict_at s k at) h))
judging-refused {s} {e} {js} {at} (long {k} t h f) z = absurd (z (judged-number (cell_end 44 s at) (verdict_at s k at) ∙ number-good (verdict_at s k at) h))
judging-refused {s} {e} {js} {at} {g} {m} {w} {r} (more {k} {l} {ks} t h f j) z =
    let x = judging-refused j z in
    let n = cell_end_from 44 s at in
    let c : length (line_cells s at) ≡ suc (length (line_cells s (cell_end 44 s at + 1))) = ap length (cells-more t f) in
    record {
      low = omega (arith, x.low);
      stop = x.stop;
      left = omega (arith, x.left);
      count = omega (arith, x.count);
      fault = λ c.
          let b : (c + (cell_end 44 s at - at) + 1) + (r.start - (cell_end 44 s at + 1)) ≡ c + (r.start - at) = omega (arith, x.low) in
          faults-more t k (l ∷ ks) c h f ∙ x.fault (c + (cell_end 44 s at - at) + 1) ∙ ap (breaks r.number) b;
    }

-- ---- every cell is good
judging-within : {s : List ℕ} {e : ℕ} {js : List ℕ} {at g m : ℕ} {w : Keys} {r : CellsRead} → Judging s e js at g m w r → r.at ≤ e
judging-within {s} {e} {js} {at} (bad {k} t h) = omega (arith, judged_at_lem (cell_end 44 s at) (verdict_at s k at), cell_end-within t)
judging-within {s} {e} {js} {at} (full {k} t h f) = omega (arith, judged_at_lem (cell_end 44 s at) (verdict_at s k at), cell_end-within t)
judging-within {s} {e} {js} {at} (short {k} t h f) = omega (arith, judged_at_lem (cell_end 44 s at) (verdict_at s k at), cell_end-within t)
judging-within {s} {e} {js} {at} (long {k} t h f) = omega (arith, judged_at_lem (cell_end 44 s at) (verdict_at s k at), cell_end-within t)
judging-within (more t h f j) = judging-within j

-- the cells are not as many as the kinds
judging_odd : {s : List ℕ} {e : ℕ} {js : List ℕ} {at g m : ℕ} {w : Keys} {r : CellsRead} → Judging s e js at g m w r → r.number ≡ 0
    → (r.good ≡ g + length js → get_or s r.at 0 ≡ 10 → ⊥) → length (line_cells s at) ≡ length js → ⊥
judging_odd {s} {e} {js} {at} (bad {k} t h) z n q = number_bad (verdict_at s k at) h (sym (judged-number (cell_end 44 s at) (verdict_at s k at)) ∙ z)
judging_odd {s} {e} {js} {at} (full {k} t h f) z n q = n refl (ap (λ (p : ℕ). get_or s p 0) (judged_at_lem (cell_end 44 s at) (verdict_at s k at)) ∙ f)
judging_odd {s} {e} {js} {at} (short {k} t h f) z n q =
    let c : length (line_cells s at) ≡ 1 = ap length (cells-last t f) in
    omega arith
judging_odd {s} {e} {js} {at} (long {k} t h f) z n q =
    let c : length (line_cells s at) ≡ suc (length (line_cells s (cell_end 44 s at + 1))) = ap length (cells-more t f) in
    omega arith
judging_odd {s} {e} {js} {at} {g} (more {k} {l} {ks} t h f j) z n q =
    let c : length (line_cells s at) ≡ suc (length (line_cells s (cell_end 44 s at + 1))) = ap length (cells-more t f) in
    judging_odd j z (λ a b. n (omega arith) b) (omega arith)

-- ---- a cell's place noted
cell-within : {s : List ℕ} {at e : ℕ} → Stop 44 s at e → cell_end 44 s at ≤ length s
cell-within t = omega (arith, cell_end-within t, t.room)

cell_span_lem : {s : List ℕ} {at e : ℕ} → Stop 44 s at e → span_text s (record { start = at; len = cell_end 44 s at - at }) ≡ trim (cell_at 44 s at)
unfolding span_text
cell_span_lem {s} {at} {e} t =
    let n : at + (cell_end 44 s at - at) ≡ cell_end 44 s at = omega (arith, cell_end_from 44 s at) in
    rw n (span-bytes s at (cell_end 44 s at) (cell_end_from 44 s at) (cell-within t) ∙ ap trim (cell-slice 44 s at))

-- the keys w stand for these cells
record KeyHeld (s : List ℕ) (w : Keys) (x y z : List ℕ) : Type 0 where
  expocode : span_text s w.expocode ≡ trim x
  stnnbr : span_text s w.stnnbr ≡ trim y
  castno : w.castno ≡ size_of (judge castno z)

-- CASTNO by its number
number-castno : (x : List ℕ) → size_of (judge (kind_of 8) x) ≡ size_of (judge castno x)
unfolding kind_of
number-castno x = refl

noted-held : {s : List ℕ} {at e : ℕ} → Stop 44 s at e → (k : ℕ) {w : Keys} {x y z : List ℕ} → KeyHeld s w x y z
    → KeyHeld s (keys_to s k at w) (cond (eqb k 6) (cell_at 44 s at) x) (cond (eqb k 7) (cell_at 44 s at) y) (cond (eqb k 8) (cell_at 44 s at) z)
unfolding noted
noted-held {s} {at} {e} t k {w} {x} {y} {z} h = go (eqb k 6) (eqb k 7) (eqb k 8) refl refl refl
  where
    u : List ℕ
    u = cell_at 44 s at

    span : Span
    span = record { start = at; len = cell_end 44 s at - at }

    go : (a b c : Bool) → eqb k 6 ≡ a → eqb k 7 ≡ b → eqb k 8 ≡ c
        → KeyHeld s
        (cond a (record { expocode = span; stnnbr = w.stnnbr; castno = w.castno })
        (cond b (record { expocode = w.expocode; stnnbr = span; castno = w.castno })
        (cond c (record { expocode = w.expocode; stnnbr = w.stnnbr; castno = size_of (verdict_at s k at) }) w)))
        (cond a u x) (cond b u y) (cond c u z)
    go true true c p q r = absurd (omega (arith, eqb-true k 6 p, eqb-true k 7 q))
    go true false true p q r = absurd (omega (arith, eqb-true k 6 p, eqb-true k 8 r))
    go true false false p q r = record {
      expocode = cell_span_lem t;
      stnnbr = h.stnnbr;
      castno = h.castno;
    }
    go false true true p q r = absurd (omega (arith, eqb-true k 7 q, eqb-true k 8 r))
    go false true false p q r = record {
      expocode = h.expocode;
      stnnbr = cell_span_lem t;
      castno = h.castno;
    }
    go false false true p q r = record {
      expocode = h.expocode;
      stnnbr = h.stnnbr;
      castno = ap (λ (n : ℕ). size_of (judge (kind_of n) u)) (eqb-true k 8 r) ∙ number-castno u;
    }
    go false false false p q r = h

none-held : (s : List ℕ) → KeyHeld s no_keys [] [] []
unfolding span_text judge kind_of trim Rattle.line_bytes.specs.Spaces.trim_front Rattle.line_bytes.specs.Spaces.trim_end
none-held s = record { expocode = none; stnnbr = none; castno = refl }
  where
    none : span_text s (record { start = 0; len = 0 }) ≡ trim []
    none = span-bytes s 0 0 (omega arith) (omega arith)

-- ---- a good row
record CellsFull (s ks : List ℕ) (at m : ℕ) (w : Keys) (r : CellsRead) : Type 0 where
  count : length (line_cells s at) ≡ length ks
  fault : (c : ℕ) → cell_fault c ks (line_cells s at) ≡ clean
  missing : r.missing ≡ m + missing_in_row ks (line_cells s at)
  key : (x y z : List ℕ) → KeyHeld s w x y z
      → KeyHeld s r.keys (cell_of_kind 6 x ks (line_cells s at)) (cell_of_kind 7 y ks (line_cells s at)) (cell_of_kind 8 z ks (line_cells s at))

judging_full : {s : List ℕ} {e : ℕ} {js : List ℕ} {at g m : ℕ} {w : Keys} {r : CellsRead} → Judging s e js at g m w r → r.number ≡ 0
    → r.good ≡ g + length js → get_or s r.at 0 ≡ 10 → CellsFull s js at m w r
unfolding missing_in_row cell_of_kind
judging_full {s} {e} {js} {at} (bad {k} t h) z n q =
    absurd (number_bad (verdict_at s k at) h (sym (judged-number (cell_end 44 s at) (verdict_at s k at)) ∙ z))
judging_full {s} {e} {js} {at} (full {k} t h f) z n q = record {
  count = ap length (cells-last t f);
  fault = λ c. faults-last t k [] c h f;
  missing = omega arith;
  key = λ x y z i. noted-held t k i;
}
judging_full {s} {e} {js} {at} (short {k} t h f) z n q = absurd (omega arith)
judging_full {s} {e} {js} {at} (long {k} t h f) z n q =
    let p : get_or s (cell_end 44 s at) 0 ≡ 10 = ap (λ (p : ℕ). get_or s p 0) (sym (judged_at_lem (cell_end 44 s at) (verdict_at s k at))) ∙ q in
    absurd (omega (arith, p, f))
judging_full {s} {e} {js} {at} {g} {m} {w} {r} (more {k} {l} {ks} t h f j) z n q =
    let y = judging_full j z (omega arith) q in
    let c : length (line_cells s at) ≡ suc (length (line_cells s (cell_end 44 s at + 1))) = ap length (cells-more t f) in
    let d : missing_in_row (k ∷ (l ∷ ks)) (line_cells s at) ≡ missing_in k (verdict_at s k at) + missing_in_row (l ∷ ks) (line_cells s (cell_end 44 s at + 1)) = ap (missing_in_row (k ∷ (l ∷ ks))) (cells-more t f) in
    record {
      count = omega (arith, y.count);
      fault = λ c. faults-more t k (l ∷ ks) c h f ∙ y.fault (c + (cell_end 44 s at - at) + 1);
      missing = omega (arith, y.missing, d);
      key = λ a b c i.
          subst (λ (us : List (List ℕ)). KeyHeld s r.keys (cell_of_kind 6 a (k ∷ (l ∷ ks)) us) (cell_of_kind 7 b (k ∷ (l ∷ ks)) us) (cell_of_kind 8 c (k ∷ (l ∷ ks)) us)) (sym (cells-more t f))
          (y.key _ _ _ (noted-held t k i));
    }

-- a row begins a profile where its key is not kept
pub border_one : (k e : Bool) (n : ℕ) → n ≡ bool_byte (not k) → k ≡ e → n ≡ cond e 0 1
border_one k e n h q = h ∙ rw q (go e)
  where
    go : (x : Bool) → bool_byte (not x) ≡ cond x 0 1
    go true = refl
    go false = refl

pub one-few : (b : Bool) (n : ℕ) → n ≡ cond b 1 0 → n ≤ 1
one-few true n h = omega arith
one-few false n h = omega arith

missing_one : (k : ℕ) (v : Verdict) → missing_in k v ≤ 1
unfolding missing_in
missing_one k v = one-few (eqb k 0 && is_missing_number v) (cond (eqb k 0 && is_missing_number v) 1 0) refl

missing-few : (ks : List ℕ) (ts : List (List ℕ)) → missing_in_row ks ts ≤ length ks
unfolding missing_in_row
missing-few [] ts = omega arith
missing-few (k ∷ ks) [] = omega arith
missing-few (k ∷ ks) (t ∷ ts) = omega (arith, missing_one k (judge (kind_of k) t), missing-few ks ts)

-- ---- the rules of a row
module _ (ks : List ℕ) (ts : List (List ℕ)) where
  rules-count : (length ts ≡ length ks → ⊥) → row_fault ks ts ≡ breaks 15 1
  unfolding row_fault cell_fault row_rules first_of
  rules-count h = rw (ne_eqb (length ts) (length ks) h)

  rules-cells : length ts ≡ length ks → row_fault ks ts ≡ cell_fault 1 ks ts
  unfolding row_fault cell_fault row_rules first_of
  rules-cells h = rw (eq-eqb (length ts) (length ks) h)

-- a row that keeps them
module _ (ks : List ℕ) (ts : List (List ℕ)) (h : row_fault ks ts ≡ clean) where
  kept-count : length ts ≡ length ks
  kept-count = go (eqb (length ts) (length ks)) refl
    where
      go : (b : Bool) → eqb (length ts) (length ks) ≡ b → length ts ≡ length ks
      go true p = eqb-true (length ts) (length ks) p
      go false p =
          let q : breaks 15 1 ≡ clean = sym (rules-count ks ts (eqb-false (length ts) (length ks) p)) ∙ h in
          let z : ◌≡◌ {A = ℕ} 0 1 = cc in
          absurd (omega arith)

  kept-cells : cell_fault 1 ks ts ≡ clean
  kept-cells = sym (rules-cells ks ts kept-count) ∙ h

row-short : (s ks : List ℕ) (i : ℕ) → (length (line_cells s i) ≡ length ks → ⊥) → RowRead s ks i (Err wrong_count)
row-short s ks i h = rules-count ks (line_cells s i) h

-- ---- the returns
module _ (s ks : List ℕ) (i e : ℕ) (t : Stop 44 s i e) (n : 0 < length ks) (r : CellsRead) (q : r ≡ cells_at ks 44 s i e) where
  judged : Judging s e ks i 0 0 no_keys r
  judged = judging-all s ks i e r t n q

  pub row_within : r.at ≤ e
  row_within = judging-within judged

  pub row_left : (r.number ≡ 0 → ⊥) → (r.good ≤ length ks) × (i ≤ r.start) × (r.start < length s)
  row_left z = let f = judging-refused judged z in (omega (arith, f.left), f.low, omega (arith, f.stop.inside, f.stop.room))

  pub row-refused : (r.number ≡ 0 → ⊥) → RowRead s ks i (Err (broken_at s i r.start (length ks - r.good) r.number))
  row-refused z = go (eqb (length (line_cells s r.start)) (length ks - r.good)) refl
    where
      f : CellRefused s e ks i 0 r
      f = judging-refused judged z

      go : (b : Bool) → eqb (length (line_cells s r.start)) (length ks - r.good) ≡ b
          → RowRead s ks i (Err (cond b (record { number = r.number; column = r.start - i + 1 }) wrong_count))
      go true p =
          let m : length (line_cells s i) ≡ length ks = omega (arith, eqb-true (length (line_cells s r.start)) (length ks - r.good) p, f.count, f.left) in
          rules-cells ks (line_cells s i) m ∙ f.fault 1 ∙ ap (breaks r.number) (omega arith)
      go false p = row-short s ks i (λ m. eqb-false (length (line_cells s r.start)) (length ks - r.good) p (omega (arith, f.count, f.left, m)))

  pub row_odd : r.number ≡ 0 → (r.good ≡ length ks → get_or s r.at 0 ≡ 10 → ⊥) → RowRead s ks i (Err wrong_count)
  row_odd z h = row-short s ks i (judging_odd judged z (λ a b. h (omega arith) b))

  pub row-good : r.number ≡ 0 → length ks ≤ 256 → r.good ≡ length ks → get_or s r.at 0 ≡ 10 → RowKept s ks i (record { missing = r.missing; keys = r.keys })
  row-good z m g f =
      let x = judging_full judged z (omega arith) f in
      let k = x.key [] [] [] (none-held s) in
      record {
        rules = rules-cells ks (line_cells s i) x.count ∙ x.fault 1;
        few = omega (arith, x.missing, missing-few ks (line_cells s i));
        missing = x.missing ∙ omega arith;
        key = λ d. record { expocode = k.expocode d; stnnbr = k.stnnbr d; castno = k.castno d };
      }

  -- the keys of a row that keeps its rules
  pub row_keys : row_fault ks (line_cells s i) ≡ clean → key_at s r.keys ≡ key_of ks (line_cells s i)
  row_keys h = go (eqb r.number 0) (eqb r.good (length ks)) (eqb (get_or s r.at 0) 10) refl refl refl
    where
      Keyed : Type 0
      Keyed = key_at s r.keys ≡ key_of ks (line_cells s i)

      odd : r.number ≡ 0 → (r.good ≡ length ks → get_or s r.at 0 ≡ 10 → ⊥) → Keyed
      odd z f = absurd (judging_odd judged z (λ a b. f (omega arith) b) (kept-count ks (line_cells s i) h))

      go : (a b c : Bool) → eqb r.number 0 ≡ a → eqb r.good (length ks) ≡ b → eqb (get_or s r.at 0) 10 ≡ c → Keyed
      go false b c p q f =
          let x : breaks r.number (1 + (r.start - i)) ≡ clean = sym ((judging-refused judged (eqb-false r.number 0 p)).fault 1) ∙ kept-cells ks (line_cells s i) h in
          let z : ◌≡◌ {A = ℕ} 0 1 = cc in
          absurd (omega arith)
      go true false c p q f = odd (eqb-true r.number 0 p) (λ a b. eqb-false r.good (length ks) q a)
      go true true false p q f = odd (eqb-true r.number 0 p) (λ a b. eqb-false (get_or s r.at 0) 10 f b)
      go true true true p q f =
          let g = eqb-true r.good (length ks) q in
          let k = (judging_full judged (eqb-true r.number 0 p) (omega arith) (eqb-true (get_or s r.at 0) 10 f)).key [] [] [] (none-held s) in
          λ d. record { expocode = k.expocode d; stnnbr = k.stnnbr d; castno = k.castno d }

-- ---- the row for any place of a line feed
module _ (s ks : List ℕ) (i e : ℕ) (r : CellsRead) (q : r ≡ cells_at ks 44 s i e) where
  abbrev Placed : List ℕ → CellsRead → Type 0
  Placed js x = (x.number ≡ 0 → x.at < length s) × ((x.number ≡ 0 → ⊥) → (x.good ≤ length js) × (i ≤ x.start) × (x.start ≤ i + length s))

  placed-none : (js : List ℕ) → Placed js (no_cells i)
  placed-none js = (λ z. absurd (omega (arith, z)), λ z. (omega arith, omega arith, omega arith))

  placed : (b : Bool) → stops_at 44 s i e ≡ b → Placed ks r
  unfolding cells_at cells_from
  placed false h = let w : r ≡ no_cells i = q ∙ rw h in subst (Placed ks) (sym w) (placed-none ks)
  placed true h = go ks q
    where
      go : (js : List ℕ) → r ≡ cells_at js 44 s i e → Placed js r
      go [] q = let w : r ≡ no_cells i = q ∙ rw h in subst (Placed []) (sym w) (placed-none [])
      go (k ∷ js) q =
          let t = stop_from 44 s i e h in (
            λ z. omega (arith, row_within s (k ∷ js) i e t (omega arith) r q, t.room),
            λ z. let w = row_left s (k ∷ js) i e t (omega arith) r q z in (w.0, w.1, omega (arith, w.2)),
          )

  pub cells-inside : r.number ≡ 0 → r.at < length s
  cells-inside = (placed (stops_at 44 s i e) refl).0

  pub cells-refused : (r.number ≡ 0 → ⊥) → (r.good ≤ length ks) × (i ≤ r.start) × (r.start ≤ i + length s)
  cells-refused = (placed (stops_at 44 s i e) refl).1

  pub row_by_lem : (x : Result Row BrokenRule) → x ≡ row_by ks s i r → x ≡ row_for ks s i e
  unfolding row_for
  row_by_lem x h = h ∙ ap (row_by ks s i) q

  -- each of the code's answers
  pub by-refused : (b : BrokenRule) → (r.number ≡ 0 → ⊥) → b ≡ broken_at s i r.start (length ks - r.good) r.number → Err b ≡ row_for ks s i e
  by-refused b z h = row_by_lem (Err b) (rw (ne_eqb r.number 0 z) (ap Err h))

  module _ (z : r.number ≡ 0) where
    pub by_count : (r.good ≡ length ks → ⊥) → Err wrong_count ≡ row_for ks s i e
    by_count n = row_by_lem _ (rw (eq-eqb r.number 0 z, ne_eqb r.good (length ks) n))

    pub by_feed : r.good ≡ length ks → (get_or s r.at 0 ≡ 10 → ⊥) → Err wrong_count ≡ row_for ks s i e
    by_feed n f = row_by_lem _ (rw (eq-eqb r.number 0 z, eq-eqb r.good (length ks) n, ne_eqb (get_or s r.at 0) 10 f))

    pub by_whole : r.good ≡ length ks → get_or s r.at 0 ≡ 10 → Ok (record { missing = r.missing; keys = r.keys }) ≡ row_for ks s i e
    by_whole n f = row_by_lem _ (rw (eq-eqb r.number 0 z, eq-eqb r.good (length ks) n, eq-eqb (get_or s r.at 0) 10 f))

-- ---- what it says of a line
pub row_read : (s ks : List ℕ) (i e : ℕ) (x : Result Row BrokenRule) → x ≡ row_for ks s i e → Stop 44 s i e → 0 < length ks → length ks ≤ 256 → RowRead s ks i x
unfolding row_for
row_read s ks i e x h t n m = rw h (go (eqb r.number 0) (eqb r.good (length ks)) (eqb (get_or s r.at 0) 10) refl refl refl)
  where
    r : CellsRead
    r = cells_at ks 44 s i e

    go : (a b c : Bool) → eqb r.number 0 ≡ a → eqb r.good (length ks) ≡ b → eqb (get_or s r.at 0) 10 ≡ c
        → RowRead s ks i (cond a (cond (b && c) (Ok (record { missing = r.missing; keys = r.keys })) (Err wrong_count)) (Err (broken_at s i r.start (length ks - r.good) r.number)))
    go false b c p g f = row-refused s ks i e t n r refl (eqb-false r.number 0 p)
    go true false c p g f = row_odd s ks i e t n r refl (eqb-true r.number 0 p) (λ x y. eqb-false r.good (length ks) g x)
    go true true false p g f = row_odd s ks i e t n r refl (eqb-true r.number 0 p) (λ x y. eqb-false (get_or s r.at 0) 10 f y)
    go true true true p g f = row-good s ks i e t n r refl (eqb-true r.number 0 p) m (eqb-true r.good (length ks) g) (eqb-true (get_or s r.at 0) 10 f)
