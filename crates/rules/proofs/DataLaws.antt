-- The data lines: a line at its place, and the run, the missing readings and the profiles after so many rows.
use Prim.Native.Nat.{ℕ, suc, ◌+◌, ◌-◌, ◌≤◌, ◌<◌}
use mathlib.Core.Path.{◌≡◌, refl, sym, ap, ◌∙◌}
use mathlib.Core.List.{List, [], ◌∷◌, map}
use mathlib.Core.Bool.{Bool, true, false, cond, ◌&&◌}
use native.Mathlib.Omega.{arith}
use lib.ListN.{length, take, drop}
use lib.Dec.{ltb}
use borrow.Author.Tests.{eq-eqb, ne_eqb, lt-ltb, le-ltb}
use Rattle.line_bytes.specs.Cells.{line_at, pieces}
use Rattle.line_bytes.specs.Inner.Scans.{Stop}
use Rattle.std.specs.Prelude.{Ok, Err}
use Rattle.format.specs.declared.BrokenRule.{BrokenRule}
use Rattle.rows.specs.declared.Row.{Row}
use Rattle.rules.specs.declared.data.Data.{Data}
use Rattle.format.specs.Faults.{Fault, clean, breaks, first_of}
use Rattle.format.specs.Columns.{kinds_of}
use Rattle.format.specs.Rows.{is_end_data, bound_rules}
use Rattle.format.specs.Places.{Table, Place, rows, after, stopped, last_piece_rules, end_rules, step, refused, run}
use Rattle.format.specs.Inner.Faults.{line_fault, row_fault, bound_fault}
use Rattle.format.specs.Profiles.{missing_in_row, missing_in_rows, Key, key_of, same_key, borders_from, run_count}
use Rattle.format.specs.Inner.Lines.{lines_from, line_of}
use Rattle.format.specs.Inner.Rows.{key_at, line_cells, rows_from}
use Rattle.rows.specs.Inner.RowReads.{RowKept}
use Rattle.rules.specs.Inner.Data.{border, DataHeld, LineHeld, RowAdded, DataTold}
use Rattle.format.proofs.RuleLaws.{end_step, row_step}
use Rattle.format.proofs.RunLaws.{run-stopped, run-line, lines_end, lines_more, line_clean, line_broken, piece-take}
use Rattle.verdicts.specs.Rows.{no_keys}

-- ---- one line of the data place
module _ (l : ℕ) (t : Table) (n : ℕ) (x : List ℕ) where
  step_broken : (a c : ℕ) → line_fault true x ≡ breaks a c → step l (rows t n) x ≡ stopped a l c
  step_broken a c h = go (is_end_data x) refl
    where
      go : (b : Bool) → is_end_data x ≡ b → step l (rows t n) x ≡ stopped a l c
      go true q = end_step l t n x q ∙ rw h
      go false q = row_step l t n x q ∙ rw h

  module _ (h : line_fault true x ≡ clean) where
    step-none : is_end_data x ≡ true → n ≡ 0 → step l (rows t n) x ≡ stopped 19 l 1
    step-none y z = end_step l t n x y ∙ rw (h, eq-eqb n 0 z)

    step_end : is_end_data x ≡ true → (n ≡ 0 → ⊥) → step l (rows t n) x ≡ after t n
    step_end y z = end_step l t n x y ∙ rw (h, ne_eqb n 0 z)

    step_full : is_end_data x ≡ false → 1000000 ≤ n → step l (rows t n) x ≡ stopped 20 l 1
    step_full y z = row_step l t n x y ∙ rw (h, le-ltb n 1000000 z)

    module _ (y : is_end_data x ≡ false) (z : n < 1000000) where
      step-refused : (a c : ℕ) → row_fault (kinds_of t.names) (pieces 44 x) ≡ breaks a c → step l (rows t n) x ≡ stopped a l c
      step-refused a c f = row_step l t n x y ∙ rw (h, lt-ltb n 1000000 z) (rw f)

      step_row : row_fault (kinds_of t.names) (pieces 44 x) ≡ clean → step l (rows t n) x ≡ rows t (n + 1)
      unfolding bound_fault bound_rules first_of
      step_row f = row_step l t n x y ∙ rw (h, lt-ltb n 1000000 z) (rw f)

-- ---- another row
pub rows-below : {n : ℕ} → n ≤ 1000000 → (n ≡ 1000000 → ⊥) → n < 1000000
rows-below h z = omega arith

-- ---- the line from i to its line feed at e, which keeps rules 1 to 5
pub line-held : (s : List ℕ) (i q : ℕ) → line_of true s i ≡ Ok q → LineHeld s i q
line-held s i q z = let g = line_clean true s i q z in record { rules = g.0; room = g.1; end = g.2; feed = g.3 }

pub line-within : {s : List ℕ} {i e : ℕ} → LineHeld s i e → (i ≤ e) × (e < length s)
line-within g = (omega (arith, g.end), omega (arith, g.end, g.room))

pub line-stop : {s : List ℕ} {i e : ℕ} → LineHeld s i e → Stop 44 s i e
line-stop g = record { inside = (line-within g).0; room = (line-within g).1; feed = g.feed; parts = refl }

line-part : (s : List ℕ) (i e : ℕ) → e ≡ i + length (line_at s i) → take (e - i) (drop i s) ≡ line_at s i
line-part s i e h =
    let n : e - i ≡ length (line_at s i) = omega arith in
    ap (λ (k : ℕ). take k (drop i s)) n ∙ piece-take 10 (drop i s)

-- the code's test of the line's bytes
pub line-test : {s : List ℕ} {i e : ℕ} → LineHeld s i e → (b c : Bool) → b ≡ is_end_data (take (e - i) (drop i s)) → b ≡ c → is_end_data (line_at s i) ≡ c
line-test {s} {i} {e} g b c h q = sym (ap is_end_data (line-part s i e g.end)) ∙ sym h ∙ q

-- ---- what one line gives
module _ (s ks : List ℕ) (d : Data) where
  pub line_refused : (b : BrokenRule) → line_of true s d.at ≡ Err b → d.at < length s → (t : Table) (l : ℕ) → run l (rows t d.rows) (lines_from s d.at) ≡ refused b.number l b.column
  line_refused b q h t l = line_broken b l (rows t d.rows) s d.at true h q (λ x n c e. step_broken l t d.rows x n c e) tt

  module _ (e : ℕ) (g : LineHeld s d.at e) where
    run-next : (l : ℕ) (t : Table) (p : Place) → step l (rows t d.rows) (line_at s d.at) ≡ p
        → run l (rows t d.rows) (lines_from s d.at) ≡ run (l + 1) p (lines_from s (e + 1))
    run-next l t p f = run-line l (rows t d.rows) s d.at g.room
        ∙ ap (λ (p : Place). run (l + 1) p (lines_from s (d.at + length (line_at s d.at) + 1))) f
        ∙ ap (λ (a : ℕ). run (l + 1) p (lines_from s (a + 1))) (sym g.end)

    line-stopped : (n c l : ℕ) (t : Table) → step l (rows t d.rows) (line_at s d.at) ≡ stopped n l c → run l (rows t d.rows) (lines_from s d.at) ≡ refused n l c
    line-stopped n c l t f = run-next l t (stopped n l c) f ∙ run-stopped (l + 1) n l c (lines_from s (e + 1))

    pub inside-next : (d.at < e + 1) × (e + 1 ≤ length s)
    inside-next = (omega (arith, (line-within g).0), omega (arith, (line-within g).1))

    pub line-none : is_end_data (line_at s d.at) ≡ true → d.rows ≡ 0 → (t : Table) (l : ℕ) → run l (rows t d.rows) (lines_from s d.at) ≡ refused 19 l 1
    line-none y z t l = line-stopped 19 1 l t (step-none l t d.rows (line_at s d.at) g.rules y z)

    pub line-end : is_end_data (line_at s d.at) ≡ true → (d.rows ≡ 0 → ⊥) → (t : Table) (l : ℕ)
        → run l (rows t d.rows) (lines_from s d.at) ≡ run (l + 1) (after t d.rows) (lines_from s (e + 1))
    line-end y z t l = run-next l t (after t d.rows) (step_end l t d.rows (line_at s d.at) g.rules y z)

    module _ (y : is_end_data (line_at s d.at) ≡ false) where
      pub line_full : 1000000 ≤ d.rows → (t : Table) (l : ℕ) → run l (rows t d.rows) (lines_from s d.at) ≡ refused 20 l 1
      line_full z t l = line-stopped 20 1 l t (step_full l t d.rows (line_at s d.at) g.rules y z)

      module _ (z : d.rows < 1000000) where
        rules_of_lem : (t : Table) → kinds_of t.names ≡ ks → (f : Fault) → row_fault ks (line_cells s d.at) ≡ f → row_fault (kinds_of t.names) (pieces 44 (line_at s d.at)) ≡ f
        rules_of_lem t k f e = ap (λ (js : List ℕ). row_fault js (pieces 44 (line_at s d.at))) k ∙ e

        pub line_odd : (b : BrokenRule) → row_fault ks (line_cells s d.at) ≡ breaks b.number b.column → (t : Table) (l : ℕ) → kinds_of t.names ≡ ks
            → run l (rows t d.rows) (lines_from s d.at) ≡ refused b.number l b.column
        line_odd b f t l k = line-stopped b.number b.column l t (step-refused l t d.rows (line_at s d.at) g.rules y z b.number b.column (rules_of_lem t k _ f))

        pub line_row : (w : Row) → RowKept s ks d.at w → DataHeld d → (n : ℕ) → n ≡ border s d (key_at s w.keys)
            → RowAdded s ks d (record { at = e + 1; rows = d.rows + 1; profiles = d.profiles + n; missing = d.missing + w.missing; last = w.keys })
        line_row w v x n b = record {
          held = record {
            few = omega arith;
            profiles = omega (arith, x.profiles, b, border-few (ltb 0 d.rows && same_key (key_at s d.last) (key_at s w.keys)));
            missing = omega (arith, x.missing, v.few);
          };
          inside = inside-next;
          counted = refl;
          lines = lines_more s d.at g.room ∙ ap (λ (a : ℕ). line_at s d.at ∷ lines_from s (a + 1)) (sym g.end);
          on = λ t l k. run-next l t (rows t (d.rows + 1)) (step_row l t d.rows (line_at s d.at) g.rules y z (rules_of_lem t k clean v.rules));
          missing = ap (λ (a : ℕ). d.missing + a) v.missing;
          profiles = ap (λ (a : ℕ). d.profiles + a) (b ∙ ap (border s d) v.key);
          last = v.key;
        }
          where
            border-few : (b : Bool) → cond b 0 1 ≤ 1
            border-few true = omega arith
            border-few false = omega arith

-- ---- so many rows are read
-- the profiles that begin in the rows of keys ys, after n rows the last of which has key x
abbrev pub borders_after : ℕ → Key → List Key → ℕ
borders_after n x ys = cond (ltb 0 n) (borders_from x ys) (run_count ys)

borders-row : (n : ℕ) (x y : Key) (ys : List Key) → borders_after n x (y ∷ ys) ≡ cond (ltb 0 n && same_key x y) 0 1 + borders_from y ys
unfolding borders_from run_count
borders-row n x y ys = go (ltb 0 n)
  where
    go : (b : Bool) → cond b (cond (same_key x y) 0 1 + borders_from y ys) (1 + borders_from y ys) ≡ cond (b && same_key x y) 0 1 + borders_from y ys
    go true = refl
    go false = refl

borders-none : (n : ℕ) (x : Key) → borders_after n x [] ≡ 0
unfolding borders_from run_count
borders-none n x = go (ltb 0 n)
  where
    go : (b : Bool) → ◌≡◌ {A = ℕ} (cond b 0 0) 0
    go true = refl
    go false = refl

-- the run from place i is the run from the present line, and the counts go on from the present ones
pub record SoFar (s ks : List ℕ) (i : ℕ) (d : Data) : Type 0 where
  pub held : DataHeld d
  pub inside : (i ≤ d.at) × (d.at ≤ length s)
  pub on : (t : Table) (l : ℕ) → kinds_of t.names ≡ ks → run l (rows t 0) (lines_from s i) ≡ run (l + d.rows) (rows t d.rows) (lines_from s d.at)
  pub missing : (n : ℕ) → missing_in_rows ks (rows_from s i (d.rows + n)) ≡ d.missing + missing_in_rows ks (rows_from s d.at n)
  pub profiles : (n : ℕ) → run_count (map (key_of ks) (rows_from s i (d.rows + n))) ≡ d.profiles + borders_after d.rows (key_at s d.last) (map (key_of ks) (rows_from s d.at n))

pub so-far-none : (s ks : List ℕ) (i : ℕ) → i ≤ length s → SoFar s ks i (record { at = i; rows = 0; profiles = 0; missing = 0; last = no_keys })
so-far-none s ks i h = record {
  held = record { few = omega arith; profiles = omega arith; missing = omega arith };
  inside = (omega arith, h);
  on = λ t l k. ap (λ (a : ℕ). run a (rows t 0) (lines_from s i)) (omega arith);
  missing = λ n. let e : 0 + n ≡ n = omega arith in ap (λ (a : ℕ). missing_in_rows ks (rows_from s i a)) e ∙ omega arith;
  profiles = λ n. let e : 0 + n ≡ n = omega arith in ap (λ (a : ℕ). run_count (map (key_of ks) (rows_from s i a))) e ∙ omega arith;
}

module _ (s ks : List ℕ) (i : ℕ) (d : Data) (x : SoFar s ks i d) where
  module _ (r : Data) (a : RowAdded s ks d r) where
    rows_more : (n : ℕ) → rows_from s d.at (suc n) ≡ line_cells s d.at ∷ rows_from s r.at n
    rows_more n = ap (λ (ps : List (List ℕ)). take (suc n) (map (pieces 44) ps)) a.lines

    count-more : (n : ℕ) → r.rows + n ≡ d.rows + suc n
    count-more n = omega (arith, a.counted)

    missing-more : (n : ℕ) → missing_in_rows ks (rows_from s i (r.rows + n)) ≡ r.missing + missing_in_rows ks (rows_from s r.at n)
    unfolding missing_in_rows
    missing-more n =
        let e : missing_in_rows ks (rows_from s d.at (suc n)) ≡ missing_in_row ks (line_cells s d.at) + missing_in_rows ks (rows_from s r.at n) = ap (missing_in_rows ks) (rows_more n) in
        ap (λ (m : ℕ). missing_in_rows ks (rows_from s i m)) (count-more n) ∙ x.missing (suc n) ∙ omega (arith, e, a.missing)

    borders-more : (ys : List Key) → borders_after r.rows (key_at s r.last) ys ≡ borders_from (key_of ks (line_cells s d.at)) ys
    borders-more ys = rw (lt-ltb 0 r.rows (omega (arith, a.counted))) (ap (λ (k : Key). borders_from k ys) a.last)

    profiles-more : (n : ℕ) → run_count (map (key_of ks) (rows_from s i (r.rows + n))) ≡ r.profiles + borders_after r.rows (key_at s r.last) (map (key_of ks) (rows_from s r.at n))
    profiles-more n =
        let y = key_of ks (line_cells s d.at) in
        let ys = map (key_of ks) (rows_from s r.at n) in
        let e : borders_after d.rows (key_at s d.last) (map (key_of ks) (rows_from s d.at (suc n))) ≡ border s d y + borders_from y ys
        = ap (λ (rs : List (List (List ℕ))). borders_after d.rows (key_at s d.last) (map (key_of ks) rs)) (rows_more n) ∙ borders-row d.rows (key_at s d.last) y ys in
        ap (λ (m : ℕ). run_count (map (key_of ks) (rows_from s i m))) (count-more n) ∙ x.profiles (suc n) ∙ omega (arith, e, a.profiles, borders-more ys)

    pub so-far-row : SoFar s ks i r
    so-far-row = record {
      held = a.held;
      inside = (omega (arith, x.inside.0, a.inside.0), a.inside.1);
      on = λ t l k. x.on t l k ∙ a.on t (l + d.rows) k ∙ ap (λ (m : ℕ). run m (rows t r.rows) (lines_from s r.at)) (omega (arith, a.counted));
      missing = missing-more;
      profiles = profiles-more;
    }

  missing-here : d.missing ≡ missing_in_rows ks (rows_from s i d.rows)
  unfolding missing_in_rows
  missing-here =
      let e : d.rows + 0 ≡ d.rows = omega arith in
      omega (arith, sym (ap (λ (m : ℕ). missing_in_rows ks (rows_from s i m)) e) ∙ x.missing 0)

  profiles-here : d.profiles ≡ run_count (map (key_of ks) (rows_from s i d.rows))
  profiles-here =
      let e : d.rows + 0 ≡ d.rows = omega arith in
      omega (arith, sym (ap (λ (m : ℕ). run_count (map (key_of ks) (rows_from s i m))) e) ∙ x.profiles 0, borders-none d.rows (key_at s d.last))

  module _ (l : ℕ) where
    pub so-far-ended : (q : ℕ) → (d.at < q) × (q ≤ length s)
        → ((t : Table) → run (l + d.rows) (rows t d.rows) (lines_from s d.at) ≡ run (l + d.rows + 1) (after t d.rows) (lines_from s q))
        → DataTold s ks (record { at = i; line = l }) (record { at = q; rows = d.rows; profiles = d.profiles; missing = d.missing; last = d.last })
    so-far-ended q h a = record {
      on = λ t k. x.on t l k ∙ a t;
      inside = (omega (arith, x.inside.0, h.0), h.1);
      few = x.held.few;
      missing = missing-here;
      profiles = profiles-here;
    }

    pub so-far_out : length s ≤ d.at → (t : Table) → kinds_of t.names ≡ ks → run l (rows t 0) (lines_from s i) ≡ refused 14 (l + d.rows) 1
    unfolding run end_rules last_piece_rules first_of
    so-far_out h t k = x.on t l k ∙ ap (run (l + d.rows) (rows t d.rows)) (lines_end s d.at h)
