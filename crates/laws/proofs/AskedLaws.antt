-- The reading calls at a row and a column: refused with the file, with 21 or with 22, or answered.
use Prim.Native.Nat.{ℕ, zero, suc, ◌+◌, ◌-◌, ◌≤◌, ◌<◌}
use mathlib.Core.Path.{◌≡◌, refl, sym, ap, subst, ◌∙◌}
use mathlib.Core.Logic.{inl, inr}
use mathlib.Core.List.{List, [], ◌∷◌}
use mathlib.Core.Bool.{Bool, true, false, cond, ◌&&◌, ◌||◌}
use native.Mathlib.Nat.{not-suc-le-zero, le_of_suc-le-suc}
use native.Mathlib.Omega.{arith}
use lib.ListN.{length, get_or, drop, length-drop, length-map}
use lib.Seq.{get_or-take, get_or-drop, length-take-le}
use lib.Dec.{eqb, leb}
use borrow.Author.Tests.{le-leb, leb-true, eqb-true, eqb-false, ne_eqb}
use Rattle.line_bytes.specs.Cells.{pieces}
use Rattle.verdicts.specs.Verdicts.{Verdict, blank, wrong, out_of_range, good, millionths_of}
use Rattle.verdicts.specs.Kinds.{Kind, measured, latitude, longitude, depth, flag, ctd_flag, expocode, stnnbr, castno, date, time, free, kind_of}
use Rattle.verdicts.specs.Judge.{judge, of_kind, in_set, in_flags, whole_of, unless_blank}
use Rattle.text.specs.Reading.{read_number, is_decimal, reading_of}
use Rattle.line_bytes.specs.Spaces.{trim}
use Rattle.verdicts.proofs.SizeLaws.{Small}
use Rattle.verdicts.proofs.JudgeLaws.{judge_small}
use Rattle.verdicts.proofs.KindLaws.{set-parts}
use Rattle.format.specs.declared.Flagged.{Flagged}
use Rattle.format.specs.Faults.{Fault, clean, breaks, ◌then◌, unless, kind_fault, first_of}
use Rattle.format.specs.Columns.{kind_of_name, kinds_of}
use Rattle.format.specs.Rows.{cell_rules, row_rules}
use Rattle.format.specs.Places.{Table, accepted, outcome_of}
use Rattle.format.specs.Inner.Faults.{cell_fault, row_fault}
use Rattle.format.specs.Profiles.{grid}
use Rattle.format.specs.Answers.{is_there, found, missed, asked_by, asked_of, kind_at, rows_in, row_cells, cell_text, cell_by, cell_of, refusal_by, reading_by, reading_for, flagged_by, flagged_of}
use Rattle.laws.specs.Promises.{column_kind, cell_verdict, IsFlag, Refuses, GivesFlag, Answers, AskedExactly}
use Rattle.format.proofs.AcceptLaws.{rows-kept}
use Rattle.format.proofs.GridLaws.{get_d_mapped, cells-many}
use Rattle.line_bytes.proofs.CellLaws.{both_true}
use Rattle.format.proofs.InsideLaws.{Inside}

-- ---- the cells of an accepted file are good
pub record Good (v : Verdict) : Type 0 where
  pub minus : Bool
  pub size : ℕ
  pub decimals : ℕ
  pub is : v ≡ good minus size decimals

fault-good : (v : Verdict) (c : ℕ) (g : Fault) → (kind_fault v c then g) ≡ clean → Good v × (g ≡ clean)
fault-good blank c g e = let z : ◌≡◌ {A = ℕ} 0 1 = cc in absurd (omega arith)
fault-good wrong c g e = let z : ◌≡◌ {A = ℕ} 0 1 = cc in absurd (omega arith)
fault-good out_of_range c g e = let z : ◌≡◌ {A = ℕ} 0 1 = cc in absurd (omega arith)
fault-good (good m v d) c g e = (record { minus = m; size = v; decimals = d; is = refl }, e)

cells-good : (c : ℕ) (ks : List ℕ) (ts : List (List ℕ)) → cell_fault c ks ts ≡ clean → (k : ℕ) → k < length ks → k < length ts → Good (judge (kind_of (get_or ks k 0)) (get_or ts k []))
unfolding cell_fault cell_rules first_of
cells-good c [] ts e k h l = absurd (not-suc-le-zero h)
cells-good c (x ∷ ks) [] e k h l = absurd (not-suc-le-zero l)
cells-good c (x ∷ ks) (t ∷ ts) e zero h l = (fault-good (judge (kind_of x) t) c (cell_fault (c + length t + 1) ks ts) e).0
cells-good c (x ∷ ks) (t ∷ ts) e (suc k) h l =
    cells-good (c + length t + 1) ks ts (fault-good (judge (kind_of x) t) c (cell_fault (c + length t + 1) ks ts) e).1 k (le_of_suc-le-suc h) (le_of_suc-le-suc l)

rules-cells : (ks : List ℕ) (ts : List (List ℕ)) → row_fault ks ts ≡ clean → cell_fault 1 ks ts ≡ clean
unfolding row_fault cell_fault row_rules first_of
rules-cells ks ts e = go (eqb (length ts) (length ks)) (cell_fault 1 ks ts) e
  where
    go : (z : Bool) (g : Fault) → (unless z 15 1 then g) ≡ clean → g ≡ clean
    go true clean e = refl
    go true (breaks a b) e = e
    go false g e = let z : ◌≡◌ {A = ℕ} 0 1 = cc in absurd (omega arith)

-- row r and column c are there: both stand between 1 and their number
pub there-inside : (t : Table) (n r c : ℕ) → is_there t n r c ≡ true → Inside r n c (length t.names)
there-inside t n r c e =
    let w = both_true (leb 1 r && leb r n) (leb 1 c && leb c (length t.names)) e in
    let x = both_true (leb 1 r) (leb r n) w.0 in
    let y = both_true (leb 1 c) (leb c (length t.names)) w.1 in
    record { row = leb-true 1 r x.0; rows = leb-true r n x.1; column = leb-true 1 c y.0; columns = leb-true c (length t.names) y.1 }

pub inside-there : (t : Table) (n r c : ℕ) → Inside r n c (length t.names) → is_there t n r c ≡ true
inside-there t n r c i = rw (le-leb 1 r i.row, le-leb r n i.rows, le-leb 1 c i.column, le-leb c (length t.names) i.columns)

module _ (f : List ℕ) (t : Table) (n : ℕ) (e : outcome_of f ≡ accepted t n) where
  -- the file has so many rows, and they are its data lines
  pub rows-many : length (rows_in t n f) ≡ n
  rows-many = length-take-le n (drop t.line (grid f)) (go n e)
    where
      long : length (drop t.line (grid f)) ≡ length (drop t.line (pieces 10 f))
      long = length-drop t.line (grid f) ∙ rw (length-map (pieces 10 f) (pieces 44)) (sym (length-drop t.line (pieces 10 f)))

      go : (n : ℕ) → outcome_of f ≡ accepted t n → n ≤ length (drop t.line (grid f))
      go zero e = omega arith
      go (suc m) e = omega (arith, (rows-kept f t (suc m) e m (omega arith)).line, long)

  pub row_in_lem : (j : ℕ) → j < n → get_or (rows_in t n f) j [] ≡ row_cells t f (1 + j)
  row_in_lem j h =
      let w : t.line + j ≡ t.line + (1 + j - 1) = omega arith in
      get_or-take n (drop t.line (grid f)) j [] h ∙ get_or-drop t.line (grid f) j [] ∙ ap (λ (k : ℕ). get_or (grid f) k []) w

  -- row r, from 1, keeps the rules of a row
  pub row_rules_lem : (r : ℕ) → 1 ≤ r → r ≤ n → row_fault (kinds_of t.names) (row_cells t f r) ≡ clean
  row_rules_lem r a b =
      let k = rows-kept f t n e (r - 1) (omega arith) in
      let in-file : t.line + (r - 1) < length (pieces 10 f) = omega (arith, k.line, length-drop t.line (pieces 10 f)) in
      rw (get_d_mapped (pieces 10 f) (t.line + (r - 1)) in-file)
      (subst (λ (x : List ℕ). row_fault (kinds_of t.names) (pieces 44 x) ≡ clean) (get_or-drop t.line (pieces 10 f) (r - 1) []) k.cells)

  -- and has as many cells as there are columns
  pub row-many : (r : ℕ) → 1 ≤ r → r ≤ n → length (row_cells t f r) ≡ length (kinds_of t.names)
  row-many r a b = cells-many (kinds_of t.names) (row_cells t f r) (row_rules_lem r a b)

  pub cell-good : (r c : ℕ) → is_there t n r c ≡ true → Good (cell_verdict t f r c)
  cell-good r c h =
      let i = there-inside t n r c h in
      let m : length (kinds_of t.names) ≡ length t.names = length-map t.names kind_of_name in
      cells-good 1 (kinds_of t.names) (row_cells t f r) (rules-cells (kinds_of t.names) (row_cells t f r) (row_rules_lem r i.row i.rows)) (c - 1)
      (omega (arith, m, i.column, i.columns)) (omega (arith, m, row-many r i.row i.rows, i.column, i.columns))

  pub asked-there : (r c : ℕ) → is_there t n r c ≡ true → asked_of f r c ≡ found t
  unfolding asked_of
  asked-there r c h = ap (asked_by r c) e ∙ rw h

  pub asked-absent : (r c : ℕ) → is_there t n r c ≡ false → asked_of f r c ≡ missed 21 0 0
  unfolding asked_of
  asked-absent r c h = ap (asked_by r c) e ∙ rw h

  -- the reading of a decimal column is the number that the cell writes
  pub reading-there : (r c : ℕ) → is_there t n r c ≡ true → is_decimal (column_kind t c) ≡ true → reading_for f r c ≡ read_number (millionths_of (cell_verdict t f r c))
  unfolding reading_for reading_of
  reading-there r c h d =
      let g = cell-good r c h in
      ap (reading_by f r c) (asked-there r c h) ∙ rw (d, g.is)

-- ---- the refusals
asked-refuses : (f : List ℕ) (r c a b d : ℕ) → asked_of f r c ≡ missed a b d → Refuses f r c a b d
unfolding cell_of reading_for flagged_of
asked-refuses f r c a b d e = record { refusal = ap refusal_by e; cell = ap (cell_by f r c) e; decimal = ap (reading_by f r c) e; flag = ap (flagged_by f r c) e }

-- ---- flags
abbrev is_flag_kind : Kind → Bool
is_flag_kind measured = false
is_flag_kind latitude = false
is_flag_kind longitude = false
is_flag_kind depth = false
is_flag_kind flag = true
is_flag_kind ctd_flag = true
is_flag_kind expocode = false
is_flag_kind stnnbr = false
is_flag_kind castno = false
is_flag_kind date = false
is_flag_kind time = false
is_flag_kind free = false

neither : (b : Bool) (x y : Kind) → is_flag_kind x ≡ false → is_flag_kind y ≡ false → is_flag_kind (cond b x y) ≡ false
neither true x y p q = p
neither false x y p q = q

kind-no_flag : (k : ℕ) → (k ≡ 4 → ⊥) → (k ≡ 5 → ⊥) → is_flag_kind (kind_of k) ≡ false
unfolding kind_of
kind-no_flag k p q =
    rw (ne_eqb k 4 p, ne_eqb k 5 q)
    (neither (eqb k 0) measured _ refl (neither (eqb k 1) latitude _ refl (neither (eqb k 2) longitude _ refl (neither (eqb k 3) depth _ refl
    (neither (eqb k 6) expocode _ refl (neither (eqb k 7) stnnbr _ refl (neither (eqb k 8) castno _ refl (neither (eqb k 9) date _ refl (neither (eqb k 10) time free refl refl)))))))))

-- a good flag is of its set
in_flags_lem : (ctd : Bool) (w : Verdict) (m : Bool) (v d : ℕ) → in_flags ctd w ≡ good m v d → (v ≡ 0 → ⊥) × (ctd ≡ true → v ≡ 8 → ⊥)
in_flags_lem ctd blank m v d e = let z : ◌≡◌ {A = ℕ} 0 1 = cc in absurd (omega arith)
in_flags_lem ctd wrong m v d e = let z : ◌≡◌ {A = ℕ} 0 1 = cc in absurd (omega arith)
in_flags_lem ctd out_of_range m v d e = let z : ◌≡◌ {A = ℕ} 0 1 = cc in absurd (omega arith)
in_flags_lem ctd (good a x b) m v d e = go (in_set ctd x) refl e
  where
    go : (z : Bool) → in_set ctd x ≡ z → cond z (good a x b) out_of_range ≡ good m v d → (v ≡ 0 → ⊥) × (ctd ≡ true → v ≡ 8 → ⊥)
    go true p e =
        let s = set-parts ctd x p in
        let w : x ≡ v = cc in
        (λ h. let z : x ≡ 0 = w ∙ h in omega (arith, s.0), λ c h. s.2 c (w ∙ h))
    go false p e = let z : ◌≡◌ {A = ℕ} 0 1 = cc in absurd (omega arith)

-- a flag of a flag column
module _ (ctd : Bool) (f : List ℕ → Verdict) where
  blank-flag : ((u : List ℕ) → f u ≡ in_flags ctd (whole_of 1 u)) → (u : List ℕ) (m : Bool) (v d : ℕ) → unless_blank f u ≡ good m v d → (v ≡ 0 → ⊥) × (ctd ≡ true → v ≡ 8 → ⊥)
  blank-flag g [] m v d e = let z : ◌≡◌ {A = ℕ} 0 1 = cc in absurd (omega arith)
  blank-flag g (x ∷ xs) m v d e = in_flags_lem ctd (whole_of 1 (x ∷ xs)) m v d (sym (g (x ∷ xs)) ∙ e)

record InSet (k : Kind) (v : ℕ) : Type 0 where
  low : 1 ≤ v
  high : v ≤ 9
  unused : k ≡ ctd_flag → v ≡ 8 → ⊥

set_small : (top : ℕ) (w : Verdict) (m : Bool) (v d : ℕ) → Small top 6 w → w ≡ good m v d → v ≤ top
set_small top w m v d h e = (subst (Small top 6) e h).0

flag-set : (k : Kind) → IsFlag k → (u : List ℕ) (m : Bool) (v d : ℕ) → judge k u ≡ good m v d → InSet k v
unfolding judge of_kind
flag-set k (inl p) u m v d e =
    let e' : judge flag u ≡ good m v d = subst (λ (x : Kind). judge x u ≡ good m v d) p e in
    let s = blank-flag false (of_kind flag) (λ u. refl) (trim u) m v d e' in
    record { low = omega (arith, s.0); high = set_small 9 (judge flag u) m v d (judge_small flag u) e'; unused = λ q. let z : ◌≡◌ {A = ℕ} 0 1 = cc (sym p ∙ q) in absurd (omega arith) }
flag-set k (inr p) u m v d e =
    let e' : judge ctd_flag u ≡ good m v d = subst (λ (x : Kind). judge x u ≡ good m v d) p e in
    let s = blank-flag true (of_kind ctd_flag) (λ u. refl) (trim u) m v d e' in
    record { low = omega (arith, s.0); high = set_small 9 (judge ctd_flag u) m v d (judge_small ctd_flag u) e'; unused = λ q h. s.1 refl h }

is-flag : (k : Kind) → IsFlag k → is_flag_kind k ≡ true
is-flag k (inl p) = ap is_flag_kind p
is-flag k (inr p) = ap is_flag_kind p

-- the call's test of the column's number
flag-test : (k : ℕ) → IsFlag (kind_of k) → (eqb k 4 || eqb k 5) ≡ true
flag-test k h = go (eqb k 4) (eqb k 5) refl refl
  where
    go : (a b : Bool) → eqb k 4 ≡ a → eqb k 5 ≡ b → (a || b) ≡ true
    go true b p q = refl
    go false true p q = refl
    go false false p q = sym (kind-no_flag k (eqb-false k 4 p) (eqb-false k 5 q)) ∙ is-flag (kind_of k) h

no-flag-test : (k : ℕ) → (IsFlag (kind_of k) → ⊥) → (eqb k 4 || eqb k 5) ≡ false
unfolding kind_of
no-flag-test k h = go (eqb k 4) (eqb k 5) refl refl
  where
    go : (a b : Bool) → eqb k 4 ≡ a → eqb k 5 ≡ b → (a || b) ≡ false
    go true b p q = absurd (h (inl (ap kind_of (eqb-true k 4 p))))
    go false true p q = absurd (h (inr (ap kind_of (eqb-true k 5 q))))
    go false false p q = refl

module _ (f : List ℕ) (t : Table) (n : ℕ) (e : outcome_of f ≡ accepted t n) (r c : ℕ) (h : is_there t n r c ≡ true) where
  flag-there : IsFlag (column_kind t c) → GivesFlag f t r c
  unfolding flagged_of
  flag-there k =
      let g = cell-good f t n e r c h in
      let s = flag-set (column_kind t c) k (cell_text t f r c) g.minus g.size g.decimals g.is in
      let w : ◌≡◌ {A = Flagged} (flagged_of f r c) (record { number = 0; line = 0; column = 0; flag = g.size }) =
      ap (flagged_by f r c) (asked-there f t n e r c h) ∙ rw (flag-test (kind_at t c) k, g.is) in
      record {
        number = ap (λ (x : Flagged). x.number) w;
        line = ap (λ (x : Flagged). x.line) w;
        column = ap (λ (x : Flagged). x.column) w;
        low = subst (λ (x : Flagged). 1 ≤ x.flag) (sym w) s.low;
        high = subst (λ (x : Flagged). x.flag ≤ 9) (sym w) s.high;
        unused = λ q z. s.unused q (sym (ap (λ (x : Flagged). x.flag) w) ∙ z);
      }

  answers-there : Answers f t r c
  unfolding cell_of reading_for reading_of flagged_of
  answers-there =
      let a = asked-there f t n e r c h in
      record {
        refusal = ap refusal_by a;
        cell = ap (cell_by f r c) a;
        decimal = reading-there f t n e r c h;
        no-decimal = λ d. ap (reading_by f r c) a ∙ rw d;
        flag = flag-there;
        no_flag_lem = λ k. ap (flagged_by f r c) a ∙ rw (no-flag-test (kind_at t c) k);
      }

pub asked_exactly : AskedExactly
unfolding asked_of
asked_exactly = record {
  file = λ f a b d e r c. asked-refuses f r c a b d (ap (asked_by r c) e);
  absent = λ f t n e r c h. asked-refuses f r c 21 0 0 (asked-absent f t n e r c h);
  there = λ f t n e r c h. answers-there f t n e r c h;
}
