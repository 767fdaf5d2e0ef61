-- The rows of a column written into the lent tables.
use Prim.Native.Nat.{ℕ, ◌+◌, ◌≤◌, ◌<◌}
use mathlib.Core.Path.{◌≡◌, refl, sym, ap, subst, ◌∙◌}
use mathlib.Core.List.{List}
use mathlib.Core.Bool.{Bool, true, false, cond, ◌||◌}
use native.Mathlib.Omega.{arith}
use lib.ListN.{length, set}
use lib.Dec.{eqb}
use lib.IntN.{ℤ, pos}
use lib.Ieee.{Float, binary64, of_int}
use borrow.Author.Tests.{eqb-true}
use Rattle.verdicts.specs.Kinds.{Kind, flag, ctd_flag, kind_of}
use Rattle.verdicts.specs.Verdicts.{Verdict, blank, wrong, out_of_range, good, size_of}
use Rattle.verdicts.specs.Judge.{judge}
use Rattle.verdicts.proofs.SizeLaws.{Small}
use Rattle.verdicts.proofs.JudgeLaws.{judge_small}
use Rattle.text.specs.declared.Reading.{Reading}
use Rattle.text.specs.declared.Reading.TheVariants.{Present, Missing, Refused}
use Rattle.format.specs.declared.DecimalStep.{DecimalStep}
use Rattle.format.specs.declared.FlagStep.{FlagStep}
use Rattle.format.specs.Answers.{reading_for, flagged_of}
use Rattle.format.specs.ByPlace.{row_start, has_cell, text_of, decimal_step, no_flag, flag_by, flag_in, flag_step}
use Rattle.format.specs.ReadingNumbers.{reading_case, read_millionths, read_value}
use Rattle.laws.proofs.OpenedReadLaws.{opened-reads}
use Rattle.whole_columns.specs.declared.filling.Entry.{Entry}
use Rattle.whole_columns.specs.declared.opening.Column.{Column}
use Rattle.whole_columns.specs.Columns.{filled_from}
use Rattle.whole_columns.specs.Inner.Columns.{Stands, entry_for}
use Rattle.whole_columns.proofs.FillLaws.{filled_none, filled_row}

-- ---- a reading as the entries of three tables
module _ (r : Reading) where
  pub entry-present : (m : ℤ) (v : Float) → r ≡ Present m v → (z : ℤ) → z ≡ m → ◌≡◌ {A = Entry} (record { case = 0; millionths = z; value = v }) (entry_for r)
  entry-present m v e z d = rw (e, d)

  pub entry-missing : (v : Float) → v ≡ of_int binary64 (pos 0) → r ≡ Missing → ◌≡◌ {A = Entry} (record { case = 1; millionths = pos 0; value = v }) (entry_for r)
  entry-missing v d e = rw (e, d)

  pub entry-refused : (v : Float) → v ≡ of_int binary64 (pos 0) → (a b c : ℕ) → r ≡ Refused a b c → ◌≡◌ {A = Entry} (record { case = 2; millionths = pos 0; value = v }) (entry_for r)
  entry-refused v d a b c e = rw (e, d)

-- ---- from row to row: k of n rows are read, and the next one starts at `at`
pub record Reached (f : List ℕ) (n at k : ℕ) : Type 0 where
  pub few : k ≤ n
  pub place : at ≡ row_start f (k + 1)

module _ {f : List ℕ} {x : Column} (t : Stands f x) where
  pub reached-first : Reached f x.rows x.first 0
  reached-first = record { few = omega arith; place = t.start }

  module _ {at k : ℕ} (w : Reached f x.rows at k) (h : k < x.rows) where
    decimal-here : decimal_step f at x.column x.kind ≡ record { reading = reading_for f (k + 1) x.column; next = row_start f (k + 1 + 1) }
    decimal-here =
        ap (λ (p : ℕ). decimal_step f p x.column x.kind) w.place ∙ ap (decimal_step f (row_start f (k + 1)) x.column) t.kind
        ∙ opened-reads.decimal_step_lem f (k + 1) x.column (omega arith) (omega (arith, h, t.rows))

    flag-here : flag_step f at x.column x.kind ≡ record { flagged = flagged_of f (k + 1) x.column; next = row_start f (k + 1 + 1) }
    flag-here =
        ap (λ (p : ℕ). flag_step f p x.column x.kind) w.place ∙ ap (flag_step f (row_start f (k + 1)) x.column) t.kind
        ∙ opened-reads.flag-step f (k + 1) x.column (omega arith) (omega (arith, h, t.rows))

    reached-next : (p : ℕ) → p ≡ row_start f (k + 1 + 1) → Reached f x.rows p (k + 1)
    reached-next p e = record { few = omega (arith, h); place = e }

-- ---- the decimals: the first k entries of each table are written
abbrev pub row_case : List ℕ → ℕ → ℕ → ℕ
row_case f c r = reading_case (reading_for f r c)

abbrev pub row_millionths : List ℕ → ℕ → ℕ → ℤ
row_millionths f c r = read_millionths (reading_for f r c)

abbrev pub row_value : List ℕ → ℕ → ℕ → Float
row_value f c r = read_value (reading_for f r c)

pub record Filling (f : List ℕ) (n c : ℕ) (cs₀ : List ℕ) (ms₀ : List ℤ) (vs₀ : List Float) (cs : List ℕ) (ms : List ℤ) (vs : List Float) (at k : ℕ) : Type 0 where
  pub reached : Reached f n at k
  pub cases : cs ≡ filled_from (row_case f c) 1 k cs₀
  pub millionths : ms ≡ filled_from (row_millionths f c) 1 k ms₀
  pub values : vs ≡ filled_from (row_value f c) 1 k vs₀

module _ {f : List ℕ} {x : Column} (t : Stands f x) {cs₀ : List ℕ} {ms₀ : List ℤ} {vs₀ : List Float} (room : (x.rows ≤ length cs₀) × (x.rows ≤ length ms₀) × (x.rows ≤ length vs₀)) where
  pub fill_start : Filling f x.rows x.column cs₀ ms₀ vs₀ cs₀ ms₀ vs₀ x.first 0
  fill_start = record {
    reached = reached-first t;
    cases = filled_none (row_case f x.column) cs₀;
    millionths = filled_none (row_millionths f x.column) ms₀;
    values = filled_none (row_value f x.column) vs₀;
  }

  module _ {cs : List ℕ} {ms : List ℤ} {vs : List Float} {at k : ℕ} (w : Filling f x.rows x.column cs₀ ms₀ vs₀ cs ms vs at k) where
    pub fill_turn : k < x.rows → (s : DecimalStep) → s ≡ decimal_step f at x.column x.kind → (y : Entry) → y ≡ entry_for s.reading → (m : ℤ) → m ≡ y.millionths
        → Filling f x.rows x.column cs₀ ms₀ vs₀ (set cs k y.case) (set ms k m) (set vs k y.value) s.next (k + 1)
    fill_turn h s es y ey m em =
        let step = es ∙ decimal-here t w.reached h in
        let entry : y ≡ entry_for (reading_for f (k + 1) x.column) = ey ∙ ap (λ (z : DecimalStep). entry_for z.reading) step in
        record {
          reached = reached-next t w.reached h s.next (ap (λ (z : DecimalStep). z.next) step);
          cases = filled_row (row_case f x.column) k cs₀ cs y.case (omega (arith, h, room.0)) w.cases (ap (λ (z : Entry). z.case) entry);
          millionths = filled_row (row_millionths f x.column) k ms₀ ms m (omega (arith, h, room.1)) w.millionths (em ∙ ap (λ (z : Entry). z.millionths) entry);
          values = filled_row (row_value f x.column) k vs₀ vs y.value (omega (arith, h, room.2)) w.values (ap (λ (z : Entry). z.value) entry);
        }

    pub fill_end : x.rows ≤ k → (cs ≡ filled_from (row_case f x.column) 1 x.rows cs₀) × ((ms ≡ filled_from (row_millionths f x.column) 1 x.rows ms₀) × (vs ≡ filled_from (row_value f x.column) 1 x.rows vs₀))
    fill_end h =
        let e : k ≡ x.rows = omega (arith, h, w.reached.few) in (
          w.cases ∙ ap (λ (m : ℕ). filled_from (row_case f x.column) 1 m cs₀) e,
          (w.millionths ∙ ap (λ (m : ℕ). filled_from (row_millionths f x.column) 1 m ms₀) e, w.values ∙ ap (λ (m : ℕ). filled_from (row_value f x.column) 1 m vs₀) e),
        )

-- ---- the flags
size_small : (v : Verdict) → Small 9 6 v → size_of v ≤ 9
size_small blank h = omega arith
size_small wrong h = omega arith
size_small out_of_range h = omega arith
size_small (good m v d) h = h.0

flag-size : (k : ℕ) (x : List ℕ) → (eqb k 4 || eqb k 5) ≡ true → size_of (judge (kind_of k) x) ≤ 9
unfolding kind_of
flag-size k x t = go (eqb k 4) (eqb k 5) refl refl t
  where
    of : (j : ℕ) (y : Kind) → kind_of j ≡ y → Small 9 6 (judge y x) → k ≡ j → size_of (judge (kind_of k) x) ≤ 9
    of j y p s e = size_small (judge (kind_of k) x) (subst (λ (z : Kind). Small 9 6 (judge z x)) (sym (ap kind_of e ∙ p)) s)

    go : (a b : Bool) → eqb k 4 ≡ a → eqb k 5 ≡ b → (a || b) ≡ true → size_of (judge (kind_of k) x) ≤ 9
    go true b p q t = of 4 flag refl (judge_small flag x) (eqb-true k 4 p)
    go false true p q t = of 5 ctd_flag refl (judge_small ctd_flag x) (eqb-true k 5 q)
    go false false p q t = let z : ◌≡◌ {A = ℕ} 0 1 = cc in absurd (omega arith)

-- a flag that is read is one digit, whatever the line
flag_small : (f : List ℕ) (i c k : ℕ) → (flag_in f i c k).flag ≤ 9
unfolding flag_in
flag_small f i c k = go (has_cell f i c) (eqb k 4 || eqb k 5) refl
  where
    go : (a b : Bool) → (eqb k 4 || eqb k 5) ≡ b → (cond a (cond b (flag_by (judge (kind_of k) (text_of f i c))) (no_flag 22)) (no_flag 21)).flag ≤ 9
    go true true e = flag-size k (text_of f i c) e
    go true false e = omega arith
    go false b e = omega arith

pub flag-digit : (f : List ℕ) (i c k : ℕ) (s : FlagStep) → s ≡ flag_step f i c k → s.flagged.flag ≤ 9
flag-digit f i c k s e = subst (λ (y : FlagStep). y.flagged.flag ≤ 9) (sym e) (flag_small f i c k)

abbrev pub row_flag : List ℕ → ℕ → ℕ → ℕ
row_flag f c r = (flagged_of f r c).flag

pub record Flagging (f : List ℕ) (n c : ℕ) (fs₀ fs : List ℕ) (at k : ℕ) : Type 0 where
  pub reached : Reached f n at k
  pub flags : fs ≡ filled_from (row_flag f c) 1 k fs₀

module _ {f : List ℕ} {x : Column} (t : Stands f x) {fs₀ : List ℕ} (room : x.rows ≤ length fs₀) where
  pub flag-start : Flagging f x.rows x.column fs₀ fs₀ x.first 0
  flag-start = record { reached = reached-first t; flags = filled_none (row_flag f x.column) fs₀ }

  module _ {fs : List ℕ} {at k : ℕ} (w : Flagging f x.rows x.column fs₀ fs at k) where
    pub flag_turn : k < x.rows → (s : FlagStep) → s ≡ flag_step f at x.column x.kind → Flagging f x.rows x.column fs₀ (set fs k s.flagged.flag) s.next (k + 1)
    flag_turn h s es =
        let step = es ∙ flag-here t w.reached h in
        record {
          reached = reached-next t w.reached h s.next (ap (λ (y : FlagStep). y.next) step);
          flags = filled_row (row_flag f x.column) k fs₀ fs s.flagged.flag (omega (arith, h, room)) w.flags (ap (λ (y : FlagStep). y.flagged.flag) step);
        }

    pub flag-end : x.rows ≤ k → fs ≡ filled_from (row_flag f x.column) 1 x.rows fs₀
    flag-end h = let e : k ≡ x.rows = omega (arith, h, w.reached.few) in w.flags ∙ ap (λ (m : ℕ). filled_from (row_flag f x.column) 1 m fs₀) e
