-- Reading back: where the writes of an applied correction stand in a file, the measurement reads as it ordered, by the file's own whole check.
use Prim.Native.Nat.{ℕ, ◌-◌, ◌≤◌, ◌<◌}
use mathlib.Core.Path.{◌≡◌, refl, sym, ap, ◌∙◌, subst}
use mathlib.Core.Bool.{Bool, true, false, cond, ◌||◌}
use mathlib.Core.List.{List, [], ◌∷◌}
use native.Mathlib.Omega.{arith}
use lib.ListN.{length, replicate, length-append}
use lib.Dec.{eqb}
use lib.IntN.{ℤ}
use borrow.Author.Tests.{lt-ltb}
use Rattle.line_bytes.specs.Names.{begins_ctd}
use Rattle.verdicts.specs.Verdicts.{Verdict, good, size_of}
use Rattle.verdicts.specs.Kinds.{kind_of}
use Rattle.verdicts.specs.Judge.{judge, judged_of}
use Rattle.text.specs.Reading.{read_number, reading_of}
use Rattle.format.specs.Places.{Table, Outcome, accepted, refused, outcome_of}
use Rattle.format.specs.Profiles.{grid}
use Rattle.format.specs.Answers.{kind_at, found, asked_by, asked_of, cell_text, reading_by, reading_for, flagged_by, flagged_of}
use Rattle.format.specs.Located.{name_at, flag_column, has_flag, flag_column_by, flag_column_of}
use Rattle.laws.proofs.FlagColumnLaws.{FlagOf, flag_of}
use Rattle.laws.proofs.JoinLaws.{All}
use Rattle.format.proofs.InsideLaws as ask
use Rattle.numbers.specs.Texts.{number_text, flag_text, at_right}
use Rattle.numbers.proofs.TextLaws.{number_judged, number-signed}
use Rattle.orders.specs.declared.Answer.{Answer}
use Rattle.orders.specs.declared.Answer.TheVariants.{Applied, Refused}
use Rattle.orders.specs.declared.Order.{Order}
use Rattle.orders.specs.Corrections.{Entry, entry, entries_of, answer_of, corrected_of}
use Rattle.orders.specs.Demand3.{Measurement, measurement_of, flag_is, ReadsAs}
use Rattle.orders.proofs.FlagLaws.{flag_judged}
use Rattle.orders.proofs.TestLaws.{not-applied}
use Rattle.orders.proofs.GeometryLaws.{Grid, Shape, shape, cell_in, cell_row, width_at, width-cell}
use Rattle.orders.proofs.PutLaws.{Put, puts, AllApart, Stands, stands-kept}
use Rattle.orders.proofs.PlanLaws.{line_of, decide_in, decide, answer_view, put_of, writes_to, all-writes, writes-all, writes, if_applied, Part, plan_by}
use Rattle.orders.proofs.FitLaws as fit
use Rattle.orders.proofs.KeepsLaws.{part_of, plan_of, keeps, done, answer-kept, part-kept}
use Rattle.orders.proofs.PartLaws.{value_part, plan_distinct}

-- a cell that holds a text of its own width is not empty
flag-wide : (w v : ℕ) → length (at_right w (flag_text v)) ≡ w → 1 ≤ w
unfolding at_right
flag-wide w v e = omega (arith, sym e, length-append (replicate (w - 1) 32) (flag_text v))

flag-read : (ctd : Bool) (x : List ℕ) (v : ℕ) → judge (kind_of (cond ctd 5 4)) x ≡ good false v 0
    → cond (eqb (cond ctd 5 4) 4 || eqb (cond ctd 5 4) 5) (flag_is (size_of (judge (kind_of (cond ctd 5 4)) x))) (record { number = 22; line = 0; column = 0; flag = 0 }) ≡ flag_is v
flag-read true x v e = ap (λ (y : Verdict). flag_is (size_of y)) e
flag-read false x v e = ap (λ (y : Verdict). flag_is (size_of y)) e

-- ---- in an accepted file where the correction's tests keep
module _ (f : List ℕ) (t : Table) (n : ℕ) (e : outcome_of f ≡ accepted t n) (o : Order) (a : fit.Asked t n (shape (grid f)) o) where
  asked-found : (c : ℕ) → 1 ≤ c → c ≤ length t.names → asked_of f o.row c ≡ found t
  unfolding asked_of
  asked-found c h l = ap (asked_by o.row c) e ∙ ask.asked-inside o.row n c t (record { row = a.row; rows = a.rows; column = h; columns = l })

  -- a number that stands in a measured column
  number-reads : (j : ℕ) (m : ℤ) (d : ℕ) → 1 ≤ j → j ≤ length t.names → kind_at t j ≡ 0 → fit.NumberAsked (shape (grid f)) (line_of t o) j m d
      → cell_in (grid f) (line_of t o) (j - 1) ≡ at_right (width_at (shape (grid f)) (line_of t o) (j - 1)) (number_text m d) → reading_for f o.row j ≡ read_number m
  unfolding reading_for reading_of kind_of
  number-reads j m d h l k v s =
      let w : ℕ = width_at (shape (grid f)) (line_of t o) (j - 1) in
      let x : cell_text t f o.row j ≡ at_right w (number_text m d) = sym (cell_row (grid f) (line_of t o) (j - 1)) ∙ s in
      ap (reading_by f o.row j) (asked-found j h l)
      ∙ ap (λ (k : ℕ). reading_of k (judged_of 0 (judge (kind_of k) (cell_text t f o.row j)))) k
      ∙ ap (λ (y : List ℕ). reading_of 0 (judged_of 0 (judge (kind_of 0) y))) x
      ∙ ap (λ (v : Verdict). reading_of 0 (judged_of 0 v)) (number_judged m d w v.number v.fits)
      ∙ ap read_number (number-signed m v.number.small)

  flag-reads : (j : ℕ) → FlagOf t o.column j → has_flag t o.column ≡ true
      → cell_in (grid f) (line_of t o) (j - 1) ≡ at_right (width_at (shape (grid f)) (line_of t o) (j - 1)) (flag_text o.flag) → flagged_of f o.row j ≡ flag_is o.flag
  unfolding flagged_of
  flag-reads j q h s =
      let w : ℕ = width_at (shape (grid f)) (line_of t o) (j - 1) in
      let ctd : Bool = begins_ctd (name_at t o.column) in
      let some : 1 ≤ w = flag-wide w o.flag (sym (ap length s) ∙ sym (width-cell (grid f) (line_of t o) (j - 1))) in
      let x : cell_text t f o.row j ≡ at_right w (flag_text o.flag) = sym (cell_row (grid f) (line_of t o) (j - 1)) ∙ s in
      ap (flagged_by f o.row j) (asked-found j q.some q.most)
      ∙ ap (λ (k : ℕ). cond (eqb k 4 || eqb k 5) (flag_is (size_of (judge (kind_of k) (cell_text t f o.row j)))) (record { number = 22; line = 0; column = 0; flag = 0 })) q.kind
      ∙ flag-read ctd (cell_text t f o.row j) o.flag (ap (judge (kind_of (cond ctd 5 4))) x ∙ flag_judged ctd o.flag w (a.flag h) some)

  stands_read : Stands (grid f) (writes_to (shape (grid f)) (line_of t o) (value_part t o)) → ReadsAs f (measurement_of f o) o
  unfolding writes_to
  stands_read s = record {
    value = number-reads o.column o.millionths o.decimals a.col a.cols a.measured.kind a.value s.0;
    flag = λ h. rw column_is (go (has_flag t o.column) refl (rw column_is at h) s.1);
  }
    where
      column_is : flag_column_of f o.column ≡ flag_column t o.column
      column_is = ap (flag_column_by o.column) e

      go : (b : Bool) → has_flag t o.column ≡ b → 0 < flag_column t o.column
          → Stands (grid f) (writes_to (shape (grid f)) (line_of t o) (cond b (entry (flag_column t o.column) (flag_text o.flag) ∷ []) []))
          → flagged_of f o.row (flag_column t o.column) ≡ flag_is o.flag
      go true q h s = flag-reads (flag_column t o.column) (flag_of t o.column a.measured.in-line q) q s.0
      go false q h s = let z : ◌≡◌ {A = ℕ} 0 1 = cc (lt-ltb 0 (flag_column t o.column) h) in absurd (omega arith)

-- ---- a correction was applied and a part of its cells still stands
pub record Set (es : Part) (f : List ℕ) (o : Order) : Type 0 where
  pub was : answer_of f o ≡ Applied
  pub stands : Stands (grid f) (part_of es f o)

module _ (es : Part) (P : List ℕ → Measurement → Order → Type 0) (f : List ℕ) (o : Order) (s : Set es f o)
    (reads : (t : Table) (n : ℕ) → outcome_of f ≡ accepted t n → fit.Asked t n (shape (grid f)) o → Stands (grid f) (writes_to (shape (grid f)) (line_of t o) (es t o)) → P f (measurement_of f o) o) where
  part-reads : P f (measurement_of f o) o
  unfolding plan_by
  part-reads = go (outcome_of f) refl (sym (answer_view f o) ∙ s.was) s.stands
    where
      sh : Shape
      sh = shape (grid f)

      go : (p : Outcome) → outcome_of f ≡ p → decide p sh o ≡ Applied → Stands (grid f) (plan_by es p sh o) → P f (measurement_of f o) o
      go (refused x y z) e d w = absurd (not-applied x y z d)
      go (accepted t n) e d w = reads t n e (fit.applied-asked t n sh o d) (subst (λ (x : Answer). Stands (grid f) (if_applied x (writes es (accepted t n) sh o))) d w)

pub set_reads : (f : List ℕ) (o : Order) → Set value_part f o → ReadsAs f (measurement_of f o) o
set_reads f o s = part-reads value_part ReadsAs f o s (λ t n e a w. stands_read f t n e o a w)

-- what o put stands after q as it does with its puts
stands_after : (es : Part) (f : List ℕ) (o q : Order) → Stands (puts (grid f) (plan_of f q)) (part_of es f o) → Stands (grid (corrected_of f q)) (part_of es (corrected_of f q) o)
stands_after es f o q s =
    subst (λ (ws : List Put). Stands (grid (corrected_of f q)) ws) (sym (part-kept es f q o))
    (subst (λ (g : Grid). Stands g (part_of es f o)) (sym (keeps f q).cells) s)

-- all entries of a part are among the correction's
abbrev pub IsPart : Part → Type 1
IsPart es = (P : Entry → Type 0) (t : Table) (o : Order) → All P (entries_of t o) → All P (es t o)

part-stands : (es : Part) → IsPart es → (f : List ℕ) (o : Order) (g : Grid) → Stands g (plan_of f o) → Stands g (part_of es f o)
unfolding plan_by
part-stands es sub f o g s = go (outcome_of f) s
  where
    sh : Shape
    sh = shape (grid f)

    Holds : Put → Type 0
    Holds w = cell_in g w.line w.col ≡ w.text

    at : (t : Table) (n : ℕ) (x : Answer) → Stands g (if_applied x (writes entries_of (accepted t n) sh o)) → Stands g (if_applied x (writes es (accepted t n) sh o))
    at t n (Refused x y z) s = tt
    at t n Applied s =
        let l : ℕ = line_of t o in
        all-writes (λ (e : Entry). Holds (put_of sh l e)) Holds sh l (es t o) (λ e h. h) (sub (λ (e : Entry). Holds (put_of sh l e)) t o (writes-all Holds sh l (entries_of t o) s))

    go : (p : Outcome) → Stands g (plan_by entries_of p sh o) → Stands g (plan_by es p sh o)
    go (refused x y z) s = tt
    go (accepted t n) s = at t n (decide_in t n sh o) s

pub set_now : (es : Part) → IsPart es → (f : List ℕ) (o : Order) → answer_of f o ≡ Applied → Set es (corrected_of f o) o
set_now es sub f o e = record {
  was = answer-kept f o o ∙ e;
  stands = stands_after es f o o (part-stands es sub f o (puts (grid f) (plan_of f o)) ((done f o (keeps f o).fit).stands (plan_distinct f o)));
}

pub set_on : (es : Part) (f : List ℕ) (o q : Order) → AllApart (part_of es f o) (plan_of f q) → Set es f o → Set es (corrected_of f q) o
set_on es f o q a s = record {
  was = answer-kept f q o ∙ s.was;
  stands = stands_after es f o q (stands-kept (part_of es f o) (plan_of f q) (grid f) a s.stands);
}
