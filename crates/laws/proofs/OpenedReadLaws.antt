-- A file opened once and read by places gives what the single calls give.
use Prim.Native.Nat.{ℕ, ◌+◌, ◌≤◌, ◌<◌}
use mathlib.Core.Path.{◌≡◌, refl, sym, ap, ◌∙◌}
use mathlib.Core.Logic.{inr}
use mathlib.Core.List.{List}
use mathlib.Core.Bool.{Bool, true, false, cond, ◌&&◌, ◌||◌}
use native.Mathlib.Omega.{arith}
use lib.ListN.{length, length-map, get_or-eq_default}
use lib.Dec.{eqb, leb}
use borrow.Author.Tests.{le-leb, leb-true, leb-false, eqb-true}
use Rattle.line_bytes.specs.Cells.{line_at}
use Rattle.verdicts.specs.Kinds.{kind_of}
use Rattle.verdicts.specs.Verdicts.{size_of}
use Rattle.verdicts.specs.Judge.{judge}
use Rattle.format.specs.declared.Checked.{Checked}
use Rattle.format.specs.declared.Flagged.{Flagged}
use Rattle.format.specs.declared.Named.{Named}
use Rattle.format.specs.declared.Opened.{Opened}
use Rattle.format.specs.Columns.{flag_from, flags_of}
use Rattle.format.specs.Answers.{checked_of, is_there, found, missed, kind_at, reading_for, flagged_by, flagged_of}
use Rattle.format.specs.ByPlace.{row_start, line_after, text_of, decimal_in, no_flag, flag_by, flag_in}
use Rattle.format.specs.Labels.{named_at, named_by, named_of}
use Rattle.format.specs.Located.{flag_column, flag_column_by, flag_column_of}
use Rattle.format.specs.NamesLine.{kind_in_line, flag_in_line, number_among, column_in_line}
use Rattle.format.specs.Opened.{opened_of}
use Rattle.format.proofs.NamesLineLaws.{flag-asked, flag-none}
use Rattle.format.proofs.OpenedLaws.{OpenedTable, opened_checked, opened-table}
use Rattle.format.proofs.RowPlaceLaws.{first-row, row_opened, kind-here, row_next, cell-there, cell-text, cell-asked, cell_same, decimal-same}
use Rattle.laws.specs.Promises.{cell_verdict}
use Rattle.laws.specs.OpenedReads.{kind_read, OpenedReads}
use Rattle.laws.proofs.AskedLaws.{cell-good}

-- ---- flags: a flag of an accepted file is good, so it has no number
module _ {s : List ℕ} {o : Opened} (w : OpenedTable s o) (r : ℕ) (low : 1 ≤ r) (high : r ≤ o.checked.rows) (c : ℕ) where
  abbrev there : Bool
  there = leb 1 c && leb c (length w.table.names)

  abbrev good-flag : Flagged
  good-flag = record { number = 0; line = 0; column = 0; flag = size_of (cell_verdict w.table s r c) }

  flag-good : there ≡ true → flag_by (cell_verdict w.table s r c) ≡ good-flag
  flag-good h =
      let in_table : is_there w.table o.checked.rows r c ≡ true = rw (le-leb 1 r low, le-leb r o.checked.rows high, h) in
      let g = cell-good s w.table o.checked.rows w.is r c in_table in
      rw g.is

  flag_same : flag_in s (row_start s r) c (kind_in_line (line_at s o.names) c) ≡ flagged_of s r c
  unfolding flag_in flagged_of
  flag_same = rw (cell-there w r low high c, cell-asked w r low high c) (go there (kind-here w c) flag-good)
    where
      read : ℕ → Flagged → Flagged
      read k x = cond (eqb k 4 || eqb k 5) x (no_flag 22)

      go : (b : Bool) → (b ≡ true → kind_in_line (line_at s o.names) c ≡ kind_at w.table c) → (b ≡ true → flag_by (cell_verdict w.table s r c) ≡ good-flag)
          → cond b (read (kind_in_line (line_at s o.names) c) (flag_by (judge (kind_of (kind_in_line (line_at s o.names) c)) (text_of s (row_start s r) c)))) (no_flag 21)
          ≡ flagged_by s r c (cond b (found w.table) (missed 21 0 0))
      go true f g =
          ap (λ (k : ℕ). read k (flag_by (judge (kind_of k) (text_of s (row_start s r) c)))) (f refl)
          ∙ ap (λ (t : List ℕ). read (kind_at w.table c) (flag_by (judge (kind_of (kind_at w.table c)) t))) (cell-text w r low high c)
          ∙ ap (read (kind_at w.table c)) (g refl)
      go false f g = refl

-- ---- the names line
named-place : (k : ℕ) → (named_at k).place ≡ k
named-place k = go (eqb k 0) refl
  where
    go : (b : Bool) → eqb k 0 ≡ b → (cond {A = Named} b (record { number = 21; line = 0; column = 0; place = 0 }) (record { number = 0; line = 0; column = 0; place = k })).place ≡ k
    go true q = sym (eqb-true k 0 q)
    go false q = refl

module _ {s : List ℕ} {o : Opened} (w : OpenedTable s o) where
  column-same : (name : List ℕ) → column_in_line (line_at s o.names) name ≡ (named_of s name).place
  unfolding column_in_line named_of
  column-same name =
      ap (number_among name) (sym w.named.names_are) ∙ sym (named-place (number_among name w.table.names)) ∙ sym (ap (λ x. (named_by name x).place) w.is)

  flagged-same : (c : ℕ) → 1 ≤ c → flag_in_line (line_at s o.names) c ≡ flag_column_of s c
  unfolding flag_column
  flagged-same c h = go (leb c (length w.table.names)) refl ∙ sym (ap (flag_column_by c) w.is)
    where
      go : (b : Bool) → leb c (length w.table.names) ≡ b → flag_in_line (line_at s o.names) c ≡ flag_column w.table c
      go true q = flag-asked w.table (line_at s o.names) w.named.names_are c h (leb-true c (length w.table.names) q)
      go false q =
          let past : length w.table.names < c = leb-false c (length w.table.names) q in
          let long : length (flags_of w.table.names) ≡ length w.table.names = length-map w.table.names (λ n. flag_from 1 n w.table.names) in
          flag-none (line_at s o.names) c (inr (omega (arith, past, ap length w.named.names_are))) ∙ sym (get_or-eq_default (flags_of w.table.names) 0 (omega (arith, past, long)))

-- ---- the claim
file-opened : (f : List ℕ) → (checked_of f).number ≡ 0 → OpenedTable f (opened_of f)
file-opened f z = opened-table f (opened_of f) refl (ap (λ (x : Checked). x.number) (opened_checked f) ∙ z)

module _ (f : List ℕ) (r : ℕ) (low : 1 ≤ r) (high : r ≤ (checked_of f).rows) where
  w : OpenedTable f (opened_of f)
  w = row_opened f r low high

  high' : r ≤ (opened_of f).checked.rows
  high' = rw (opened_checked f) high

  next_is : line_after f (row_start f r) ≡ row_start f (r + 1)
  next_is = row_next w r low high'

  decimal_is : (c : ℕ) → decimal_in f (row_start f r) c (kind_read f c) ≡ reading_for f r c
  decimal_is c = decimal-same w r low high' c

  flag_is_lem : (c : ℕ) → flag_in f (row_start f r) c (kind_read f c) ≡ flagged_of f r c
  flag_is_lem c = flag_same w r low high' c

pub opened-reads : OpenedReads
opened-reads = record {
  first = first-row;
  next = next_is;
  cell = λ f r c a b. cell_same (row_opened f r a b) r a (rw (opened_checked f) b) c;
  decimal = λ f r c a b. decimal_is f r a b c;
  flag = λ f r c a b. flag_is_lem f r a b c;
  decimal_step_lem = λ f r c a b. let x = decimal_is f r a b c in let n = next_is f r a b in λ j. record { reading = x j; next = n j };
  flag-step = λ f r c a b. let x = flag_is_lem f r a b c in let n = next_is f r a b in λ j. record { flagged = x j; next = n j };
  column = λ f name z. column-same (file-opened f z) name;
  flagged = λ f c h z. flagged-same (file-opened f z) c h;
}
