-- A column found in a file, by what opening the file says: one law for each answer.
use Prim.Native.Nat.{ℕ, min, ◌≤◌, ◌<◌}
use mathlib.Core.Path.{◌≡◌, refl, sym, ap, ◌∙◌}
use mathlib.Core.List.{List}
use mathlib.Core.Bool.{Bool, true, false, cond, ◌&&◌, ◌||◌, true≢false}
use native.Mathlib.Omega.{arith}
use lib.ListN.{length}
use lib.Dec.{leb, ltb}
use borrow.Author.Tests.{le-leb, lt-leb, leb-true, leb-false, ltb-true, ltb-false}
use Rattle.line_bytes.specs.Cells.{line_at}
use Rattle.text.proofs.ReadingLaws.{decimal-below, decimal_above}
use Rattle.format.specs.declared.Checked.{Checked}
use Rattle.format.specs.declared.Opened.{Opened}
use Rattle.format.specs.Places.{outcome_of}
use Rattle.format.specs.Answers.{kind_at}
use Rattle.format.specs.NamesLine.{kind_in_line}
use Rattle.format.specs.Opened.{opened_of}
use Rattle.format.proofs.OpenedLaws.{OpenedTable, opened_checked, opened-refused, opened-table}
use Rattle.format.proofs.RowPlaceLaws.{first-row, kind-here}
use Rattle.whole_columns.specs.declared.ColumnRead.{ColumnRead}
use Rattle.whole_columns.specs.declared.opening.ReadAs.{ReadAs}
use Rattle.whole_columns.specs.Columns.{filled_from, rows_given, no_column, column_by, is_decimal_kind, is_flag_kind, values_of, flags_of}
use Rattle.whole_columns.specs.Inner.Columns.{is_read, FoundColumn}

-- ---- tests
-- the numbers from the least to the most
abbrev between : ℕ → ℕ → ℕ → Bool
between least most k = leb least k && leb k most

first-test : (a b : Bool) → a ≡ false → (a && b) ≡ false
first-test a b e = rw e

second-test : (a b : Bool) → b ≡ false → (a && b) ≡ false
second-test true b e = e
second-test false b e = refl

-- the code's test that a number is not between two others
module _ (least most k : ℕ) where
  pub not-between : (ltb k least || ltb most k) ≡ true → between least most k ≡ false
  not-between t = go (ltb k least) (ltb most k) refl refl t
    where
      go : (a b : Bool) → ltb k least ≡ a → ltb most k ≡ b → (a || b) ≡ true → between least most k ≡ false
      go true b p q t = first-test (leb least k) (leb k most) (lt-leb least k (ltb-true k least p))
      go false true p q t = second-test (leb least k) (leb k most) (lt-leb k most (ltb-true most k q))
      go false false p q t = absurd (true≢false (sym t))

  pub is-between : (ltb k least || ltb most k) ≡ false → between least most k ≡ true
  is-between t = go (ltb k least) (ltb most k) refl refl t
    where
      go : (a b : Bool) → ltb k least ≡ a → ltb most k ≡ b → (a || b) ≡ false → between least most k ≡ true
      go true b p q t = absurd (true≢false t)
      go false true p q t = absurd (true≢false t)
      go false false p q t = rw (le-leb least k (ltb-false k least p), le-leb k most (ltb-false most k q))

-- ---- the column found
module _ (f : List ℕ) (c : ℕ) (kinds : ReadAs) (room : ℕ) (o : Opened) (e : o ≡ opened_of f) where
  pub file-refused : (o.checked.number ≡ 0 → ⊥) → column_by (is_read kinds) room c (outcome_of f) ≡ no_column o.checked.number o.checked.line o.checked.column
  file-refused z = ap (column_by (is_read kinds) room c) (opened-refused f o e z)

  module _ (z : o.checked.number ≡ 0) where
    w : OpenedTable f o
    w = opened-table f o e z

    answer_by_lem : (b d g : Bool) → between 1 (length w.table.names) c ≡ b → is_read kinds (kind_at w.table c) ≡ d → leb o.checked.rows room ≡ g
        → column_by (is_read kinds) room c (outcome_of f) ≡ cond b (cond d (cond g (rows_given o.checked.rows) (no_column 29 0 0)) (no_column 22 0 0)) (no_column 21 0 0)
    answer_by_lem b d g p q r = ap (column_by (is_read kinds) room c) w.is ∙ rw (p, q, r)

    pub column-absent : (ltb c 1 || ltb o.checked.columns c) ≡ true → column_by (is_read kinds) room c (outcome_of f) ≡ no_column 21 0 0
    column-absent t = answer_by_lem false _ _ (ap (λ (m : ℕ). between 1 m c) (sym w.columns) ∙ not-between 1 o.checked.columns c t) refl refl

    module _ (t : (ltb c 1 || ltb o.checked.columns c) ≡ false) (k : ℕ) (ek : k ≡ kind_in_line (line_at f o.names) c) where
      is-there : between 1 (length w.table.names) c ≡ true
      is-there = ap (λ (m : ℕ). between 1 m c) (sym w.columns) ∙ is-between 1 o.checked.columns c t

      kind_is : is_read kinds (kind_at w.table c) ≡ is_read kinds k
      kind_is = ap (is_read kinds) (sym (ek ∙ kind-here w c is-there))

      pub column-other : is_read kinds k ≡ false → column_by (is_read kinds) room c (outcome_of f) ≡ no_column 22 0 0
      column-other s = answer_by_lem true false _ is-there (kind_is ∙ s) refl

      module _ (s : is_read kinds k ≡ true) where
        pub table-short : room < o.checked.rows → column_by (is_read kinds) room c (outcome_of f) ≡ no_column 29 0 0
        table-short l = answer_by_lem true true false is-there (kind_is ∙ s) (lt-leb o.checked.rows room l)

        pub column-found : o.checked.rows ≤ room → FoundColumn f c kinds room (record { column = c; kind = k; rows = o.checked.rows; first = o.first })
        column-found l = record {
          column = refl;
          answer = answer_by_lem true true true is-there (kind_is ∙ s) (le-leb o.checked.rows room l);
          stands = record {
            rows = omega (arith, ap (λ (p : Opened). p.checked.rows) e, ap (λ (q : Checked). q.rows) (opened_checked f));
            start = ap (λ (p : Opened). p.first) e ∙ first-row f;
            kind = ek ∙ ap (λ (p : Opened). kind_in_line (line_at f p.names) c) e;
          };
          fits = l;
        }

-- ---- the kinds of decimals stand together
pub decimal-kinds : (k : ℕ) → leb k 3 ≡ is_decimal_kind k
decimal-kinds k = go (leb k 3) refl
  where
    go : (b : Bool) → leb k 3 ≡ b → b ≡ is_decimal_kind k
    go true q = sym (decimal-below k (leb-true k 3 q))
    go false q = sym (decimal_above k (leb-false k 3 q))

-- ---- the answers of the calls, by the column found
module _ (f : List ℕ) (c : ℕ) (y : ColumnRead) where
  pub values-answer : (a b d m room : ℕ) → m ≡ min b d → room ≡ min a m → y ≡ column_by is_decimal_kind room c (outcome_of f) → y ≡ values_of f c a b d
  unfolding values_of
  values-answer a b d m room em er e = e ∙ ap (λ (n : ℕ). column_by is_decimal_kind n c (outcome_of f)) (er ∙ ap (min a) em)

  pub flags-answer : (room : ℕ) → y ≡ column_by is_flag_kind room c (outcome_of f) → y ≡ flags_of f c room
  unfolding flags_of
  flags-answer room e = e

-- the entries of the rows of the column found, as the answer gives them
pub given-rows : {A : Type 0} (g : ℕ → ℕ → A) (c d n : ℕ) (y : ColumnRead) (xs : List A) {ys : List A} → d ≡ c → y ≡ rows_given n → ys ≡ filled_from (g d) 1 n xs → ys ≡ filled_from (g c) 1 y.rows xs
given-rows g c d n y xs e h q = q ∙ ap (λ (k : ℕ). filled_from (g k) 1 n xs) e ∙ ap (λ (r : ColumnRead). filled_from (g c) 1 r.rows xs) (sym h)
