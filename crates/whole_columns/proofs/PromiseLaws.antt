-- The stated laws of the tables.
use Prim.Native.Nat.{ℕ, zero, suc, ◌+◌, min, ◌≤◌, ◌<◌}
use mathlib.Core.Path.{◌≡◌, refl, sym, ap, subst, ◌∙◌}
use mathlib.Core.List.{List, [], ◌∷◌}
use mathlib.Core.Bool.{Bool, true, false, cond, ◌&&◌}
use native.Mathlib.Nat.{not-suc-le-zero, le_of_suc-le-suc, add-zero}
use native.Mathlib.Omega.{arith}
use lib.ListN.{length, get_or}
use lib.Dec.{leb}
use lib.IntN.{ℤ}
use borrow.Author.Tests.{le-leb}
use Rattle.verdicts.specs.Verdicts.{millionths_of}
use Rattle.text.specs.declared.Reading.{Reading}
use Rattle.text.specs.declared.Reading.TheVariants.{Present, Missing}
use Rattle.text.specs.Reading.{read_number, is_missing, double_of}
use Rattle.format.specs.Places.{Table, Outcome, accepted, refused, outcome_of}
use Rattle.format.specs.Answers.{is_there, kind_at, reading_for}
use Rattle.format.specs.ReadingNumbers.{reading_case}
use Rattle.laws.specs.Promises.{cell_verdict}
use Rattle.laws.proofs.AskedLaws.{asked_exactly}
use Rattle.whole_columns.specs.declared.ColumnRead.{ColumnRead}
use Rattle.whole_columns.specs.Columns.{filled_from, rows_given, no_column, column_by, is_decimal_kind, values_of}
use Rattle.whole_columns.specs.Promises.{FillsExactly, ValuesRead}
use Rattle.whole_columns.proofs.FillLaws.{filled-length}

-- ---- filled tables
given_from : {A : Type 0} (g : ℕ → A) (r n : ℕ) (xs : List A) (j : ℕ) (d : A) → j < n → j < length xs → get_or (filled_from g r n xs) j d ≡ g (r + j)
unfolding filled_from
given_from g r zero xs j d h l = absurd (not-suc-le-zero h)
given_from g r (suc n) [] j d h l = absurd (not-suc-le-zero l)
given_from g r (suc n) (x ∷ xs) zero d h l = ap g (sym (add-zero r))
given_from g r (suc n) (x ∷ xs) (suc j) d h l =
    let k : r + 1 + j ≡ r + suc j = omega arith in
    given_from g (r + 1) n xs j d (le_of_suc-le-suc h) (le_of_suc-le-suc l) ∙ ap g k

kept_from : {A : Type 0} (g : ℕ → A) (r n : ℕ) (xs : List A) (j : ℕ) (d : A) → n ≤ j → get_or (filled_from g r n xs) j d ≡ get_or xs j d
unfolding filled_from
kept_from g r zero xs j d h = refl
kept_from g r (suc n) [] j d h = refl
kept_from g r (suc n) (x ∷ xs) zero d h = absurd (not-suc-le-zero h)
kept_from g r (suc n) (x ∷ xs) (suc j) d h = kept_from g (r + 1) n xs j d (le_of_suc-le-suc h)

pub fills_exactly : FillsExactly
fills_exactly = record {
  long = λ g n xs. filled-length g 1 n xs;
  given = λ g n xs j d h l. let k : 1 + j ≡ j + 1 = omega arith in given_from g 1 n xs j d h l ∙ ap g k;
  kept = λ g n xs j d h. kept_from g 1 n xs j d h;
}

-- ---- the readings of a column that is given
number_read : (m : ℤ) → reading_case (read_number m) ≤ 1
number_read m = go (is_missing m)
  where
    go : (b : Bool) → reading_case (cond b Missing (Present m (double_of m))) ≤ 1
    go true = omega arith
    go false = omega arith

-- the column is there, of a kind that is read, and its rows are the file's
record Given (t : Table) (n c : ℕ) (x : ColumnRead) : Type 0 where
  there : (leb 1 c && leb c (length t.names)) ≡ true
  kind : is_decimal_kind (kind_at t c) ≡ true
  rows : x.rows ≡ n

given_by : (t : Table) (n c room : ℕ) → (column_by is_decimal_kind room c (accepted t n)).number ≡ 0 → Given t n c (column_by is_decimal_kind room c (accepted t n))
given_by t n c room z = go (leb 1 c && leb c (length t.names)) (is_decimal_kind (kind_at t c)) (leb n room) refl refl refl z
  where
    answer : Bool → Bool → Bool → ColumnRead
    answer a b d = cond a (cond b (cond d (rows_given n) (no_column 29 0 0)) (no_column 22 0 0)) (no_column 21 0 0)

    go : (a b d : Bool) → (leb 1 c && leb c (length t.names)) ≡ a → is_decimal_kind (kind_at t c) ≡ b → leb n room ≡ d → (answer a b d).number ≡ 0
        → Given t n c (answer a b d)
    go true true true p q s z = record { there = p; kind = q; rows = refl }
    go true true false p q s z = absurd (omega (arith, z))
    go true false d p q s z = absurd (omega (arith, z))
    go false b d p q s z = absurd (omega (arith, z))

pub values-read : ValuesRead
unfolding values_of
values-read f c x y z e r low high = go (outcome_of f) refl e high
  where
    go : (o : Outcome) → outcome_of f ≡ o → (column_by is_decimal_kind (min x (min y z)) c o).number ≡ 0 → r ≤ (column_by is_decimal_kind (min x (min y z)) c o).rows → reading_case (reading_for f r c) ≤ 1
    go (accepted t n) q e h =
        let g = given_by t n c (min x (min y z)) e in
        let in_table : is_there t n r c ≡ true = rw (le-leb 1 r low, le-leb r n (omega (arith, h, g.rows)), g.there) in
        let w = asked_exactly.there f t n q r c in_table in
        subst (λ (v : Reading). reading_case v ≤ 1) (sym (w.decimal g.kind)) (number_read (millionths_of (cell_verdict t f r c)))
    go (refused a b d) q e h = absurd (omega (arith, low, h))
