-- What is asked of a names line is, on the names line of a table, what the table says.
use Prim.Native.Nat.{ℕ, zero, suc, ◌+◌, ◌-◌, ◌≤◌, ◌<◌}
use mathlib.Core.Path.{◌≡◌, refl, sym, ap, subst, ◌∙◌}
use mathlib.Core.List.{List, [], ◌∷◌}
use mathlib.Core.Logic.{◌⊎◌, ⊎_elim}
use mathlib.Core.Bool.{Bool, true, false, cond, ◌&&◌}
use native.Mathlib.Nat.{not-suc-le-zero, le_of_suc-le-suc}
use native.Mathlib.Omega.{arith}
use lib.ListN.{length, get_or, take, get_or-eq_default}
use lib.Dec.{leb, ltb}
use borrow.Author.Tests.{lt-ltb, le-ltb, ltb-true, ltb-false}
use Rattle.line_bytes.specs.Bytes.{bytes, equal}
use Rattle.line_bytes.specs.Names.{last_seven, parameter_length}
use Rattle.format.specs.Faults.{place_in}
use Rattle.format.specs.Columns.{names_of, kind_of_name, flag_from}
use Rattle.format.specs.NamesLine.{name_in_line, kind_in_line, column_in_line, flag_in_line}
use Rattle.format.specs.Places.{Table}
use Rattle.format.specs.Answers.{kind_at}
use Rattle.format.specs.Located.{name_at, flag_column}
use Rattle.format.proofs.GridLaws.{get_d-map_in}
use Rattle.format.proofs.NameLaws.{place-member}

-- a flag column's parameter
pub parameter-length : (t : List ℕ) → parameter_length t ≤ length t
unfolding parameter_length
parameter-length t = go (leb 8 (length t) && equal (last_seven t) (bytes "_FLAG_W"))
  where
    go : (b : Bool) → cond b (length t - 7) 0 ≤ length t
    go true = omega arith
    go false = omega arith

-- ---- where there is no such column
name_empty : (x : List ℕ) (c : ℕ) → (c ≡ 0) ⊎ (length (names_of x) < c) → name_in_line x c ≡ []
unfolding name_in_line
name_empty x zero h = refl
name_empty x (suc c) h = get_or-eq_default (names_of x) [] (⊎_elim (λ z. absurd (omega arith)) (λ z. le_of_suc-le-suc z) h)

-- no flag column has the empty name before its _FLAG_W
never_empty : (p : ℕ) (z : List ℕ) → p ≤ length z → (ltb 0 p && equal (take p z) []) ≡ false
unfolding equal
never_empty zero z h = refl
never_empty (suc p) [] h = absurd (not-suc-le-zero h)
never_empty (suc p) (w ∷ z) h = rw (lt-ltb 0 (suc p) (omega arith))

flag_empty : (k : ℕ) (ys : List (List ℕ)) → flag_from k [] ys ≡ 0
unfolding flag_from
flag_empty k [] = refl
flag_empty k (y ∷ ys) = rw (never_empty (parameter_length y) y (parameter-length y)) (flag_empty (k + 1) ys)

pub flag-none : (x : List ℕ) (c : ℕ) → (c ≡ 0) ⊎ (length (names_of x) < c) → flag_in_line x c ≡ 0
unfolding flag_in_line
flag-none x c h = ap (λ (n : List ℕ). flag_from 1 n (names_of x)) (name_empty x c h) ∙ flag_empty 1 (names_of x)

-- ---- the column of a name, by its place among the names
module _ (x n : List ℕ) where
  column_by_lem : (b : Bool) → ltb (place_in n (names_of x)) (length (names_of x)) ≡ b → column_in_line x n ≡ cond b (place_in n (names_of x) + 1) 0
  unfolding column_in_line
  column_by_lem b e = ap (λ (z : Bool). cond z (place_in n (names_of x) + 1) 0) (sym (place-member n (names_of x)) ∙ e)

  pub column-there : place_in n (names_of x) < length (names_of x) → column_in_line x n ≡ place_in n (names_of x) + 1
  column-there h = column_by_lem true (lt-ltb (place_in n (names_of x)) (length (names_of x)) h)

  pub column-absent : length (names_of x) ≤ place_in n (names_of x) → column_in_line x n ≡ 0
  column-absent h = column_by_lem false (le-ltb (place_in n (names_of x)) (length (names_of x)) h)

  -- and back
  pub column-found : (column_in_line x n ≡ 0 → ⊥) → (place_in n (names_of x) < length (names_of x)) × (column_in_line x n ≡ place_in n (names_of x) + 1)
  column-found z = go (ltb (place_in n (names_of x)) (length (names_of x))) refl
    where
      go : (b : Bool) → ltb (place_in n (names_of x)) (length (names_of x)) ≡ b → (place_in n (names_of x) < length (names_of x)) × (column_in_line x n ≡ place_in n (names_of x) + 1)
      go true e = let h = ltb-true (place_in n (names_of x)) (length (names_of x)) e in (h, column-there h)
      go false e = absurd (z (column-absent (ltb-false (place_in n (names_of x)) (length (names_of x)) e)))

  pub column_lacking : column_in_line x n ≡ 0 → length (names_of x) ≤ place_in n (names_of x)
  column_lacking z = go (ltb (place_in n (names_of x)) (length (names_of x))) refl
    where
      go : (b : Bool) → ltb (place_in n (names_of x)) (length (names_of x)) ≡ b → length (names_of x) ≤ place_in n (names_of x)
      go true e = absurd (omega (arith, z, column-there (ltb-true (place_in n (names_of x)) (length (names_of x)) e)))
      go false e = ltb-false (place_in n (names_of x)) (length (names_of x)) e

-- ---- on the names line of a table
module _ (t : Table) (x : List ℕ) (e : t.names ≡ names_of x) where
  pub name-asked : (c : ℕ) → 1 ≤ c → name_in_line x c ≡ name_at t c
  unfolding name_in_line
  name-asked zero h = absurd (omega arith)
  name-asked (suc c) h = let q : c ≡ suc c - 1 = omega arith in ap (λ (j : ℕ). get_or (names_of x) j []) q ∙ ap (λ (ns : List (List ℕ)). get_or ns (suc c - 1) []) (sym e)

  pub kind-asked : (c : ℕ) → 1 ≤ c → c ≤ length t.names → kind_in_line x c ≡ kind_at t c
  unfolding kind_in_line
  kind-asked c h l = ap kind_of_name (name-asked c h) ∙ sym (get_d-map_in kind_of_name t.names (c - 1) 0 [] (omega arith))

  pub flag-asked : (c : ℕ) → 1 ≤ c → c ≤ length t.names → flag_in_line x c ≡ flag_column t c
  unfolding flag_in_line flag_column
  flag-asked c h l =
      ap (λ (n : List ℕ). flag_from 1 n (names_of x)) (name-asked c h)
      ∙ ap (flag_from 1 (name_at t c)) (sym e)
      ∙ sym (get_d-map_in (λ (n : List ℕ). flag_from 1 n t.names) t.names (c - 1) 0 [] (omega arith))

  pub column-asked : (n : List ℕ) → place_in n t.names < length t.names → column_in_line x n ≡ place_in n t.names + 1
  column-asked n h = column-there x n (subst (λ (ns : List (List ℕ)). place_in n ns < length ns) e h) ∙ ap (λ (ns : List (List ℕ)). place_in n ns + 1) (sym e)
