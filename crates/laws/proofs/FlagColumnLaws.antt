-- The flag column of a column: it stands in the line, and its kind is the one that its parameter's name says.
use Prim.Native.Nat.{ℕ, suc, ◌+◌, ◌-◌, ◌≤◌, ◌<◌}
use mathlib.Core.Path.{◌≡◌, refl, sym, ap, ◌∙◌}
use mathlib.Core.Bool.{Bool, true, false, cond, ◌&&◌, and-eq-true_iff}
use mathlib.Core.List.{List, [], ◌∷◌}
use native.Mathlib.Omega.{arith}
use lib.ListN.{length, get_or}
use borrow.Author.Tests.{ltb-true}
use Rattle.line_bytes.specs.Bytes.{equal}
use Rattle.line_bytes.specs.Names.{begins_ctd}
use Rattle.line_bytes.proofs.EqualLaws.{equal-same}
use Rattle.format.specs.Columns.{is_flag, parameter_of, kind_of_name, flag_from, kinds_of}
use Rattle.format.specs.Places.{Table}
use Rattle.format.specs.Answers.{kind_at}
use Rattle.format.specs.Located.{name_at, flag_column, has_flag}
use Rattle.format.proofs.GridLaws.{get_d-map_in}

-- name i of the list is the flag column's name of n
record FlagName (ns : List (List ℕ)) (n : List ℕ) (i : ℕ) : Type 0 where
  lt : i < length ns
  flag : is_flag (get_or ns i []) ≡ true
  of : parameter_of (get_or ns i []) ≡ n

flag_from_lem : (ns : List (List ℕ)) (k : ℕ) (n : List ℕ) (j : ℕ) → flag_from k n ns ≡ j → 0 < j → (i : ℕ) × (j ≡ k + i) × FlagName ns n i
unfolding flag_from
flag_from_lem [] k n j e h = absurd (omega arith)
flag_from_lem (x ∷ ns) k n j e h = go (is_flag x && equal (parameter_of x) n) refl e (flag_from_lem ns (k + 1) n j)
  where
    up : (i : ℕ) × (j ≡ k + 1 + i) × FlagName ns n i → (i : ℕ) × (j ≡ k + i) × FlagName (x ∷ ns) n i
    up f = (suc f.0, omega (arith, f.1), record { lt = omega (arith, f.2.lt); flag = f.2.flag; of = f.2.of })

    go : (b : Bool) → (is_flag x && equal (parameter_of x) n) ≡ b → cond b k (flag_from (k + 1) n ns) ≡ j
        → (flag_from (k + 1) n ns ≡ j → 0 < j → (i : ℕ) × (j ≡ k + 1 + i) × FlagName ns n i) → (i : ℕ) × (j ≡ k + i) × FlagName (x ∷ ns) n i
    go true q e ih =
        let w = (and-eq-true_iff (is_flag x) (equal (parameter_of x) n)).0 q in
        (0, omega arith, record { lt = omega arith; flag = w.0; of = equal-same (parameter_of x) n w.1 })
    go false q e ih = up (ih e h)

-- j is the flag column of column c
pub record FlagOf (t : Table) (c j : ℕ) : Type 0 where
  pub some : 1 ≤ j
  pub most : j ≤ length t.names
  pub kind : kind_at t j ≡ cond (begins_ctd (name_at t c)) 5 4
  pub of : parameter_of (name_at t j) ≡ name_at t c

pub flag_of : (t : Table) (c : ℕ) → c - 1 < length t.names → has_flag t c ≡ true → FlagOf t c (flag_column t c)
unfolding flag_column kind_of_name
flag_of t c h e = found (flag_from_lem t.names 1 (name_at t c) (flag_column t c) (sym place) (ltb-true 0 (flag_column t c) e))
  where
    ns : List (List ℕ)
    ns = t.names

    place : flag_column t c ≡ flag_from 1 (name_at t c) ns
    place = get_d-map_in (λ (n : List ℕ). flag_from 1 n ns) ns (c - 1) 0 [] h

    found : (i : ℕ) × (flag_column t c ≡ 1 + i) × FlagName ns (name_at t c) i → FlagOf t c (flag_column t c)
    found (i, p, w) =
        let q : flag_column t c - 1 ≡ i = omega (arith, p) in
        let kind : get_or (kinds_of ns) i 0 ≡ cond (begins_ctd (name_at t c)) 5 4 =
        get_d-map_in kind_of_name ns i 0 [] w.lt ∙ rw (w.flag, w.of) in
        record {
          some = omega (arith, p);
          most = omega (arith, p, w.lt);
          kind = ap (λ (k : ℕ). get_or (kinds_of ns) k 0) q ∙ kind;
          of = ap (λ (k : ℕ). parameter_of (get_or ns k [])) q ∙ w.of;
        }
