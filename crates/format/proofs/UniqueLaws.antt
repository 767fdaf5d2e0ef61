-- The names of an accepted file's columns are all different.
use Prim.Native.Nat.{ℕ, suc, ◌+◌, ◌-◌, ◌<◌}
use mathlib.Core.Path.{◌≡◌, refl, sym, subst, ◌∙◌}
use mathlib.Core.Bool.{Bool, true, false, cond, not}
use mathlib.Core.List.{List, [], ◌∷◌, ◌++◌, map}
use native.Mathlib.Omega.{arith}
use lib.ListN.{length, get_or}
use lib.Dec.{eqb, ltb}
use borrow.Author.Tests.{eqb-true, eqb-false}
use Rattle.std.specs.Prelude.{Some, None}
use Rattle.line_bytes.specs.Cells.{pieces}
use Rattle.line_bytes.specs.Spaces.{trim}
use Rattle.line_bytes.specs.Names.{is_name}
use Rattle.format.specs.declared.NameFault.TheVariants.{Bad, Repeated}
use Rattle.format.specs.Faults.{clean, ◌then◌, first_of, unless, member, has_all}
use Rattle.format.specs.Columns.{Sort, name_rules, required_names, names_of}
use Rattle.format.specs.Places.{Table, accepted, outcome_of}
use Rattle.format.specs.Inner.Faults.{name_fault, flag_fault, names_line_fault}
use Rattle.format.specs.Inner.Names.{fault_in}
use Rattle.format.proofs.FaultLaws.{then-clean}
use Rattle.format.proofs.HeadLaws.{NamesKept, names-kept}
use Rattle.format.proofs.NameLaws.{clean_unique}
use Rattle.format.proofs.RuleLaws.{names_rules}

-- ---- the names of a line that keeps its rules are all different
abbrev pub Unique : List (List ℕ) → Type 0
Unique ns = (i j : ℕ) → i < length ns → j < length ns → get_or ns i [] ≡ get_or ns j [] → i ≡ j

names_fresh : (c b : ℕ) (earlier ts : List (List ℕ)) → name_fault c earlier ts ≡ clean → fault_in earlier (map trim ts) b ≡ None
unfolding name_fault name_rules first_of fault_in
names_fresh c b earlier [] e = refl
names_fresh c b earlier (t ∷ ts) e = go (is_name (trim t)) (member (trim t) earlier) (names_fresh (c + length t + 1) (suc b) (earlier ++ trim t ∷ []) ts) (then-clean (unless (ltb (length earlier) 256) 11 c) _ e).1
  where
    go : (p q : Bool) → (name_fault (c + length t + 1) (earlier ++ trim t ∷ []) ts ≡ clean → fault_in (earlier ++ trim t ∷ []) (map trim ts) (suc b) ≡ None)
        → ((unless p 10 c) then (unless (not q) 9 c) then name_fault (c + length t + 1) (earlier ++ trim t ∷ []) ts) ≡ clean
        → cond p (cond q (Some (Repeated b)) (fault_in (earlier ++ trim t ∷ []) (map trim ts) (suc b))) (Some (Bad b)) ≡ None
    go false q ih e = let z : ◌≡◌ {A = ℕ} 0 1 = cc in absurd (omega arith)
    go true true ih e = let z : ◌≡◌ {A = ℕ} 0 1 = cc in absurd (omega arith)
    go true false ih e = ih e

names_unique : (k : Sort) (x : List ℕ) → names_line_fault k x ≡ clean → Unique (names_of x)
names_unique k x e i j a b q = go (eqb i j) refl
  where
    first-clean : fault_in [] (names_of x) 0 ≡ None
    first-clean = names_fresh 1 0 [] (pieces 44 x) (then-clean (name_fault 1 [] (pieces 44 x)) (flag_fault 1 (names_of x) (pieces 44 x) then unless (has_all (required_names k) (names_of x)) 13 1) (sym (names_rules k x) ∙ e)).0

    go : (z : Bool) → eqb i j ≡ z → i ≡ j
    go true z = eqb-true i j z
    go false z = absurd (clean_unique (names_of x) first-clean i j (eqb-false i j z) a b q)

pub accepted_unique : (f : List ℕ) (t : Table) (n : ℕ) → outcome_of f ≡ accepted t n → Unique t.names
accepted_unique f t n e =
    let k : NamesKept t (get_or (pieces 10 f) (t.line - 2) []) = names-kept f t n e in
    subst Unique (sym k.names_are) (names_unique t.sort (get_or (pieces 10 f) (t.line - 2) []) k.rules)
