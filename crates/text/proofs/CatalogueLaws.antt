-- The catalogue: its entries rise, so no two are the same; each listed name is found with its kind, and no other name is found.
use Prim.Native.Nat.{ℕ, zero, suc, ◌+◌, ◌-◌, ◌*◌, ◌/◌, ◌<◌}
use mathlib.Core.Path.{◌≡◌, refl, sym, ap, subst, ◌∙◌}
use mathlib.Core.Logic.{inl, inr}
use mathlib.Core.List.{List, [], ◌∷◌, map}
use mathlib.Core.Bool.{Bool, true, false, cond, ◌&&◌, ◌||◌, false≢true, and-eq-true_iff}
use native.Mathlib.Nat.{not-suc-le-zero}
use native.Mathlib.Omega.{arith}
use lib.ListN.{length, get_or, drop}
use lib.Seq.{drop-drop}
use lib.Dec.{ltb}
use borrow.Author.Tests.{ltb-true, ltb-false}
use Rattle.std.specs.Prelude.{Option, Some, None}
use Rattle.line_bytes.specs.Bytes.{equal}
use Rattle.line_bytes.specs.Cells.{first_piece}
use Rattle.text.specs.Catalogue.{Listed, listed, base256, insert, ordered, flat, names, kinds, entry_at, entry_name, search_from, look_up, entry_kind, kind_in, IsListed, KindsListed}
use Rattle.line_bytes.proofs.EqualLaws.{equal-same}
use Rattle.line_bytes.proofs.CellLaws.{both_true}

-- an entry as a number
abbrev value_at : List ℕ → ℕ → ℕ
value_at t k = base256 0 (entry_at t k)

-- of n + 1 entries each but the last is below the next
unfoldable rises : ℕ → List ℕ → Bool
rises zero t = true
rises (suc n) t = ltb (value_at t 0) (value_at t 1) && rises n (drop 16 t)

-- the test, computed over the whole table
names_rise : rises (length names / 16 - 1) names ≡ true
unfolding rises names flat ordered listed insert base256
names_rise = refl

shift : (t : List ℕ) (k : ℕ) → entry_at (drop 16 t) k ≡ entry_at t (suc k)
shift t k = let e : 16 + 16 * k ≡ 16 * suc k = omega arith in rw (drop-drop, e)

next : (n : ℕ) (t : List ℕ) → rises n t ≡ true → (k : ℕ) → k < n → value_at t k < value_at t (suc k)
unfolding rises
next zero t e k h = absurd (not-suc-le-zero h)
next (suc n) t e zero h = ltb-true _ _ ((and-eq-true_iff (ltb (value_at t 0) (value_at t 1)) (rises n (drop 16 t))).0 e).0
next (suc n) t e (suc k) h =
    let r = ((and-eq-true_iff (ltb (value_at t 0) (value_at t 1)) (rises n (drop 16 t))).0 e).1 in
    rw (shift t k, shift t (suc k)) at (next n (drop 16 t) r k (omega arith))

later : (d j : ℕ) → suc (j + d) < length names / 16 → value_at names j < value_at names (suc (j + d))
later zero j h = let e : j + 0 ≡ j = omega arith in rw e (next _ names names_rise j (omega arith))
later (suc d) j h =
    let e : j + suc d ≡ suc (j + d) = omega arith in
    let a = later d j (omega arith) in
    let b = next _ names names_rise (suc (j + d)) (omega arith) in
    rw e (omega arith)

-- an earlier entry is the smaller
pub names_rising : (j k : ℕ) → j < k → k < length names / 16 → base256 0 (entry_at names j) < base256 0 (entry_at names k)
names_rising j k h l = let e : suc (j + (k - suc j)) ≡ k = omega arith in rw e at (later (k - suc j) j (rw e l))

same_place : (j k : ℕ) → j < length names / 16 → k < length names / 16 → value_at names j ≡ value_at names k → (t u : Bool) → ltb j k ≡ t → ltb k j ≡ u → j ≡ k
same_place j k h l e true u p q = absurd (let r = names_rising j k (ltb-true j k p) l in omega arith)
same_place j k h l e false true p q = absurd (let r = names_rising k j (ltb-true k j q) h in omega arith)
same_place j k h l e false false p q = omega (arith, ltb-false j k p, ltb-false k j q)

-- no two entries are the same
pub names_differ : (j k : ℕ) → j < length names / 16 → k < length names / 16 → entry_at names j ≡ entry_at names k → j ≡ k
names_differ j k h l e = same_place j k h l (ap (base256 0) e) (ltb j k) (ltb k j) refl refl

abbrev pub is_at : Option ℕ → Bool
is_at (Some k) = true
is_at None = false

-- ---- each listed name stands in the table, and is found with its kind
pub listed_stand : map (λ (x : Listed). is_at (look_up names x.name)) listed ≡ map (λ (x : Listed). true) listed
unfolding look_up search_from first_piece equal names flat ordered listed insert base256
listed_stand = refl

pub listed_found : map (λ (x : Listed). kind_in names kinds x.name) listed ≡ map (λ (x : Listed). x.kind) listed
unfolding kind_in look_up search_from first_piece equal names kinds flat ordered listed insert base256
listed_found = refl

known_each : (xs : List Listed) → map (λ (x : Listed). kind_in names kinds x.name) xs ≡ map (λ (x : Listed). x.kind) xs → (n : List ℕ) (k : ℕ) → IsListed xs n k → kind_in names kinds n ≡ k
known_each [] e n k h = absurd h
known_each (x ∷ xs) e n k (inl h) = ap (kind_in names kinds) (sym h.0) ∙ ap (λ (l : List ℕ). get_or l 0 0) e ∙ h.1
known_each (x ∷ xs) e n k (inr h) = known_each xs (ap (λ (l : List ℕ). drop 1 l) e) n k h

-- ---- each entry has a listed name, so that no other name is found
unfoldable has : List Listed → List ℕ → Bool
has [] n = false
has (x ∷ xs) n = equal x.name n || has xs n

unfoldable all_from : ℕ → ℕ → Bool
all_from zero k = true
all_from (suc n) k = has listed (entry_name names k) && all_from n (suc k)

-- the test, computed over the whole table
entries-listed : all_from (length names / 16) 0 ≡ true
unfolding all_from has first_piece equal names flat ordered listed insert base256
entries-listed = refl

has_listed : (xs : List Listed) (n : List ℕ) → has xs n ≡ true → (k : ℕ) × IsListed xs n k
unfolding has
has_listed [] n e = absurd (false≢true e)
has_listed (x ∷ xs) n e = go (equal x.name n) refl (has_listed xs n) e
  where
    go : (b : Bool) → equal x.name n ≡ b → (has xs n ≡ true → (k : ℕ) × IsListed xs n k) → (b || has xs n) ≡ true → (k : ℕ) × IsListed (x ∷ xs) n k
    go true p f e = (x.kind, inl (equal-same x.name n p, refl))
    go false p f e = let w = f e in (w.0, inr w.1)

none_found : (n : List ℕ) → ((kind : ℕ) → IsListed listed n kind → ⊥) → (m k : ℕ) → all_from m k ≡ true → search_from names n m k ≡ None
unfolding search_from all_from
none_found n other zero k e = refl
none_found n other (suc m) k e =
    let w = both_true (has listed (entry_name names k)) (all_from m (suc k)) e in
    go (equal (entry_name names k) n) refl w.0 (none_found n other m (suc k) w.1)
  where
    go : (b : Bool) → equal (entry_name names k) n ≡ b → has listed (entry_name names k) ≡ true → search_from names n m (suc k) ≡ None
        → cond b (Some k) (search_from names n m (suc k)) ≡ None
    go true p h r = let w = has_listed listed n (subst (λ (x : List ℕ). has listed x ≡ true) (equal-same (entry_name names k) n p) h) in absurd (other w.0 w.1)
    go false p h r = r

pub kinds-listed : KindsListed
unfolding kind_in look_up
kinds-listed = record {
  known = known_each listed listed_found;
  other = λ n other. ap (entry_kind kinds) (none_found n other (length names / 16) 0 entries-listed);
}
