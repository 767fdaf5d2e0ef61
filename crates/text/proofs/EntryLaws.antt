-- A table of names of 16 bytes each: its entries, and the search for a name by an index.
use Prim.Native.Nat.{ℕ, suc, ◌+◌, ◌-◌, ◌*◌, ◌/◌, ◌≤◌, ◌<◌}
use mathlib.Core.Path.{◌≡◌, refl, sym, ◌∙◌}
use mathlib.Core.List.{List, [], ◌∷◌}
use mathlib.Core.Bool.{Bool, true, false, cond, not, ◌||◌, false≢true}
use native.Mathlib.Numerals.{add-one}
use native.Mathlib.Nat.{sub-zero}
use native.Mathlib.Omega.{arith}
use lib.ListN.{length, get_or, drop, length-drop, drop_of_length-le, get_or-eq_default}
use lib.Dec.{eqb}
use lib.Seq.{drop-cons, get_or-take, get_or-drop, length-take-le}
use borrow.Author.Tests.{eqb-true, eqb-false}
use Rattle.std.proofs.Common.{Some, None}
use Rattle.line_bytes.specs.Bytes.{equal}
use Rattle.line_bytes.specs.Cells.{first_piece}
use Rattle.text.specs.Catalogue.{entry_at, entry_name, search_from, look_up, kind_in}
use Rattle.line_bytes.proofs.EqualLaws.{equal_lengths}

-- ---- one entry
pub entry_length : (t : List ℕ) (k : ℕ) → 16 * k + 16 ≤ length t → length (entry_at t k) ≡ 16
entry_length t k h = length-take-le 16 (drop (16 * k) t) (rw length-drop (omega arith))

pub entry_byte : (t : List ℕ) (k j : ℕ) → j < 16 → get_or (entry_at t k) j 0 ≡ get_or t (16 * k + j) 0
entry_byte t k j h = rw (get_or-take 16 (drop (16 * k) t) j 0 h, get_or-drop)

-- ---- the bytes before the first zero
name-short : (e : List ℕ) → length (first_piece 0 e) ≤ length e
unfolding first_piece
name-short [] = omega arith
name-short (x ∷ xs) = go (eqb x 0) (name-short xs)
  where
    go : (b : Bool) → length (first_piece 0 xs) ≤ length xs → length (cond b [] (x ∷ first_piece 0 xs)) ≤ suc (length xs)
    go true h = omega arith
    go false h = omega arith

-- a byte of the entry and one of the name: they differ, or the name's is zero and ends no entry's name
abbrev parts : ℕ → ℕ → Bool
parts x y = not (eqb x y) || eqb y 0

module _ (x y : ℕ) (xs ys : List ℕ) where
  parted : parts x y ≡ true → equal (first_piece 0 (x ∷ xs)) (y ∷ ys) ≡ false
  unfolding first_piece equal
  parted h = go (eqb x 0) (eqb x y) (eqb y 0) refl refl refl h
    where
      go : (a b d : Bool) → eqb x 0 ≡ a → eqb x y ≡ b → eqb y 0 ≡ d → (not b || d) ≡ true → equal (cond a [] (x ∷ first_piece 0 xs)) (y ∷ ys) ≡ false
      go true b d p q r h = refl
      go false true true p q r h = absurd (eqb-false x 0 p (eqb-true x y q ∙ eqb-true y 0 r))
      go false true false p q r h = absurd (false≢true h)
      go false false d p q r h = rw q

  joined : parts x y ≡ false → equal (first_piece 0 (x ∷ xs)) (y ∷ ys) ≡ equal (first_piece 0 xs) ys
  unfolding first_piece equal
  joined h = go (eqb x 0) (eqb x y) (eqb y 0) refl refl refl h
    where
      go : (a b d : Bool) → eqb x 0 ≡ a → eqb x y ≡ b → eqb y 0 ≡ d → (not b || d) ≡ false → equal (cond a [] (x ∷ first_piece 0 xs)) (y ∷ ys) ≡ equal (first_piece 0 xs) ys
      go true true d p q r h = absurd (eqb-false y 0 (r ∙ h) (sym (eqb-true x y q) ∙ eqb-true x 0 p))
      go false true d p q r h = rw q
      go a false d p q r h = absurd (false≢true (sym h))

-- what is left at j of the entry's name and of the name is the same
abbrev pub same_from : List ℕ → List ℕ → ℕ → ℕ → Bool
same_from t n k j = equal (first_piece 0 (drop j (entry_at t k))) (drop j n)

module _ (t n : List ℕ) (k : ℕ) (h : 16 * k + 16 ≤ length t) where
  entry_from : (j : ℕ) → j < 16 → drop j (entry_at t k) ≡ get_or t (16 * k + j) 0 ∷ drop (suc j) (entry_at t k)
  entry_from j i = rw (sym (entry_byte t k j i)) (drop-cons (entry_at t k) j 0 (rw (entry_length t k h) i))

  pub entry-long : 16 < length n → equal (entry_name t k) n ≡ false
  entry-long l = equal_lengths (entry_name t k) n (λ e. omega (arith, e, name-short (entry_at t k), entry_length t k h))

  module _ (j : ℕ) where
    module _ (i : j < 16) where
      module _ (l : j < length n) where
        pub entry-stop : parts (get_or t (16 * k + j) 0) (get_or n j 0) ≡ true → same_from t n k j ≡ false
        entry-stop p = rw (entry_from j i, drop-cons n j 0 l) (parted _ _ _ _ p)

        pub entry-step : parts (get_or t (16 * k + j) 0) (get_or n j 0) ≡ false → same_from t n k j ≡ same_from t n k (j + 1)
        entry-step p = rw (add-one j, entry_from j i, drop-cons n j 0 l) (joined _ _ _ _ p)

      pub entry-ends : length n ≤ j → same_from t n k j ≡ eqb (get_or t (16 * k + j) 0) 0
      unfolding first_piece equal
      entry-ends l = rw (entry_from j i, drop_of_length-le n l) (go (eqb (get_or t (16 * k + j) 0) 0))
        where
          go : (b : Bool) → equal (cond b [] (get_or t (16 * k + j) 0 ∷ first_piece 0 (drop (suc j) (entry_at t k)))) [] ≡ b
          go true = refl
          go false = refl

    pub entry_full : 16 ≤ j → length n ≤ j → same_from t n k j ≡ true
    unfolding first_piece equal
    entry_full i l = rw (drop_of_length-le (entry_at t k) {i = j} (rw (entry_length t k h) i), drop_of_length-le n l)

-- ---- the search
pub search-start : (t name : List ℕ) → look_up t name ≡ search_from t name (length t / 16 - 0) 0
unfolding look_up
search-start t name = rw sub-zero

module _ (t name : List ℕ) (k : ℕ) where
  pub search-end : length t / 16 ≤ k → search_from t name (length t / 16 - k) k ≡ None
  unfolding search_from
  search-end h = let e : length t / 16 - k ≡ 0 = omega arith in rw e

  module _ (h : k < length t / 16) where
    more : length t / 16 - k ≡ suc (length t / 16 - (k + 1))
    more = omega arith

    pub search-stop : equal (entry_name t k) name ≡ true → search_from t name (length t / 16 - k) k ≡ Some k
    unfolding search_from
    search-stop e = rw more (rw e)

    pub search-step : equal (entry_name t k) name ≡ false → search_from t name (length t / 16 - k) k ≡ search_from t name (length t / 16 - (k + 1)) (k + 1)
    unfolding search_from
    search-step e = rw (more, add-one k) (rw e)

-- ---- the kind that the search gives
module _ (t ks name : List ℕ) where
  pub kind-nowhere : look_up t name ≡ None → 11 ≡ kind_in t ks name
  unfolding kind_in
  kind-nowhere e = rw e

  pub kind_at_lem : (k : ℕ) → look_up t name ≡ Some k → get_or ks k 11 ≡ kind_in t ks name
  unfolding kind_in
  kind_at_lem k e = rw e

  pub kind_past : (k : ℕ) → look_up t name ≡ Some k → length ks ≤ k → 11 ≡ kind_in t ks name
  unfolding kind_in
  kind_past k e h = rw e (sym (get_or-eq_default ks 11 h))
