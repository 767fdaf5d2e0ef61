-- Names by place, the place of a name, and the first fault of a list of names.
use Prim.Native.Nat.{ℕ, min, zero, suc, ◌+◌, ◌≤◌, ◌<◌}
use mathlib.Core.Path.{◌≡◌, refl, sym, ap, ◌∙◌}
use mathlib.Core.Logic.{◌↔◌, ⊎_elim}
use mathlib.Core.List.{List, [], ◌∷◌, ◌++◌}
use mathlib.Core.Bool.{Bool, true, false, cond, not, ◌&&◌, ◌||◌, true≢false}
use native.Mathlib.Numerals.{add-one}
use native.Mathlib.Nat.{not-suc-le-zero, le_of_suc-le-suc, le_refl, eq-or-lt_of_le}
use native.Mathlib.Omega.{arith}
use lib.ListN.{length, get_or, take, drop, set, drop_of_length-le, length-map}
use lib.Seq.{slice, take-suc, drop-cons}
use lib.Dec.{ltb, leb, leb-suc-suc}
use borrow.Author.Tests.{lt-ltb, le-ltb, ltb-true, ltb-false, lt-leb, leb-true, leb-false}
use Rattle.std.specs.Prelude.{Option, Some, None, is_some, position}
use Rattle.std.specs.List.{position_or_len, list_all}
use Rattle.std.proofs.lemmas.List.Recursion.{is_position_or_len}
use Rattle.line_bytes.specs.declared.Span.{Span}
use Rattle.line_bytes.specs.Bytes.{equal}
use Rattle.line_bytes.specs.Names.{is_name}
use Rattle.line_bytes.specs.Spaces.{trim_span, indent, trim}
use Rattle.line_bytes.proofs.EqualLaws.{equal-same, equal_refl}
use Rattle.format.specs.declared.NameFault.{NameFault}
use Rattle.format.specs.declared.NameFault.TheVariants.{Bad, Repeated}
use Rattle.format.specs.Faults.{member, has_all, place_in}
use Rattle.format.specs.Inner.Names.{fault_in, text_in, names_at}

-- ---- names by place
pub names-length : (s : List ℕ) (ps : List Span) → length (names_at s ps) ≡ length ps
names-length s ps = length-map ps (λ (p : Span). text_in s p.start (p.start + p.len))

none-taken : (s : List ℕ) → take 0 (drop 0 s) ≡ []
none-taken [] = refl
none-taken (x ∷ xs) = refl

-- a place beyond the text has the empty text, however far it goes
text_far : (s : List ℕ) (a e : ℕ) → length s < e → text_in s a e ≡ []
unfolding trim_span
text_far s a e h = rw (lt-leb e (length s) h) (go (leb a e))
  where
    go : (b : Bool) → take (cond {A = Span} (b && false) (record { start = a + indent (slice a e s); len = length (trim (slice a e s)) }) (record { start = 0; len = 0 })).len (drop (cond {A = Span} (b && false) (record { start = a + indent (slice a e s); len = length (trim (slice a e s)) }) (record { start = 0; len = 0 })).start s) ≡ []
    go true = none-taken s
    go false = none-taken s

pub text-most : (s : List ℕ) (a e m : ℕ) → length s < m → text_in s a (min e m) ≡ text_in s a e
text-most s a e m h = go (leb e m) refl
  where
    go : (b : Bool) → leb e m ≡ b → text_in s a (min e m) ≡ text_in s a e
    go true q = let z : min e m ≡ e = omega (arith, leb-true e m q) in rw z
    go false q = text_far s a (min e m) (omega (arith, leb-false e m q)) ∙ sym (text_far s a e (omega (arith, leb-false e m q)))

pub names-take : (s : List ℕ) (n : ℕ) (ps : List Span) → names_at s (take n ps) ≡ take n (names_at s ps)
names-take s zero [] = refl
names-take s zero (p ∷ ps) = refl
names-take s (suc n) [] = refl
names-take s (suc n) (p ∷ ps) = ap (◌∷◌ (text_in s p.start (p.start + p.len))) (names-take s n ps)

-- one more name
names-set_suc : (s : List ℕ) (n : ℕ) (ps : List Span) (p : Span) → n < length ps
    → names_at s (take (suc n) (set ps n p)) ≡ names_at s (take n ps) ++ text_in s p.start (p.start + p.len) ∷ []
names-set_suc s n [] p h = absurd (not-suc-le-zero h)
names-set_suc s zero (x ∷ ps) p h = refl
names-set_suc s (suc n) (x ∷ ps) p h = ap (◌∷◌ (text_in s x.start (x.start + x.len))) (names-set_suc s n ps p (le_of_suc-le-suc h))

pub names-set : (s : List ℕ) (n : ℕ) (ps : List Span) (p : Span) → n < length ps
    → names_at s (take (n + 1) (set ps n p)) ≡ names_at s (take n ps) ++ text_in s p.start (p.start + p.len) ∷ []
names-set s n ps p h = rw (add-one n) (names-set_suc s n ps p h)

-- ---- the place of a name
pub place-within : (n : List ℕ) (ns : List (List ℕ)) → place_in n ns ≤ length ns
unfolding place_in
place-within n [] = le_refl 0
place-within n (x ∷ xs) = go (equal x n) (place-within n xs)
  where
    go : (b : Bool) → place_in n xs ≤ length xs → cond b 0 (suc (place_in n xs)) ≤ suc (length xs)
    go true h = omega arith
    go false h = omega arith

-- a name is found just where it is one of the list
pub place-member : (n : List ℕ) (ns : List (List ℕ)) → ltb (place_in n ns) (length ns) ≡ member n ns
unfolding place_in member
place-member n [] = le-ltb 0 0 (le_refl 0)
place-member n (x ∷ xs) = go (equal x n) (member n xs) (place-member n xs)
  where
    go : (b m : Bool) → ltb (place_in n xs) (length xs) ≡ m → ltb (cond b 0 (suc (place_in n xs))) (suc (length xs)) ≡ (b || m)
    go true m e = lt-ltb 0 (suc (length xs)) (omega arith)
    go false m e = leb-suc-suc (suc (place_in n xs)) (length xs) ∙ e

pub place_found : (n : List ℕ) (ns : List (List ℕ)) → (place_in n ns < length ns) ↔ (member n ns ≡ true)
place_found n ns = (λ h. sym (place-member n ns) ∙ lt-ltb _ _ h, λ e. ltb-true (place_in n ns) (length ns) (place-member n ns ∙ e))

-- the search by place is that among the names
pub names-position : (n s : List ℕ) (ps : List Span) → position (λ (p : Span). equal (text_in s p.start (p.start + p.len)) n) ps ≡ position (λ x. equal x n) (names_at s ps)
names-position n s ps = (λ i. cond (ltb (first ps i) (sym (names-length s ps) i)) (Some (first ps i)) None)
  where
    first : (ps : List Span) → position_or_len (λ (p : Span). equal (text_in s p.start (p.start + p.len)) n) ps ≡ position_or_len (λ x. equal x n) (names_at s ps)
    first [] = refl
    first (p ∷ ps) = ap (λ (k : ℕ). cond (not (equal (text_in s p.start (p.start + p.len)) n)) (1 + k) 0) (first ps)

-- the search for it finds that place, where there is one
pub position-place : (n : List ℕ) (ns : List (List ℕ)) → position (λ x. equal x n) ns ≡ cond (ltb (place_in n ns) (length ns)) (Some (place_in n ns)) None
unfolding place_in
position-place n ns = ap (λ (k : ℕ). cond (ltb k (length ns)) (Some k) None) (sym (is_position_or_len (place_in n) (λ x. equal x n) none more ns))
  where
    none : place_in n [] ≡ 0
    none = refl

    more : (x : List ℕ) (xs : List (List ℕ)) → place_in n (x ∷ xs) ≡ cond (equal x n) 0 (1 + place_in n xs)
    more x xs = ap (cond (equal x n) 0) (omega arith)

pub position-member : (n : List ℕ) (ns : List (List ℕ)) → is_some (position (λ x. equal x n) ns) ≡ member n ns
position-member n ns = ap is_some (position-place n ns) ∙ go (ltb (place_in n ns) (length ns)) ∙ place-member n ns
  where
    go : (b : Bool) → is_some (cond b (Some (place_in n ns)) None) ≡ b
    go true = refl
    go false = refl

-- what stands there
pub place-name : (n : List ℕ) (ns : List (List ℕ)) → place_in n ns < length ns → get_or ns (place_in n ns) [] ≡ n
unfolding place_in
place-name n [] h = absurd (not-suc-le-zero h)
place-name n (x ∷ xs) h = go (equal x n) refl (place-name n xs) h
  where
    go : (b : Bool) → equal x n ≡ b → (place_in n xs < length xs → get_or xs (place_in n xs) [] ≡ n)
        → cond b 0 (suc (place_in n xs)) < suc (length xs) → get_or (x ∷ xs) (cond b 0 (suc (place_in n xs))) [] ≡ n
    go true e f h = equal-same x n e
    go false e f h = f (le_of_suc-le-suc h)

-- ---- membership
pub member-none : (ns : List (List ℕ)) (x : List ℕ) → member x (take 0 ns) ≡ false
unfolding member
member-none [] x = refl
member-none (n ∷ ns) x = refl

member_snoc : (x y : List ℕ) (ys : List (List ℕ)) → member x ys ≡ false → equal y x ≡ false → member x (ys ++ y ∷ []) ≡ false
unfolding member
member_snoc x y [] q f = rw f
member_snoc x y (z ∷ zs) q f = go (equal z x) q (member_snoc x y zs)
  where
    go : (t : Bool) → (t || member x zs) ≡ false → (member x zs ≡ false → equal y x ≡ false → member x (zs ++ y ∷ []) ≡ false) → (t || member x (zs ++ y ∷ [])) ≡ false
    go true q g = q
    go false q g = g q f

pub member-more : (ns : List (List ℕ)) (x : List ℕ) (i : ℕ) → i < length ns → member x (take i ns) ≡ false → equal (get_or ns i []) x ≡ false → member x (take (i + 1) ns) ≡ false
member-more ns x i h q f = rw (add-one i, take-suc ns i [] h) (member_snoc x (get_or ns i []) (take i ns) q f)

pub member_at : (ns : List (List ℕ)) (x : List ℕ) (i j : ℕ) → i < j → i < length ns → equal (get_or ns i []) x ≡ true → member x (take j ns) ≡ true
unfolding member
member_at [] x i j h k q = absurd (not-suc-le-zero k)
member_at (n ∷ ns) x i zero h k q = absurd (not-suc-le-zero h)
member_at (n ∷ ns) x zero (suc j) h k q = rw q
member_at (n ∷ ns) x (suc i) (suc j) h k q = go (equal n x) (member_at ns x i j (le_of_suc-le-suc h) (le_of_suc-le-suc k) q)
  where
    go : (t : Bool) → member x (take j ns) ≡ true → (t || member x (take j ns)) ≡ true
    go true q = refl
    go false q = q

-- ---- the first fault, from name k on
abbrev pub fault_from : List (List ℕ) → ℕ → Option NameFault
fault_from ns k = fault_in (take k ns) (drop k ns) k

pub from_first : (ns : List (List ℕ)) → fault_in [] ns 0 ≡ fault_from ns 0
from_first [] = refl
from_first (x ∷ xs) = refl

module _ (ns : List (List ℕ)) (k : ℕ) where
  pub fault-end : length ns ≤ k → fault_from ns k ≡ None
  unfolding fault_in
  fault-end h = rw (drop_of_length-le ns h)

  module _ (h : k < length ns) where
    pub fault_bad : is_name (get_or ns k []) ≡ false → fault_from ns k ≡ Some (Bad k)
    unfolding fault_in
    fault_bad q = rw (drop-cons ns k [] h) (rw q)

    pub fault_repeated : is_name (get_or ns k []) ≡ true → member (get_or ns k []) (take k ns) ≡ true → fault_from ns k ≡ Some (Repeated k)
    unfolding fault_in
    fault_repeated q m = rw (drop-cons ns k [] h) (rw (q, m))

    pub fault-step : is_name (get_or ns k []) ≡ true → member (get_or ns k []) (take k ns) ≡ false → fault_from ns k ≡ fault_from ns (k + 1)
    unfolding fault_in
    fault-step q m = rw (add-one k, take-suc ns k [] h) (rw (drop-cons ns k [] h) (rw (q, m)))

-- where no name has a fault, each differs from those before it
clean_step : (ns : List (List ℕ)) (k : ℕ) → k < length ns → fault_from ns k ≡ None → (member (get_or ns k []) (take k ns) ≡ false) × (fault_from ns (k + 1) ≡ None)
clean_step ns k h e = go (is_name (get_or ns k [])) (member (get_or ns k []) (take k ns)) refl refl
  where
    go : (a b : Bool) → is_name (get_or ns k []) ≡ a → member (get_or ns k []) (take k ns) ≡ b → (b ≡ false) × (fault_from ns (k + 1) ≡ None)
    go false b p q = let w : Some (Bad k) ≡ None = sym (fault_bad ns k h p) ∙ e in let z : ◌≡◌ {A = ℕ} 0 1 = cc in absurd (omega arith)
    go true true p q = let w : Some (Repeated k) ≡ None = sym (fault_repeated ns k h p q) ∙ e in let z : ◌≡◌ {A = ℕ} 0 1 = cc in absurd (omega arith)
    go true false p q = (refl, sym (fault-step ns k h p q) ∙ e)

clean-on : (ns : List (List ℕ)) (k : ℕ) → k ≤ length ns → fault_from ns 0 ≡ None → fault_from ns k ≡ None
clean-on ns zero h e = e
clean-on ns (suc k) h e = rw add-one at (clean_step ns k h (clean-on ns k (omega arith) e)).1

module _ (ns : List (List ℕ)) (e : fault_in [] ns 0 ≡ None) where
  pub clean_fresh : (k : ℕ) → k < length ns → member (get_or ns k []) (take k ns) ≡ false
  clean_fresh k h = (clean_step ns k h (clean-on ns k (omega arith) (sym (from_first ns) ∙ e))).0

  clean-before : (i j : ℕ) → i < j → j < length ns → get_or ns i [] ≡ get_or ns j [] → ⊥
  clean-before i j h l q = true≢false (sym (member_at ns (get_or ns j []) i j h (omega arith) (rw q (equal_refl (get_or ns j [])))) ∙ clean_fresh j l)

  pub clean_unique : (i j : ℕ) → (i ≡ j → ⊥) → i < length ns → j < length ns → get_or ns i [] ≡ get_or ns j [] → ⊥
  clean_unique i j f a b q = go (ltb i j) refl
    where
      go : (t : Bool) → ltb i j ≡ t → ⊥
      go true z = clean-before i j (ltb-true i j z) b q
      go false z = ⊎_elim (λ (x : j ≡ i). f (sym x)) (λ (x : j < i). clean-before j i x a (sym q)) (eq-or-lt_of_le (ltb-false i j z))

-- the name that has the fault is one of the list
abbrev pub Within : Option NameFault → ℕ → Type 0
Within None n = 0 ≤ n
Within (Some (Bad k)) n = k < n
Within (Some (Repeated k)) n = k < n

pub fault-within : (earlier xs : List (List ℕ)) (b : ℕ) → Within (fault_in earlier xs b) (b + length xs)
unfolding fault_in
fault-within earlier [] b = omega arith
fault-within earlier (x ∷ xs) b = go (is_name x) (member x earlier) (fault-within (earlier ++ x ∷ []) xs (suc b))
  where
    go : (p q : Bool) → Within (fault_in (earlier ++ x ∷ []) xs (suc b)) (suc b + length xs)
        → Within (cond p (cond q (Some (Repeated b)) (fault_in (earlier ++ x ∷ []) xs (suc b))) (Some (Bad b))) (b + suc (length xs))
    go false q h = omega arith
    go true true h = omega arith
    go true false h = let z : suc b + length xs ≡ b + suc (length xs) = omega arith in rw z at h

-- all of some names are among the others
pub all_found : (ks xs : List (List ℕ)) → list_all (λ k. is_some (position (λ x. equal x k) xs)) ks ≡ has_all ks xs
unfolding has_all
all_found [] xs = refl
all_found (k ∷ ks) xs = λ i. position-member k xs i && all_found ks xs i
