-- The profiles of an accepted file part its rows.
use Prim.Native.Nat.{ℕ, zero, suc, ◌+◌, ◌-◌, ◌≤◌, ◌<◌}
use mathlib.Core.Path.{◌≡◌, refl, sym, ap, subst, ◌∙◌}
use mathlib.Core.List.{List, [], ◌∷◌, map}
use mathlib.Core.Bool.{Bool, true, false}
use native.Mathlib.Omega.{arith}
use lib.ListN.{length, get_or, length-map, get_or-map}
use lib.Dec.{leb}
use borrow.Author.Tests.{leb-true, leb-false}
use Rattle.format.specs.declared.Checked.{Checked}
use Rattle.format.specs.declared.ProfileRecord.{ProfileRecord}
use Rattle.format.specs.Columns.{Sort, bottle, ctd, kinds_of}
use Rattle.format.specs.Places.{Table, accepted, outcome_of}
use Rattle.format.specs.Profiles.{Key, key_of, labels, run_count}
use Rattle.format.specs.Answers.{rows_in, row_cells, profiles_by, checked_by, checked_of}
use Rattle.format.specs.Records.{labels_by, profile_rows, no_profile, record_of, profile_by, profile_of}
use Rattle.laws.specs.Promises.{row_key, InProfile, Profiled, ProfilesPart}
use Rattle.format.proofs.AcceptLaws.{rows-some}
use Rattle.laws.proofs.AskedLaws.{rows-many, row_in_lem}
use Rattle.laws.proofs.LabelLaws.{Climbs, top_of, below, many, up_from, below_next, below_most, below-low, many-low, many-high, many-some, below_all, label_from, label-to, label-below, place-below, rows_up, up-length, labels_climb, labels_top, labels_length, keys-inside, keys-border}

-- ---- the profile of each row, of n rows and so many profiles
record Labelled (ls : List ℕ) (n count : ℕ) : Type 0 where
  low : Climbs 1 ls
  high : Climbs 0 ls
  top : top_of 0 ls ≡ count
  long : length ls ≡ n

ones_climb : (ks : List Key) → Climbs 1 (map (λ (k : Key). 1) ks)
ones_climb [] = tt
ones_climb (k ∷ ks) = (omega arith, omega arith, ones_climb ks)

ones_top : (ks : List Key) → top_of 1 (map (λ (k : Key). 1) ks) ≡ 1
unfolding top_of
ones_top [] = refl
ones_top (k ∷ ks) = ones_top ks

labelled : (s : Sort) (ks : List Key) → 1 ≤ length ks → Labelled (labels_by s ks) (length ks) (profiles_by s (run_count ks))
unfolding labels run_count top_of
labelled s [] h = absurd (omega arith)
labelled bottle (k ∷ ks) h = record {
  low = (omega arith, omega arith, labels_climb k 1 ks);
  high = (omega arith, omega arith, labels_climb k 1 ks);
  top = labels_top k 1 ks;
  long = ap suc (labels_length k 1 ks);
}
labelled ctd (k ∷ ks) h = record {
  low = (omega arith, omega arith, ones_climb ks);
  high = (omega arith, omega arith, ones_climb ks);
  top = ones_top ks;
  long = ap suc (length-map ks (λ (k : Key). 1));
}

-- ---- the record of a profile of m rows from a on
record Shown (p : ProfileRecord) (a m : ℕ) : Type 0 where
  number : p.number ≡ 0
  line : p.line ≡ 0
  column : p.column ≡ 0
  first : p.first ≡ a
  rows : p.rows ≡ m

record-none : (t : Table) (f : List ℕ) (a m : ℕ) → m ≡ 0 → record_of t f (up_from a m) ≡ no_profile 21 0 0
unfolding up_from
record-none t f a zero h = refl
record-none t f a (suc m) h = absurd (omega arith)

record-some : (t : Table) (f : List ℕ) (a m : ℕ) → 1 ≤ m → Shown (record_of t f (up_from a m)) a m
unfolding up_from
record-some t f a zero h = absurd (omega arith)
record-some t f a (suc m) h = record { number = refl; line = refl; column = refl; first = refl; rows = ap suc (up-length (a + 1) m) }

-- ---- keys by rows
bottle-inside : (x₀ : Key) (ks : List Key) (i j : ℕ) → i < length ks → j < length ks → get_or (labels ks) i 0 ≡ get_or (labels ks) j 0 → get_or ks i x₀ ≡ get_or ks j x₀
unfolding labels
bottle-inside x₀ [] i j h g e = absurd (omega arith)
bottle-inside x₀ (k ∷ ks) i j h g e = go (leb i j) refl
  where
    go : (b : Bool) → leb i j ≡ b → get_or (k ∷ ks) i x₀ ≡ get_or (k ∷ ks) j x₀
    go true q = keys-inside x₀ k 1 ks i j (leb-true i j q) g e
    go false q = sym (keys-inside x₀ k 1 ks j i (omega (arith, leb-false i j q)) h (sym e))

bottle-border : (x₀ : Key) (ks : List Key) (i : ℕ) → suc i < length ks → get_or ks i x₀ ≡ get_or ks (suc i) x₀ → get_or (labels ks) i 0 ≡ get_or (labels ks) (suc i) 0
unfolding labels
bottle-border x₀ [] i h e = absurd (omega arith)
bottle-border x₀ (k ∷ ks) i h e = keys-border x₀ k 1 ks i (omega arith) e

module _ (f : List ℕ) (t : Table) (n : ℕ) (e : outcome_of f ≡ accepted t n) where
  keys : List Key
  keys = map (key_of (kinds_of t.names)) (rows_in t n f)

  ls : List ℕ
  ls = labels_by t.sort keys

  count : ℕ
  count = (checked_of f).profiles

  keys-many : length keys ≡ n
  unfolding keys
  keys-many = length-map (rows_in t n f) (key_of (kinds_of t.names)) ∙ rows-many f t n e

  count_is : count ≡ profiles_by t.sort (run_count keys)
  unfolding count keys checked_of
  count_is = ap (λ (x : Checked). x.profiles) (ap (checked_by f) e)

  file-labels : Labelled ls n count
  unfolding ls
  file-labels =
      subst (λ (m : ℕ). Labelled (labels_by t.sort keys) n m) (sym count_is)
      (subst (λ (m : ℕ). Labelled (labels_by t.sort keys) m (profiles_by t.sort (run_count keys))) keys-many
      (labelled t.sort keys (omega (arith, keys-many, rows-some f t n e))))

  profile_is : (k : ℕ) → profile_of f k ≡ record_of t f (up_from (1 + below k ls) (many k ls))
  unfolding profile_of profile_rows ls keys
  profile_is k = ap (profile_by f k) e ∙ ap (record_of t f) (rows_up 1 k 1 ls file-labels.low)

  profile-none : (k : ℕ) → many k ls ≡ 0 → profile_of f k ≡ no_profile 21 0 0
  profile-none k h = profile_is k ∙ record-none t f (1 + below k ls) (many k ls) h

  profile-zeroth : profile_of f 0 ≡ no_profile 21 0 0
  profile-zeroth = profile-none 0 (many-low 1 0 ls file-labels.low (omega arith))

  profile-beyond : (k : ℕ) → count < k → profile_of f k ≡ no_profile 21 0 0
  profile-beyond k h = profile-none k (many-high 0 k ls file-labels.high (omega (arith, file-labels.top)))

  profile-some : (k : ℕ) → 1 ≤ k → k ≤ count → 1 ≤ many k ls
  profile-some k a b = many-some 0 k ls file-labels.high a (omega (arith, file-labels.top))

  profile-shown : (k : ℕ) → 1 ≤ k → k ≤ count → Shown (profile_of f k) (1 + below k ls) (many k ls)
  profile-shown k a b = subst (λ (p : ProfileRecord). Shown p (1 + below k ls) (many k ls)) (sym (profile_is k)) (record-some t f (1 + below k ls) (many k ls) (profile-some k a b))

  count-some : 1 ≤ count
  count-some =
      let i : 0 < length ls = omega (arith, file-labels.long, rows-some f t n e) in
      omega (arith, file-labels.top, label_from 1 ls 0 file-labels.low i, label-to 0 ls 0 file-labels.high i)

  -- a known profile is one of the count
  known_in : (k : ℕ) → (profile_of f k).number ≡ 0 → (1 ≤ k) × (k ≤ count)
  known_in k h = go (leb 1 k) (leb k count) refl refl
    where
      refused_21 : profile_of f k ≡ no_profile 21 0 0 → ⊥
      refused_21 q = omega (arith, sym h ∙ ap (λ (p : ProfileRecord). p.number) q)

      go : (a b : Bool) → leb 1 k ≡ a → leb k count ≡ b → (1 ≤ k) × (k ≤ count)
      go true true p q = (leb-true 1 k p, leb-true k count q)
      go true false p q = absurd (refused_21 (profile-beyond k (leb-false k count q)))
      go false b p q = let z : k ≡ 0 = omega (arith, leb-false 1 k p) in absurd (refused_21 (ap (profile_of f) z ∙ profile-zeroth))

  -- the rows of a profile are those of its label
  row_label : (k r : ℕ) → InProfile f k r → (1 ≤ r) × (r ≤ n) × (get_or ls (r - 1) 0 ≡ k)
  row_label k r p =
      let b = known_in k p.known in
      let w = profile-shown k b.0 b.1 in
      let next = below_next k ls in
      let low : 1 ≤ r = omega (arith, p.from, w.first) in
      let in-next : r - 1 < below (k + 1) ls = omega (arith, p.to, p.from, w.first, w.rows, next) in
      let past : below k ls ≤ r - 1 = omega (arith, p.from, w.first) in
      let less : get_or ls (r - 1) 0 < k + 1 = label-below 1 (k + 1) ls (r - 1) file-labels.low in-next in
      let inside : r - 1 < length ls = omega (arith, in-next, below_most (k + 1) ls) in
      (low, omega (arith, inside, file-labels.long, low), from_label (leb k (get_or ls (r - 1) 0)) refl less inside past)
    where
      from_label : (b : Bool) → leb k (get_or ls (r - 1) 0) ≡ b → get_or ls (r - 1) 0 < k + 1 → r - 1 < length ls → below k ls ≤ r - 1 → get_or ls (r - 1) 0 ≡ k
      from_label true q h i g = omega (arith, leb-true k (get_or ls (r - 1) 0) q)
      from_label false q h i g = absurd (omega (arith, place-below 1 k ls (r - 1) file-labels.low i (leb-false k (get_or ls (r - 1) 0) q)))

  label-row : (r : ℕ) → 1 ≤ r → r ≤ n → InProfile f (get_or ls (r - 1) 0) r
  label-row r a b =
      let k = get_or ls (r - 1) 0 in
      let inside : r - 1 < length ls = omega (arith, file-labels.long) in
      let w = profile-shown k (label_from 1 ls (r - 1) file-labels.low inside) (omega (arith, file-labels.top, label-to 0 ls (r - 1) file-labels.high inside)) in
      let past : below k ls ≤ r - 1 = go k (leb (below k ls) (r - 1)) refl refl in
      let in-next : r - 1 < below (k + 1) ls = place-below 1 (k + 1) ls (r - 1) file-labels.low inside (omega arith) in
      record { known = w.number; from = omega (arith, w.first, past); to = omega (arith, w.first, w.rows, in-next, below_next k ls) }
    where
      go : (k : ℕ) (b : Bool) → leb (below k ls) (r - 1) ≡ b → k ≡ get_or ls (r - 1) 0 → below k ls ≤ r - 1
      go k true q h = leb-true (below k ls) (r - 1) q
      go k false q h = absurd (omega (arith, label-below 1 k ls (r - 1) file-labels.low (leb-false (below k ls) (r - 1) q), h))

  key_at_lem : (r : ℕ) → 1 ≤ r → r ≤ n → get_or keys (r - 1) (key_of (kinds_of t.names) []) ≡ row_key t f r
  unfolding keys
  key_at_lem r a b =
      let w : 1 + (r - 1) ≡ r = omega arith in
      get_or-map (key_of (kinds_of t.names)) (rows_in t n f) (r - 1) [] ∙ ap (key_of (kinds_of t.names)) (row_in_lem f t n e (r - 1) (omega arith) ∙ ap (row_cells t f) w)

  module _ (q : t.sort ≡ bottle) where
    labels_are : (i : ℕ) → get_or (labels keys) i 0 ≡ get_or ls i 0
    unfolding ls
    labels_are i = sym (ap (λ (s : Sort). get_or (labels_by s keys) i 0) q)

    profile-equal : (k r s : ℕ) → InProfile f k r → InProfile f k s → row_key t f r ≡ row_key t f s
    profile-equal k r s x y =
        let a = row_label k r x in
        let b = row_label k s y in
        sym (key_at_lem r a.0 a.1)
        ∙ bottle-inside (key_of (kinds_of t.names) []) keys (r - 1) (s - 1) (omega (arith, keys-many, a.0, a.1)) (omega (arith, keys-many, b.0, b.1))
        (labels_are (r - 1) ∙ a.2 ∙ sym b.2 ∙ sym (labels_are (s - 1)))
        ∙ key_at_lem s b.0 b.1

    profile-border : (k j r : ℕ) → InProfile f k r → InProfile f j (r + 1) → (k ≡ j → ⊥) → row_key t f r ≡ row_key t f (r + 1) → ⊥
    profile-border k j r x y h g =
        let a = row_label k r x in
        let b = row_label j (r + 1) y in
        let w : r + 1 - 1 ≡ suc (r - 1) = omega (arith, a.0) in
        let same = bottle-border (key_of (kinds_of t.names) []) keys (r - 1) (omega (arith, keys-many, a.0, b.1))
        (key_at_lem r a.0 a.1 ∙ g ∙ sym (key_at_lem (r + 1) b.0 b.1) ∙ ap (λ (i : ℕ). get_or keys i (key_of (kinds_of t.names) [])) w) in
        h (sym a.2 ∙ sym (labels_are (r - 1)) ∙ same ∙ labels_are (suc (r - 1)) ∙ ap (λ (i : ℕ). get_or ls i 0) (sym w) ∙ b.2)

  profiled : Profiled f t n
  unfolding count
  profiled = record {
    zeroth = profile-zeroth;
    beyond = profile-beyond;
    known = λ k a b. let w = profile-shown k a b in (w.number, w.line, w.column);
    begins = let w = profile-shown 1 (omega arith) count-some in omega (arith, w.first, below-low 1 1 ls file-labels.low (omega arith));
    follows = λ k a b.
        let w = profile-shown k a (omega arith) in
        let v = profile-shown (k + 1) (omega arith) (omega arith) in
        omega (arith, w.first, w.rows, v.first, below_next k ls);
    ends =
        let w = profile-shown count count-some (omega arith) in
        omega (arith, w.first, w.rows, below_next count ls, below_all 0 (count + 1) ls file-labels.high (omega (arith, file-labels.top)), file-labels.long);
    some = λ k a b. let w = profile-shown k a b in omega (arith, w.rows, profile-some k a b);
    held = λ r a b. (get_or ls (r - 1) 0, label-row r a b);
    once = λ k j r x y. sym (row_label k r x).2 ∙ (row_label j r y).2;
    whole = λ q. count_is ∙ ap (λ (s : Sort). profiles_by s (run_count keys)) q;
    equal = profile-equal;
    border = profile-border;
  }

pub profiles-part : ProfilesPart
unfolding profile_of
profiles-part = record { file = λ f a b c e k. ap (profile_by f k) e; part = profiled }
