-- The rows of profiles from the profile of each row: a list of labels that climbs one by one, its parts, and the labels that keys give.
use Prim.Native.Nat.{ℕ, zero, suc, ◌+◌, ◌≤◌, ◌<◌}
use mathlib.Core.Path.{◌≡◌, refl, sym, ap, ◌∙◌}
use mathlib.Core.List.{List, [], ◌∷◌}
use mathlib.Core.Bool.{Bool, true, false, cond, ◌&&◌}
use native.Mathlib.Nat.{add-zero, not-suc-le-zero, le_of_suc-le-suc}
use native.Mathlib.Omega.{arith}
use lib.ListN.{length, get_or}
use lib.Dec.{eqb, ltb}
use borrow.Author.Tests.{eqb-true, eqb-false, eq-eqb, ltb-true, ltb-false}
use Rattle.line_bytes.specs.Bytes.{equal}
use Rattle.line_bytes.proofs.CellLaws.{both_true}
use Rattle.line_bytes.proofs.EqualLaws.{equal_refl, equal-same}
use Rattle.format.specs.Profiles.{Key, same_key, labels_from, borders_from, rows_of}

-- each label is the one before or one more
abbrev pub Climbs : ℕ → List ℕ → Type 0
Climbs l [] = Unit {0}
Climbs l (x ∷ xs) = (l ≤ x) × (x ≤ l + 1) × Climbs x xs

-- the last label; how many are below k; how many are k
unfoldable pub top_of : ℕ → List ℕ → ℕ
top_of l [] = l
top_of l (x ∷ xs) = top_of x xs

pub below : ℕ → List ℕ → ℕ
below k [] = 0
below k (x ∷ xs) = cond (ltb x k) 1 0 + below k xs

pub many : ℕ → List ℕ → ℕ
many k [] = 0
many k (x ∷ xs) = cond (eqb x k) 1 0 + many k xs

-- m numbers from a on
unfoldable pub up_from : ℕ → ℕ → List ℕ
up_from a zero = []
up_from a (suc m) = a ∷ up_from (a + 1) m

-- ---- counts, by a test of the first label
data Order (x k : ℕ) : Type 0 where
  less : ltb x k ≡ true → eqb x k ≡ false → x < k → Order x k
  same : ltb x k ≡ false → eqb x k ≡ true → x ≡ k → Order x k
  greater : ltb x k ≡ false → eqb x k ≡ false → k < x → Order x k

order : (x k : ℕ) → Order x k
order x k = go (ltb x k) (eqb x k) refl refl
  where
    go : (a b : Bool) → ltb x k ≡ a → eqb x k ≡ b → Order x k
    go true true p q = absurd (omega (arith, ltb-true x k p, eqb-true x k q))
    go true false p q = less p q (ltb-true x k p)
    go false true p q = same p q (eqb-true x k q)
    go false false p q = greater p q (omega (arith, ltb-false x k p, eqb-false x k q))

pub below_next : (k : ℕ) (ls : List ℕ) → below (k + 1) ls ≡ below k ls + many k ls
unfolding below many
below_next k [] = refl
below_next k (x ∷ xs) = go (order x k) (order x (k + 1)) (below_next k xs)
  where
    go : Order x k → Order x (k + 1) → below (k + 1) xs ≡ below k xs + many k xs
        → cond (ltb x (k + 1)) 1 0 + below (k + 1) xs ≡ cond (ltb x k) 1 0 + below k xs + (cond (eqb x k) 1 0 + many k xs)
    go (less p q h) (less a b g) e = rw (p, q, a) (omega arith)
    go (less p q h) (same a b g) e = absurd (omega arith)
    go (less p q h) (greater a b g) e = absurd (omega arith)
    go (same p q h) (less a b g) e = rw (p, q, a) (omega arith)
    go (same p q h) (same a b g) e = absurd (omega arith)
    go (same p q h) (greater a b g) e = absurd (omega arith)
    go (greater p q h) (less a b g) e = absurd (omega arith)
    go (greater p q h) (same a b g) e = rw (p, q, a) (omega arith)
    go (greater p q h) (greater a b g) e = rw (p, q, a) (omega arith)

pub below_most : (k : ℕ) (ls : List ℕ) → below k ls ≤ length ls
unfolding below
below_most k [] = omega arith
below_most k (x ∷ xs) = go (ltb x k) (below_most k xs)
  where
    go : (b : Bool) → below k xs ≤ length xs → cond b 1 0 + below k xs ≤ suc (length xs)
    go true h = omega arith
    go false h = omega arith

-- ---- labels that climb from l
pub below-low : (l k : ℕ) (ls : List ℕ) → Climbs l ls → k ≤ l → below k ls ≡ 0
unfolding below
below-low l k [] c h = refl
below-low l k (x ∷ xs) c h = go (order x k) (below-low x k xs c.2)
  where
    go : Order x k → (k ≤ x → below k xs ≡ 0) → cond (ltb x k) 1 0 + below k xs ≡ 0
    go (less p q g) ih = absurd (omega (arith, c.0))
    go (same p q g) ih = rw p (omega (arith, ih (omega arith)))
    go (greater p q g) ih = rw p (omega (arith, ih (omega arith)))

pub many-low : (l k : ℕ) (ls : List ℕ) → Climbs l ls → k < l → many k ls ≡ 0
unfolding many
many-low l k [] c h = refl
many-low l k (x ∷ xs) c h = go (order x k) (many-low x k xs c.2)
  where
    go : Order x k → (k < x → many k xs ≡ 0) → cond (eqb x k) 1 0 + many k xs ≡ 0
    go (less p q g) ih = absurd (omega (arith, c.0))
    go (same p q g) ih = absurd (omega (arith, c.0))
    go (greater p q g) ih = rw q (omega (arith, ih g))

top_from : (l : ℕ) (ls : List ℕ) → Climbs l ls → l ≤ top_of l ls
unfolding top_of
top_from l [] c = omega arith
top_from l (x ∷ xs) c = omega (arith, c.0, top_from x xs c.2)

pub many-high : (l k : ℕ) (ls : List ℕ) → Climbs l ls → top_of l ls < k → many k ls ≡ 0
unfolding top_of many
many-high l k [] c h = refl
many-high l k (x ∷ xs) c h = go (order x k) (many-high x k xs c.2 h)
  where
    go : Order x k → many k xs ≡ 0 → cond (eqb x k) 1 0 + many k xs ≡ 0
    go (less p q g) ih = rw q (omega (arith, ih))
    go (same p q g) ih = absurd (omega (arith, top_from x xs c.2))
    go (greater p q g) ih = absurd (omega (arith, top_from x xs c.2))

pub many-some : (l k : ℕ) (ls : List ℕ) → Climbs l ls → l < k → k ≤ top_of l ls → 1 ≤ many k ls
unfolding top_of many
many-some l k [] c h g = absurd (omega arith)
many-some l k (x ∷ xs) c h g = go (order x k) (many-some x k xs c.2)
  where
    go : Order x k → (x < k → k ≤ top_of x xs → 1 ≤ many k xs) → 1 ≤ cond (eqb x k) 1 0 + many k xs
    go (less p q i) ih = rw q (omega (arith, ih i g))
    go (same p q i) ih = rw q (omega arith)
    go (greater p q i) ih = absurd (omega (arith, c.1))

pub below_all : (l k : ℕ) (ls : List ℕ) → Climbs l ls → top_of l ls < k → below k ls ≡ length ls
unfolding top_of below
below_all l k [] c h = refl
below_all l k (x ∷ xs) c h = go (order x k) (below_all x k xs c.2 h)
  where
    go : Order x k → below k xs ≡ length xs → cond (ltb x k) 1 0 + below k xs ≡ suc (length xs)
    go (less p q g) ih = rw p (omega (arith, ih))
    go (same p q g) ih = absurd (omega (arith, top_from x xs c.2))
    go (greater p q g) ih = absurd (omega (arith, top_from x xs c.2))

-- the label of a place
pub label_from : (l : ℕ) (ls : List ℕ) (i : ℕ) → Climbs l ls → i < length ls → l ≤ get_or ls i 0
label_from l [] i c h = absurd (not-suc-le-zero h)
label_from l (x ∷ xs) zero c h = c.0
label_from l (x ∷ xs) (suc i) c h = omega (arith, c.0, label_from x xs i c.2 (le_of_suc-le-suc h))

pub label-to : (l : ℕ) (ls : List ℕ) (i : ℕ) → Climbs l ls → i < length ls → get_or ls i 0 ≤ top_of l ls
unfolding top_of
label-to l [] i c h = absurd (not-suc-le-zero h)
label-to l (x ∷ xs) zero c h = top_from x xs c.2
label-to l (x ∷ xs) (suc i) c h = label-to x xs i c.2 (le_of_suc-le-suc h)

-- the places of the labels below k are the first so many
pub label-below : (l k : ℕ) (ls : List ℕ) (i : ℕ) → Climbs l ls → i < below k ls → get_or ls i 0 < k
unfolding below
label-below l k [] i c h = absurd (not-suc-le-zero h)
label-below l k (x ∷ xs) zero c h = go (order x k)
  where
    go : Order x k → x < k
    go (less p q g) = g
    go (same p q g) = absurd (omega (arith, rw p at h, below-low x k xs c.2 (omega arith)))
    go (greater p q g) = absurd (omega (arith, rw p at h, below-low x k xs c.2 (omega arith)))
label-below l k (x ∷ xs) (suc i) c h = go (order x k) (label-below x k xs i c.2)
  where
    go : Order x k → (i < below k xs → get_or xs i 0 < k) → get_or xs i 0 < k
    go (less p q g) ih = ih (omega (arith, rw p at h))
    go (same p q g) ih = absurd (omega (arith, rw p at h, below-low x k xs c.2 (omega arith)))
    go (greater p q g) ih = absurd (omega (arith, rw p at h, below-low x k xs c.2 (omega arith)))

pub place-below : (l k : ℕ) (ls : List ℕ) (i : ℕ) → Climbs l ls → i < length ls → get_or ls i 0 < k → i < below k ls
unfolding below
place-below l k [] i c h g = absurd (not-suc-le-zero h)
place-below l k (x ∷ xs) zero c h g = go (order x k)
  where
    go : Order x k → 0 < cond (ltb x k) 1 0 + below k xs
    go (less p q j) = rw p (omega arith)
    go (same p q j) = absurd (omega arith)
    go (greater p q j) = absurd (omega arith)
place-below l k (x ∷ xs) (suc i) c h g = go (order x k) (place-below x k xs i c.2 (le_of_suc-le-suc h) g)
  where
    go : Order x k → i < below k xs → suc i < cond (ltb x k) 1 0 + below k xs
    go (less p q j) ih = rw p (omega arith)
    go (same p q j) ih = absurd (omega (arith, label_from x xs i c.2 (le_of_suc-le-suc h)))
    go (greater p q j) ih = absurd (omega (arith, label_from x xs i c.2 (le_of_suc-le-suc h)))

-- the rows of profile k are consecutive
pub rows_up : (l k r : ℕ) (ls : List ℕ) → Climbs l ls → rows_of k r ls ≡ up_from (r + below k ls) (many k ls)
unfolding rows_of below many up_from
rows_up l k r [] c = refl
rows_up l k r (x ∷ xs) c = go (order x k) (rows_up x k (r + 1) xs c.2)
  where
    go : Order x k → rows_of k (r + 1) xs ≡ up_from (r + 1 + below k xs) (many k xs)
        → cond (eqb x k) (r ∷ rows_of k (r + 1) xs) (rows_of k (r + 1) xs) ≡ up_from (r + (cond (ltb x k) 1 0 + below k xs)) (cond (eqb x k) 1 0 + many k xs)
    go (less p q g) ih =
        let w : r + 1 + below k xs ≡ r + (1 + below k xs) = omega arith in
        let s : 0 + many k xs ≡ many k xs = omega arith in
        rw (p, q, s) (ih ∙ ap (λ (a : ℕ). up_from a (many k xs)) w)
    go (same p q g) ih =
        let z = below-low x k xs c.2 (omega arith) in
        let a : r + 1 + below k xs ≡ r + 1 = omega (arith, z) in
        let b : r + (0 + below k xs) ≡ r = omega (arith, z) in
        let s : 1 + many k xs ≡ suc (many k xs) = omega arith in
        rw (p, q, b, s) (ap (λ (rs : List ℕ). r ∷ rs) (ih ∙ ap (λ (y : ℕ). up_from y (many k xs)) a))
    go (greater p q g) ih =
        let z = many-low x k xs c.2 g in
        let s : 0 + many k xs ≡ 0 = omega (arith, z) in
        rw (p, q, s) (ih ∙ ap (up_from (r + 1 + below k xs)) z)

pub up-length : (a m : ℕ) → length (up_from a m) ≡ m
unfolding up_from
up-length a zero = refl
up-length a (suc m) = ap suc (up-length (a + 1) m)

-- ---- the labels that keys give
pub labels_climb : (x : Key) (l : ℕ) (ys : List Key) → Climbs l (labels_from x l ys)
unfolding labels_from
labels_climb x l [] = tt
labels_climb x l (y ∷ ys) = go (same_key x y) (labels_climb y l ys) (labels_climb y (l + 1) ys)
  where
    go : (b : Bool) → Climbs l (labels_from y l ys) → Climbs (l + 1) (labels_from y (l + 1) ys) → Climbs l (cond b (l ∷ labels_from y l ys) ((l + 1) ∷ labels_from y (l + 1) ys))
    go true p q = (omega arith, omega arith, p)
    go false p q = (omega arith, omega arith, q)

pub labels_top : (x : Key) (l : ℕ) (ys : List Key) → top_of l (labels_from x l ys) ≡ l + borders_from x ys
unfolding labels_from top_of borders_from
labels_top x l [] = sym (add-zero l)
labels_top x l (y ∷ ys) = go (same_key x y) (labels_top y l ys) (labels_top y (l + 1) ys)
  where
    go : (b : Bool) → top_of l (labels_from y l ys) ≡ l + borders_from y ys → top_of (l + 1) (labels_from y (l + 1) ys) ≡ l + 1 + borders_from y ys
        → top_of l (cond b (l ∷ labels_from y l ys) ((l + 1) ∷ labels_from y (l + 1) ys)) ≡ l + (cond b 0 1 + borders_from y ys)
    go true p q = omega (arith, p)
    go false p q = omega (arith, q)

pub labels_length : (x : Key) (l : ℕ) (ys : List Key) → length (labels_from x l ys) ≡ length ys
unfolding labels_from
labels_length x l [] = refl
labels_length x l (y ∷ ys) = go (same_key x y) (labels_length y l ys) (labels_length y (l + 1) ys)
  where
    go : (b : Bool) → length (labels_from y l ys) ≡ length ys → length (labels_from y (l + 1) ys) ≡ length ys
        → length (cond b (l ∷ labels_from y l ys) ((l + 1) ∷ labels_from y (l + 1) ys)) ≡ suc (length ys)
    go true p q = ap suc p
    go false p q = ap suc q

-- the test says that two keys are the same key
key-same : (x y : Key) → same_key x y ≡ true → x ≡ y
key-same x y e =
    let a = both_true (eqb x.castno y.castno) (equal x.stnnbr y.stnnbr && equal x.expocode y.expocode) e in
    let b = both_true (equal x.stnnbr y.stnnbr) (equal x.expocode y.expocode) a.1 in
    let c = eqb-true x.castno y.castno a.0 in
    let s = equal-same x.stnnbr y.stnnbr b.0 in
    let o = equal-same x.expocode y.expocode b.1 in
    λ i. record { expocode = o i; stnnbr = s i; castno = c i }

key_itself : (x : Key) → same_key x x ≡ true
key_itself x = rw (eq-eqb x.castno x.castno refl, equal_refl x.stnnbr, equal_refl x.expocode)

-- a row with the label of the row before the list has its key
key_near : (x₀ x : Key) (l : ℕ) (ys : List Key) (j : ℕ) → j < length ys → get_or (labels_from x l ys) j 0 ≡ l → get_or ys j x₀ ≡ x
unfolding labels_from
key_near x₀ x l [] j h e = absurd (not-suc-le-zero h)
key_near x₀ x l (y ∷ ys) j h e = go (same_key x y) refl j h e (key_near x₀ y l ys)
  where
    go : (b : Bool) → same_key x y ≡ b → (j : ℕ) → j < suc (length ys) → get_or (cond b (l ∷ labels_from y l ys) ((l + 1) ∷ labels_from y (l + 1) ys)) j 0 ≡ l
        → ((j : ℕ) → j < length ys → get_or (labels_from y l ys) j 0 ≡ l → get_or ys j x₀ ≡ y) → get_or (y ∷ ys) j x₀ ≡ x
    go true q zero h e ih = sym (key-same x y q)
    go true q (suc j) h e ih = ih j (le_of_suc-le-suc h) e ∙ sym (key-same x y q)
    go false q zero h e ih = absurd (omega (arith, e))
    go false q (suc j) h e ih =
        let n : j < length (labels_from y (l + 1) ys) = omega (arith, h, labels_length y (l + 1) ys) in
        absurd (omega (arith, e, label_from (l + 1) (labels_from y (l + 1) ys) j (labels_climb y (l + 1) ys) n))

-- rows of one label have one key
pub keys-inside : (x₀ x : Key) (l : ℕ) (ys : List Key) (i j : ℕ) → i ≤ j → j < suc (length ys) → get_or (l ∷ labels_from x l ys) i 0 ≡ get_or (l ∷ labels_from x l ys) j 0
    → get_or (x ∷ ys) i x₀ ≡ get_or (x ∷ ys) j x₀
unfolding labels_from
keys-inside x₀ x l ys zero zero h g e = refl
keys-inside x₀ x l ys zero (suc j) h g e = sym (key_near x₀ x l ys j (le_of_suc-le-suc g) (sym e))
keys-inside x₀ x l ys (suc i) zero h g e = absurd (not-suc-le-zero h)
keys-inside x₀ x l [] (suc i) (suc j) h g e = absurd (omega arith)
keys-inside x₀ x l (y ∷ ys) (suc i) (suc j) h g e =
    go (same_key x y) (keys-inside x₀ y l ys i j (le_of_suc-le-suc h) (le_of_suc-le-suc g)) (keys-inside x₀ y (l + 1) ys i j (le_of_suc-le-suc h) (le_of_suc-le-suc g)) e
  where
    goal : Type 0
    goal = get_or (y ∷ ys) i x₀ ≡ get_or (y ∷ ys) j x₀

    go : (b : Bool) → (get_or (l ∷ labels_from y l ys) i 0 ≡ get_or (l ∷ labels_from y l ys) j 0 → goal)
        → (get_or ((l + 1) ∷ labels_from y (l + 1) ys) i 0 ≡ get_or ((l + 1) ∷ labels_from y (l + 1) ys) j 0 → goal)
        → get_or (cond b (l ∷ labels_from y l ys) ((l + 1) ∷ labels_from y (l + 1) ys)) i 0 ≡ get_or (cond b (l ∷ labels_from y l ys) ((l + 1) ∷ labels_from y (l + 1) ys)) j 0 → goal
    go true p q e = p e
    go false p q e = q e

-- neighbours of one key have one label
pub keys-border : (x₀ x : Key) (l : ℕ) (ys : List Key) (i : ℕ) → i < length ys → get_or (x ∷ ys) i x₀ ≡ get_or (x ∷ ys) (suc i) x₀
    → get_or (l ∷ labels_from x l ys) i 0 ≡ get_or (l ∷ labels_from x l ys) (suc i) 0
unfolding labels_from
keys-border x₀ x l [] i h e = absurd (not-suc-le-zero h)
keys-border x₀ x l (y ∷ ys) zero h e = rw (ap (same_key x) (sym e) ∙ key_itself x)
keys-border x₀ x l (y ∷ ys) (suc i) h e = go (same_key x y) (keys-border x₀ y l ys i (le_of_suc-le-suc h) e) (keys-border x₀ y (l + 1) ys i (le_of_suc-le-suc h) e)
  where
    go : (b : Bool) → get_or (l ∷ labels_from y l ys) i 0 ≡ get_or (l ∷ labels_from y l ys) (suc i) 0 → get_or ((l + 1) ∷ labels_from y (l + 1) ys) i 0 ≡ get_or ((l + 1) ∷ labels_from y (l + 1) ys) (suc i) 0
        → get_or (cond b (l ∷ labels_from y l ys) ((l + 1) ∷ labels_from y (l + 1) ys)) i 0 ≡ get_or (cond b (l ∷ labels_from y l ys) ((l + 1) ∷ labels_from y (l + 1) ys)) (suc i) 0
    go true p q = p
    go false p q = q
