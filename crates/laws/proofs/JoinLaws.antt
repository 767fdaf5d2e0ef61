-- A list cut at a byte into its pieces and put together again. For the laws of a file whose pieces are replaced:
--   join-pieces : join c (pieces c xs) ≡ xs
--   pieces-join : Free c p → All (Free c) ps → pieces c (join c (p ∷ ps)) ≡ p ∷ ps
--   pieces-free : All (Free c) (pieces c xs)
--   join_at, join-set : the pieces joined, around piece i; and with another text in its place
--   length_before : what stands before piece i is as long as `starts` says
--   join-length-set : a piece replaced by one as long leaves the length
use Prim.Native.Nat.{ℕ, zero, suc, ◌<◌}
use mathlib.Core.Path.{◌≡◌, refl, ap, ◌∙◌}
use mathlib.Core.Bool.{Bool, true, false, cond}
use mathlib.Core.List.{List, [], ◌∷◌, ◌++◌, map, append_assoc, append-nil}
use native.Mathlib.Nat.{le_of_suc-le-suc, not-suc-le-zero}
use native.Mathlib.Omega.{arith}
use lib.Dec.{eqb}
use lib.ListN.{length, get_or, set, length-append}
use lib.Seq.{lt-length-set, get_or-set_same}
use borrow.Author.Tests.{eqb-true, eq-eqb}
use Rattle.line_bytes.specs.Cells.{first_piece, later_pieces, pieces}
use Rattle.format.specs.Grid.{starts}
use Rattle.laws.specs.Inner.Writes.{join_later, join}

-- every byte is other than c
abbrev pub Free : ℕ → List ℕ → Type 0
Free c [] = Unit {0}
Free c (x ∷ xs) = (eqb x c ≡ false) × Free c xs

module _ {A : Type 0} where
  abbrev pub All : (A → Type 0) → List A → Type 0
  All P [] = Unit {0}
  All P (x ∷ xs) = P x × All P xs

pub join-pieces : (c : ℕ) (xs : List ℕ) → join c (pieces c xs) ≡ xs
unfolding first_piece later_pieces join join_later
join-pieces c [] = refl
join-pieces c (x ∷ xs) = go (eqb x c) refl (join-pieces c xs)
  where
    go : (b : Bool) → eqb x c ≡ b → first_piece c xs ++ join_later c (later_pieces c xs) ≡ xs
        → cond b [] (x ∷ first_piece c xs) ++ join_later c (cond b (pieces c xs) (later_pieces c xs)) ≡ x ∷ xs
    go true e ih = rw (ih, eqb-true x c e)
    go false e ih = ap (λ (r : List ℕ). x ∷ r) ih

-- ---- the pieces hold no c
pub first-free : (c : ℕ) (xs : List ℕ) → Free c (first_piece c xs)
unfolding first_piece
first-free c [] = tt
first-free c (x ∷ xs) = go (eqb x c) refl (first-free c xs)
  where
    go : (b : Bool) → eqb x c ≡ b → Free c (first_piece c xs) → Free c (cond b [] (x ∷ first_piece c xs))
    go true e ih = tt
    go false e ih = (e, ih)

pub later-free : (c : ℕ) (xs : List ℕ) → All (Free c) (later_pieces c xs)
unfolding later_pieces
later-free c [] = tt
later-free c (x ∷ xs) = go (eqb x c) (later-free c xs)
  where
    go : (b : Bool) → All (Free c) (later_pieces c xs) → All (Free c) (cond b (pieces c xs) (later_pieces c xs))
    go true ih = (first-free c xs, ih)
    go false ih = ih

pub pieces-free : (c : ℕ) (xs : List ℕ) → All (Free c) (pieces c xs)
pieces-free c xs = (first-free c xs, later-free c xs)

-- ---- a piece in front of a c, or at the end
in-front : (x : ℕ) {p q : List ℕ} {ps qs : List (List ℕ)} → p ∷ ps ≡ q ∷ qs → (x ∷ p) ∷ ps ≡ (x ∷ q) ∷ qs
in-front x e = cc

pieces_cut : (c : ℕ) (p xs : List ℕ) → Free c p → pieces c (p ++ c ∷ xs) ≡ p ∷ pieces c xs
unfolding first_piece later_pieces
pieces_cut c [] xs h = rw (eq-eqb c c refl)
pieces_cut c (x ∷ p) xs h = rw h.0 (in-front x (pieces_cut c p xs h.1))

pieces-last : (c : ℕ) (p : List ℕ) → Free c p → pieces c p ≡ p ∷ []
unfolding first_piece later_pieces
pieces-last c [] h = refl
pieces-last c (x ∷ p) h = rw h.0 (in-front x (pieces-last c p h.1))

pub pieces-join : (c : ℕ) (p : List ℕ) (ps : List (List ℕ)) → Free c p → All (Free c) ps → pieces c (join c (p ∷ ps)) ≡ p ∷ ps
unfolding join join_later
pieces-join c p [] h k = rw (append-nil p) (pieces-last c p h)
pieces-join c p (q ∷ ps) h k =
    pieces_cut c p (join c (q ∷ ps)) h ∙ ap (λ (r : List (List ℕ)). p ∷ r) (pieces-join c q ps k.0 k.1)

-- ---- piece i in its place: what stands before it and after it
unfoldable pub bytes_before : ℕ → List (List ℕ) → ℕ → List ℕ
bytes_before c [] i = []
bytes_before c (p ∷ ps) zero = []
bytes_before c (p ∷ ps) (suc i) = p ++ c ∷ bytes_before c ps i

unfoldable pub bytes_after : ℕ → List (List ℕ) → ℕ → List ℕ
bytes_after c [] i = []
bytes_after c (p ∷ ps) zero = join_later c ps
bytes_after c (p ∷ ps) (suc i) = bytes_after c ps i

pub length_before : (c : ℕ) (ps : List (List ℕ)) (i : ℕ) → length (bytes_before c ps i) ≡ starts (map length ps) i
unfolding bytes_before starts
length_before c [] i = refl
length_before c (p ∷ ps) zero = refl
length_before c (p ∷ ps) (suc i) = rw (length-append, length_before c ps i) (omega arith)

pub join_at : (c : ℕ) (ps : List (List ℕ)) (i : ℕ) → i < length ps → join c ps ≡ bytes_before c ps i ++ (get_or ps i [] ++ bytes_after c ps i)
unfolding join join_later bytes_before bytes_after
join_at c [] i h = absurd (not-suc-le-zero h)
join_at c (p ∷ ps) zero h = refl
join_at c (p ∷ []) (suc i) h = absurd (not-suc-le-zero (le_of_suc-le-suc h))
join_at c (p ∷ (q ∷ ps)) (suc i) h =
    rw append_assoc (ap (λ (r : List ℕ). p ++ c ∷ r) (join_at c (q ∷ ps) i (le_of_suc-le-suc h)))

before-set : (c : ℕ) (ps : List (List ℕ)) (i : ℕ) (t : List ℕ) → bytes_before c (set ps i t) i ≡ bytes_before c ps i
unfolding bytes_before
before-set c [] i t = refl
before-set c (p ∷ ps) zero t = refl
before-set c (p ∷ ps) (suc i) t = ap (λ (r : List ℕ). p ++ c ∷ r) (before-set c ps i t)

after-set : (c : ℕ) (ps : List (List ℕ)) (i : ℕ) (t : List ℕ) → bytes_after c (set ps i t) i ≡ bytes_after c ps i
unfolding bytes_after
after-set c [] i t = refl
after-set c (p ∷ ps) zero t = refl
after-set c (p ∷ ps) (suc i) t = after-set c ps i t

-- a piece replaced: the bytes around it stay
pub join-set : (c : ℕ) (ps : List (List ℕ)) (i : ℕ) (t : List ℕ) → i < length ps → join c (set ps i t) ≡ bytes_before c ps i ++ (t ++ bytes_after c ps i)
join-set c ps i t h =
    join_at c (set ps i t) i (lt-length-set ps i t h)
    ∙ rw (before-set c ps i t, after-set c ps i t, get_or-set_same ps i t [] h)

pub join-length-set : (c : ℕ) (ps : List (List ℕ)) (i : ℕ) (t : List ℕ) → i < length ps → length t ≡ length (get_or ps i []) → length (join c (set ps i t)) ≡ length (join c ps)
join-length-set c ps i t h e = rw (join-set c ps i t h, join_at c ps i h) (simp length-append (omega arith))
