-- A file as lines of cells and back. For the laws of a file whose cells are replaced:
--   ungrid-grid : ungrid (grid f) ≡ f
--   grid-ungrid : Clean g → grid (ungrid g) ≡ g
--   clean-grid : Clean (grid f)
--   lines-ungrid : Clean g → pieces 10 (ungrid g) ≡ map (join 44) g
--   cells-row : CleanRow r → pieces 44 (join 44 r) ≡ r;  row-free : CleanRow r → Free 10 (join 44 r)
--   ungrid-set : ungrid (set (grid f) i r) ≡ join 10 (set (pieces 10 f) i (join 44 r))
--   clean-row-set, clean-set : a cell without comma and line feed, and a row of such, may be put in the place of another
use Prim.Native.Nat.{ℕ, zero, suc, ◌<◌}
use mathlib.Core.Path.{◌≡◌, refl, ap, ◌∙◌}
use mathlib.Core.Bool.{Bool, true, false, cond}
use mathlib.Core.List.{List, [], ◌∷◌, ◌++◌, map}
use native.Mathlib.Nat.{le_of_suc-le-suc, not-suc-le-zero}
use lib.Dec.{eqb}
use lib.ListN.{length, get_or, set}
use Rattle.line_bytes.specs.Cells.{first_piece, later_pieces, pieces}
use Rattle.laws.specs.Inner.Writes.{join_later, join, ungrid}
use Rattle.format.specs.Profiles.{grid}
use Rattle.laws.proofs.JoinLaws.{Free, All, join-pieces, pieces-free, pieces-join}

-- ---- All
module _ {A : Type 0} (P : A → Type 0) where
  -- one element replaced by another that is as good
  pub all_set : (ps : List A) (i : ℕ) (t : A) → All P ps → P t → All P (set ps i t)
  all_set [] i t a h = tt
  all_set (p ∷ ps) zero t a h = (h, a.1)
  all_set (p ∷ ps) (suc i) t a h = (a.0, all_set ps i t a.1 h)

  pub all_at : (d : A) (ps : List A) (i : ℕ) → All P ps → i < length ps → P (get_or ps i d)
  all_at d [] i a h = absurd (not-suc-le-zero h)
  all_at d (p ∷ ps) zero a h = a.0
  all_at d (p ∷ ps) (suc i) a h = all_at d ps i a.1 (le_of_suc-le-suc h)

module _ {A : Type 0} (P Q : A → Type 0) where
  pub all_weaken : (ps : List A) → ((x : A) → P x → Q x) → All P ps → All Q ps
  all_weaken [] h a = tt
  all_weaken (p ∷ ps) h a = (h p a.0, all_weaken ps h a.1)

  pub all_both : (ps : List A) → All P ps → All Q ps → All (λ x. P x × Q x) ps
  all_both [] a b = tt
  all_both (p ∷ ps) a b = ((a.0, b.0), all_both ps a.1 b.1)

module _ {A B : Type 0} (P : A → Type 0) (Q : B → Type 0) (f : A → B) where
  pub all_map : (ps : List A) → ((x : A) → P x → Q (f x)) → All P ps → All Q (map f ps)
  all_map [] h a = tt
  all_map (p ∷ ps) h a = (h p a.0, all_map ps h a.1)

-- ---- the pieces at c hold no byte d if the whole holds none, and the other way round
pub free-append : (d : ℕ) (a b : List ℕ) → Free d a → Free d b → Free d (a ++ b)
free-append d [] b h k = k
free-append d (x ∷ a) b h k = (h.0, free-append d a b h.1 k)

module _ (c d : ℕ) where
  free-first : (xs : List ℕ) → Free d xs → Free d (first_piece c xs)
  unfolding first_piece
  free-first [] h = tt
  free-first (x ∷ xs) h = go (eqb x c) (free-first xs h.1)
    where
      go : (b : Bool) → Free d (first_piece c xs) → Free d (cond b [] (x ∷ first_piece c xs))
      go true k = tt
      go false k = (h.0, k)

  free-later : (xs : List ℕ) → Free d xs → All (Free d) (later_pieces c xs)
  unfolding later_pieces
  free-later [] h = tt
  free-later (x ∷ xs) h = go (eqb x c) (free-later xs h.1)
    where
      go : (b : Bool) → All (Free d) (later_pieces c xs) → All (Free d) (cond b (pieces c xs) (later_pieces c xs))
      go true k = (free-first xs h.1, k)
      go false k = k

  pub free-pieces : (xs : List ℕ) → Free d xs → All (Free d) (pieces c xs)
  free-pieces xs h = (free-first xs h, free-later xs h)

  module _ (other : eqb c d ≡ false) where
    free-join_later : (ps : List (List ℕ)) → All (Free d) ps → Free d (join_later c ps)
    unfolding join_later
    free-join_later [] a = tt
    free-join_later (p ∷ ps) a = (other, free-append d p (join_later c ps) a.0 (free-join_later ps a.1))

    pub free-join : (ps : List (List ℕ)) → All (Free d) ps → Free d (join c ps)
    unfolding join
    free-join [] a = tt
    free-join (p ∷ ps) a = free-append d p (join_later c ps) a.0 (free-join_later ps a.1)

-- ---- a cell without comma and line feed; a row of such, not empty; lines of such, not none
abbrev pub CleanCell : List ℕ → Type 0
CleanCell t = Free 44 t × Free 10 t

abbrev pub CleanRow : List (List ℕ) → Type 0
CleanRow [] = ⊥
CleanRow (t ∷ ts) = All CleanCell (t ∷ ts)

abbrev pub Clean : List (List (List ℕ)) → Type 0
Clean [] = ⊥
Clean (r ∷ g) = All CleanRow (r ∷ g)

pub clean-row : (x : List ℕ) → Free 10 x → CleanRow (pieces 44 x)
clean-row x h = all_both (Free 44) (Free 10) (pieces 44 x) (pieces-free 44 x) (free-pieces 44 10 x h)

pub clean-grid : (f : List ℕ) → Clean (grid f)
clean-grid f = all_map (Free 10) CleanRow (pieces 44) (pieces 10 f) clean-row (pieces-free 10 f)

pub row-free : (r : List (List ℕ)) → CleanRow r → Free 10 (join 44 r)
row-free [] h = absurd h
row-free (t ∷ ts) h = free-join 44 10 refl (t ∷ ts) (all_weaken CleanCell (Free 10) (t ∷ ts) (λ x k. k.1) h)

pub cells-row : (r : List (List ℕ)) → CleanRow r → pieces 44 (join 44 r) ≡ r
cells-row [] h = absurd h
cells-row (t ∷ ts) h = pieces-join 44 t ts h.0.0 (all_weaken CleanCell (Free 44) ts (λ x k. k.0) h.1)

pub clean-row-set : (r : List (List ℕ)) (i : ℕ) (t : List ℕ) → CleanRow r → CleanCell t → CleanRow (set r i t)
clean-row-set [] i t h k = h
clean-row-set (x ∷ r) zero t h k = (k, h.1)
clean-row-set (x ∷ r) (suc i) t h k = (h.0, all_set CleanCell r i t h.1 k)

pub clean-set : (g : List (List (List ℕ))) (i : ℕ) (r : List (List ℕ)) → Clean g → CleanRow r → Clean (set g i r)
clean-set [] i r h k = h
clean-set (x ∷ g) zero r h k = (k, h.1)
clean-set (x ∷ g) (suc i) r h k = (h.0, all_set CleanRow g i r h.1 k)

-- ---- there and back
joined : (ls : List (List ℕ)) → map (join 44) (map (pieces 44) ls) ≡ ls
joined [] = refl
joined (l ∷ ls) = rw (join-pieces 44 l, joined ls)

pub ungrid-grid : (f : List ℕ) → ungrid (grid f) ≡ f
ungrid-grid f = ap (join 10) (joined (pieces 10 f)) ∙ join-pieces 10 f

map-join-set : (g : List (List (List ℕ))) (i : ℕ) (r : List (List ℕ)) → map (join 44) (set g i r) ≡ set (map (join 44) g) i (join 44 r)
map-join-set [] i r = refl
map-join-set (x ∷ g) zero r = refl
map-join-set (x ∷ g) (suc i) r = ap (λ (ls : List (List ℕ)). join 44 x ∷ ls) (map-join-set g i r)

-- a row replaced is a line replaced
pub ungrid-set : (f : List ℕ) (i : ℕ) (r : List (List ℕ)) → ungrid (set (grid f) i r) ≡ join 10 (set (pieces 10 f) i (join 44 r))
ungrid-set f i r = ap (join 10) (map-join-set (grid f) i r ∙ ap (λ (ls : List (List ℕ)). set ls i (join 44 r)) (joined (pieces 10 f)))

pub lines-ungrid : (g : List (List (List ℕ))) → Clean g → pieces 10 (ungrid g) ≡ map (join 44) g
lines-ungrid [] h = absurd h
lines-ungrid (r ∷ g) h = pieces-join 10 (join 44 r) (map (join 44) g) (row-free r h.0) (all_map CleanRow (Free 10) (join 44) g row-free h.1)

cut_again : (g : List (List (List ℕ))) → All CleanRow g → map (pieces 44) (map (join 44) g) ≡ g
cut_again [] h = refl
cut_again (r ∷ g) h = λ i. cells-row r h.0 i ∷ cut_again g h.1 i

clean_all : (g : List (List (List ℕ))) → Clean g → All CleanRow g
clean_all [] h = absurd h
clean_all (r ∷ g) h = h

pub grid-ungrid : (g : List (List (List ℕ))) → Clean g → grid (ungrid g) ≡ g
grid-ungrid g h = ap (map (pieces 44)) (lines-ungrid g h) ∙ cut_again g (clean_all g h)
