-- A file as lines of cells: a cell is put at a place of the grid. Putting keeps the widths, puts at two places commute, and a put is a patch of the
-- file's bytes where the cell begins; the bytes outside the cell stay. No rule of the format is looked at here.
use Prim.Native.Nat.{ℕ, zero, suc, ◌+◌, ◌≤◌, ◌<◌}
use mathlib.Core.Path.{◌≡◌, refl, sym, ap, ◌∙◌, subst}
use mathlib.Core.List.{List, [], ◌∷◌, ◌++◌, map, append_assoc}
use native.Mathlib.Omega.{arith}
use lib.ListN.{length, get_or, set, drop, length-append, length-map, get_or-map}
use lib.Seq.{get_or-set_same, get_or-set_other, set-set, set_comm, map-set_same, take_at, drop_at}
use Rattle.format.specs.Grid.{starts}
use Rattle.laws.specs.Inner.Writes.{join_later, join, ungrid}
use Rattle.laws.proofs.JoinLaws.{All, bytes_before, bytes_after, length_before, join_at, join-set}
use Rattle.laws.proofs.UngridLaws.{CleanCell, CleanRow, Clean, clean-row-set}
use Rattle.numbers.specs.Patches.{patch}

abbrev pub Grid : Type 0
Grid = List (List (List ℕ))

-- ---- a cell put into a grid, and a cell looked up
abbrev pub put : Grid → ℕ → ℕ → List ℕ → Grid
put [] l c t = []
put (r ∷ g) zero c t = set r c t ∷ g
put (r ∷ g) (suc l) c t = r ∷ put g l c t

abbrev pub cell_in : Grid → ℕ → ℕ → List ℕ
cell_in [] l c = []
cell_in (r ∷ g) zero c = get_or r c []
cell_in (r ∷ g) (suc l) c = cell_in g l c

pub cell_row : (g : Grid) (l c : ℕ) → cell_in g l c ≡ get_or (get_or g l []) c []
cell_row [] l c = refl
cell_row (r ∷ g) zero c = refl
cell_row (r ∷ g) (suc l) c = cell_row g l c

pub put-set : (g : Grid) (l c : ℕ) (t : List ℕ) → put g l c t ≡ set g l (set (get_or g l []) c t)
put-set [] l c t = refl
put-set (r ∷ g) zero c t = refl
put-set (r ∷ g) (suc l) c t = ap (λ (x : Grid). r ∷ x) (put-set g l c t)

pub put_comm : (g : Grid) (l c : ℕ) (t : List ℕ) (k d : ℕ) (u : List ℕ) → ((l ≡ k) × (c ≡ d) → ⊥) → put (put g l c t) k d u ≡ put (put g k d u) l c t
put_comm [] l c t k d u h = refl
put_comm (r ∷ g) zero c t zero d u h = ap (λ (x : List (List ℕ)). x ∷ g) (set_comm r c d t u (λ e. h (refl, e)))
put_comm (r ∷ g) zero c t (suc k) d u h = refl
put_comm (r ∷ g) (suc l) c t zero d u h = refl
put_comm (r ∷ g) (suc l) c t (suc k) d u h = ap (λ (x : Grid). r ∷ x) (put_comm g l c t k d u (λ e. h (ap suc e.0, e.1)))

pub put_put : (g : Grid) (l c : ℕ) (t u : List ℕ) → put (put g l c t) l c u ≡ put g l c u
put_put [] l c t u = refl
put_put (r ∷ g) zero c t u = ap (λ (x : List (List ℕ)). x ∷ g) (set-set r c t u)
put_put (r ∷ g) (suc l) c t u = ap (λ (x : Grid). r ∷ x) (put_put g l c t u)

-- ---- the widths of all cells
abbrev pub Shape : Type 0
Shape = List (List ℕ)

abbrev pub widths_of : List (List ℕ) → List ℕ
widths_of r = map length r

abbrev pub shape : Grid → Shape
shape g = map widths_of g

abbrev pub width_at : Shape → ℕ → ℕ → ℕ
width_at [] l c = 0
width_at (r ∷ g) zero c = get_or r c 0
width_at (r ∷ g) (suc l) c = width_at g l c

-- there is a cell
abbrev pub Inside : Shape → ℕ → ℕ → Type 0
Inside [] l c = ⊥
Inside (r ∷ g) zero c = c < length r
Inside (r ∷ g) (suc l) c = Inside g l c

pub inside_of : (g : Grid) (l c : ℕ) → c < length (get_or g l []) → Inside (shape g) l c
inside_of [] l c k = absurd (omega arith)
inside_of (r ∷ g) zero c k = subst (λ (n : ℕ). c < n) (sym (length-map r length)) k
inside_of (r ∷ g) (suc l) c k = inside_of g l c k

inside-cell : (g : Grid) (l c : ℕ) → Inside (shape g) l c → c < length (get_or g l [])
inside-cell [] l c h = absurd h
inside-cell (r ∷ g) zero c h = subst (λ (n : ℕ). c < n) (length-map r length) h
inside-cell (r ∷ g) (suc l) c h = inside-cell g l c h

inside-line : (g : Grid) (l c : ℕ) → Inside (shape g) l c → l < length (map (join 44) g)
inside-line [] l c h = absurd h
inside-line (r ∷ g) zero c h = omega arith
inside-line (r ∷ g) (suc l) c h = let k : l < length (map (join 44) g) = inside-line g l c h in omega arith

pub cell_put-same : (g : Grid) (l c : ℕ) (t : List ℕ) → Inside (shape g) l c → cell_in (put g l c t) l c ≡ t
cell_put-same [] l c t h = absurd h
cell_put-same (r ∷ g) zero c t h = get_or-set_same r c t [] (subst (λ (n : ℕ). c < n) (length-map r length) h)
cell_put-same (r ∷ g) (suc l) c t h = cell_put-same g l c t h

pub cell_put-other : (g : Grid) (l c : ℕ) (t : List ℕ) (k d : ℕ) → ((l ≡ k) × (c ≡ d) → ⊥) → cell_in (put g l c t) k d ≡ cell_in g k d
cell_put-other [] l c t k d h = refl
cell_put-other (r ∷ g) zero c t zero d h = get_or-set_other r c d t [] (λ e. h (refl, sym e))
cell_put-other (r ∷ g) zero c t (suc k) d h = refl
cell_put-other (r ∷ g) (suc l) c t zero d h = refl
cell_put-other (r ∷ g) (suc l) c t (suc k) d h = cell_put-other g l c t k d (λ e. h (ap suc e.0, e.1))

pub width-cell : (g : Grid) (l c : ℕ) → width_at (shape g) l c ≡ length (cell_in g l c)
width-cell [] l c = refl
width-cell (r ∷ g) zero c = get_or-map length r c []
width-cell (r ∷ g) (suc l) c = width-cell g l c

-- a text as long as the cell leaves the shape
pub shape_put : (g : Grid) (l c : ℕ) (t : List ℕ) → length t ≡ width_at (shape g) l c → shape (put g l c t) ≡ shape g
shape_put [] l c t e = refl
shape_put (r ∷ g) zero c t e = ap (λ (x : List ℕ). x ∷ shape g) (map-set_same length r c t [] (e ∙ get_or-map length r c []))
shape_put (r ∷ g) (suc l) c t e = ap (λ (x : Shape). widths_of r ∷ x) (shape_put g l c t e)

all_put : (g : Grid) (l c : ℕ) (t : List ℕ) → All CleanRow g → CleanCell t → All CleanRow (put g l c t)
all_put [] l c t h k = tt
all_put (r ∷ g) zero c t h k = (clean-row-set r c t h.0 k, h.1)
all_put (r ∷ g) (suc l) c t h k = (h.0, all_put g l c t h.1 k)

pub clean_put : (g : Grid) (l c : ℕ) (t : List ℕ) → Clean g → CleanCell t → Clean (put g l c t)
clean_put [] l c t h k = h
clean_put (r ∷ g) zero c t h k = (clean-row-set r c t h.0 k, h.1)
clean_put (r ∷ g) (suc l) c t h k = (h.0, all_put g l c t h.1 k)

-- ---- where a cell begins, from the widths
later_long : List ℕ → ℕ
later_long [] = 0
later_long (w ∷ ws) = suc (w + later_long ws)

-- how long pieces of these lengths are, joined
unfoldable pub line_long : List ℕ → ℕ
unfolding later_long
line_long [] = 0
line_long (w ∷ ws) = w + later_long ws

-- the first byte of a cell
unfoldable pub begin : Shape → ℕ → ℕ → ℕ
begin sh l c = starts (map line_long sh) l + starts (get_or sh l []) c

later-long : (c : ℕ) (ps : List (List ℕ)) → length (join_later c ps) ≡ later_long (map length ps)
unfolding join_later later_long
later-long c [] = refl
later-long c (p ∷ ps) = ap suc (length-append p (join_later c ps) ∙ ap (λ (k : ℕ). length p + k) (later-long c ps))

join-long : (c : ℕ) (ps : List (List ℕ)) → length (join c ps) ≡ line_long (map length ps)
unfolding join line_long
join-long c [] = refl
join-long c (p ∷ ps) = length-append p (join_later c ps) ∙ ap (λ (k : ℕ). length p + k) (later-long c ps)

pub lines_long : (g : Grid) → map length (map (join 44) g) ≡ map line_long (shape g)
lines_long [] = refl
lines_long (r ∷ g) = λ i. join-long 44 r i ∷ lines_long g i

pub ungrid-long : (g : Grid) → length (ungrid g) ≡ line_long (map line_long (shape g))
ungrid-long g = join-long 10 (map (join 44) g) ∙ ap line_long (lines_long g)

-- ---- the bytes before and after a cell
front : Grid → ℕ → ℕ → List ℕ
front g l c = bytes_before 10 (map (join 44) g) l ++ bytes_before 44 (get_or g l []) c

rest : Grid → ℕ → ℕ → List ℕ
rest g l c = bytes_after 44 (get_or g l []) c ++ bytes_after 10 (map (join 44) g) l

front_long : (g : Grid) (l c : ℕ) → length (front g l c) ≡ begin (shape g) l c
unfolding front begin
front_long g l c =
    length-append (bytes_before 10 (map (join 44) g) l) (bytes_before 44 (get_or g l []) c)
    ∙ rw (length_before 10 (map (join 44) g) l, length_before 44 (get_or g l []) c, lines_long g, get_or-map widths_of g l [])

lines_put : (g : Grid) (l c : ℕ) (t : List ℕ) → map (join 44) (put g l c t) ≡ set (map (join 44) g) l (join 44 (set (get_or g l []) c t))
lines_put [] l c t = refl
lines_put (r ∷ g) zero c t = refl
lines_put (r ∷ g) (suc l) c t = ap (λ (x : List (List ℕ)). join 44 r ∷ x) (lines_put g l c t)

regroup : (a b t x y : List ℕ) → a ++ ((b ++ (t ++ x)) ++ y) ≡ (a ++ b) ++ (t ++ (x ++ y))
regroup a b t x y = simp append_assoc

module _ (g : Grid) (l c : ℕ) (h : Inside (shape g) l c) where
  around_put : (t : List ℕ) → ungrid (put g l c t) ≡ front g l c ++ (t ++ rest g l c)
  unfolding front rest
  around_put t =
      ap (join 10) (lines_put g l c t)
      ∙ join-set 10 (map (join 44) g) l (join 44 (set (get_or g l []) c t)) (inside-line g l c h)
      ∙ ap (λ (x : List ℕ). bytes_before 10 (map (join 44) g) l ++ (x ++ bytes_after 10 (map (join 44) g) l)) (join-set 44 (get_or g l []) c t (inside-cell g l c h))
      ∙ regroup (bytes_before 10 (map (join 44) g) l) (bytes_before 44 (get_or g l []) c) t (bytes_after 44 (get_or g l []) c) (bytes_after 10 (map (join 44) g) l)

  row_joined : get_or (map (join 44) g) l [] ≡ join 44 (get_or g l [])
  unfolding join
  row_joined = get_or-map (join 44) g l []

  around : ungrid g ≡ front g l c ++ (cell_in g l c ++ rest g l c)
  unfolding front rest
  around =
      join_at 10 (map (join 44) g) l (inside-line g l c h)
      ∙ ap (λ (x : List ℕ). bytes_before 10 (map (join 44) g) l ++ (x ++ bytes_after 10 (map (join 44) g) l)) (row_joined ∙ join_at 44 (get_or g l []) c (inside-cell g l c h))
      ∙ regroup (bytes_before 10 (map (join 44) g) l) (bytes_before 44 (get_or g l []) c) (get_or (get_or g l []) c []) (bytes_after 44 (get_or g l []) c) (bytes_after 10 (map (join 44) g) l)
      ∙ ap (λ (x : List ℕ). front g l c ++ (x ++ rest g l c)) (sym (cell_row g l c))

patch_around : (a o b t : List ℕ) (n : ℕ) → length a ≡ n → length t ≡ length o → patch (a ++ (o ++ b)) n t ≡ a ++ (t ++ b)
unfolding patch
patch_around a o b t n e w =
    ap (λ (x : List ℕ). x ++ (t ++ drop (n + length t) (a ++ (o ++ b)))) (take_at a (o ++ b) n e)
    ∙ ap (λ (x : List ℕ). a ++ (t ++ x)) (ap (drop (n + length t)) (sym (append_assoc a o b)) ∙ drop_at (a ++ o) b (n + length t) (length-append a o ∙ omega arith))

-- a cell put is the bytes patched where the cell begins
pub put-patch : (g : Grid) (l c : ℕ) (t : List ℕ) → Inside (shape g) l c → length t ≡ width_at (shape g) l c → ungrid (put g l c t) ≡ patch (ungrid g) (begin (shape g) l c) t
put-patch g l c t h e =
    around_put g l c h t
    ∙ sym (patch_around (front g l c) (cell_in g l c) (rest g l c) t (begin (shape g) l c) (front_long g l c) (e ∙ width-cell g l c))
    ∙ ap (λ (x : List ℕ). patch x (begin (shape g) l c) t) (sym (around g l c h))

-- ---- the bytes outside the cell
abbrev pub In : ℕ → ℕ → ℕ → Type 0
In a w i = (a ≤ i) × (i < a + w)

tail_out : (t o b : List ℕ) (i d : ℕ) → length t ≡ length o → (In 0 (length t) i → ⊥) → get_or (t ++ b) i d ≡ get_or (o ++ b) i d
tail_out [] [] b i d e n = refl
tail_out [] (y ∷ o) b i d e n = absurd (omega arith)
tail_out (x ∷ t) [] b i d e n = absurd (omega arith)
tail_out (x ∷ t) (y ∷ o) b zero d e n = absurd (n (omega arith))
tail_out (x ∷ t) (y ∷ o) b (suc i) d e n = tail_out t o b i d (omega arith) (λ h. n (omega arith))

same_out : (a t o b : List ℕ) (i d : ℕ) → length t ≡ length o → (In (length a) (length t) i → ⊥) → get_or (a ++ (t ++ b)) i d ≡ get_or (a ++ (o ++ b)) i d
same_out [] t o b i d e n = tail_out t o b i d e n
same_out (x ∷ a) t o b zero d e n = refl
same_out (x ∷ a) t o b (suc i) d e n = same_out a t o b i d e (λ h. n (omega arith))

pub put-outside : (g : Grid) (l c : ℕ) (t : List ℕ) (i d : ℕ) → Inside (shape g) l c → length t ≡ width_at (shape g) l c
    → (In (begin (shape g) l c) (width_at (shape g) l c) i → ⊥) → get_or (ungrid (put g l c t)) i d ≡ get_or (ungrid g) i d
put-outside g l c t i d h e n =
    ap (λ (x : List ℕ). get_or x i d) (around_put g l c h t)
    ∙ same_out (front g l c) t (cell_in g l c) (rest g l c) i d (e ∙ width-cell g l c) (λ k. n (omega (arith, front_long g l c)))
    ∙ ap (λ (x : List ℕ). get_or x i d) (sym (around g l c h))
