-- Writes into a grid: texts put at cells of their own width, one after the other. Writes to other cells commute, and what fitting writes do to a grid: the
-- widths stay, the texts stand, the bytes outside are the old ones.
use Prim.Native.Nat.{ℕ, ◌<◌}
use mathlib.Core.Path.{◌≡◌, refl, sym, ap, ◌∙◌, subst}
use mathlib.Core.List.{List, [], ◌∷◌, map}
use lib.ListN.{length, get_or, set}
use lib.Seq.{set-set, set-get_or, get_or-set_same, lt-length-set, map-set_same}
use Rattle.laws.specs.Inner.Writes.{ungrid, Write, written}
use Rattle.laws.proofs.JoinLaws.{All}
use Rattle.laws.proofs.UngridLaws.{CleanCell, Clean}
use Rattle.orders.proofs.GeometryLaws.{Grid, Shape, shape, put, put-set, put_comm, cell_in, cell_put-same, cell_put-other, width_at, Inside, shape_put, clean_put, begin, In, put-outside}

pub record Put : Type 0 where
  pub line : ℕ
  pub col : ℕ
  pub text : List ℕ

abbrev pub puts : Grid → List Put → Grid
puts g [] = g
puts g (w ∷ ws) = puts (put g w.line w.col w.text) ws

-- the text is one for a cell of the shape, and as long
pub record Fit (sh : Shape) (w : Put) : Type 0 where
  pub inside : Inside sh w.line w.col
  pub long : length w.text ≡ width_at sh w.line w.col
  pub clean : CleanCell w.text

-- ---- writes to other cells
abbrev pub Apart : Put → Put → Type 0
Apart w v = (w.line ≡ v.line) × (w.col ≡ v.col) → ⊥

abbrev pub AllApart : List Put → List Put → Type 0
AllApart ws vs = All (λ w. All (Apart w) vs) ws

abbrev pub Distinct : List Put → Type 0
Distinct [] = Unit {0}
Distinct (w ∷ ws) = All (Apart w) ws × Distinct ws

put_puts : (vs : List Put) (g : Grid) (w : Put) → All (Apart w) vs → puts (put g w.line w.col w.text) vs ≡ put (puts g vs) w.line w.col w.text
put_puts [] g w a = refl
put_puts (v ∷ vs) g w a =
    ap (λ (x : Grid). puts x vs) (put_comm g w.line w.col w.text v.line v.col v.text a.0)
    ∙ put_puts vs (put g v.line v.col v.text) w a.1

pub puts_comm : (ws vs : List Put) (g : Grid) → AllApart ws vs → puts (puts g ws) vs ≡ puts (puts g vs) ws
puts_comm [] vs g a = refl
puts_comm (w ∷ ws) vs g a =
    puts_comm ws vs (put g w.line w.col w.text) a.1
    ∙ ap (λ (x : Grid). puts x ws) (put_puts vs g w a.0)

-- ---- what stands
abbrev pub Stands : Grid → List Put → Type 0
Stands g ws = All (λ w. cell_in g w.line w.col ≡ w.text) ws

-- none of the writes is to the cell at line l and column c
abbrev pub Misses : List Put → ℕ → ℕ → Type 0
Misses ws l c = All (λ w. (w.line ≡ l) × (w.col ≡ c) → ⊥) ws

pub cell_puts-other : (vs : List Put) (g : Grid) (l c : ℕ) → Misses vs l c → cell_in (puts g vs) l c ≡ cell_in g l c
cell_puts-other [] g l c a = refl
cell_puts-other (v ∷ vs) g l c a =
    cell_puts-other vs (put g v.line v.col v.text) l c a.1
    ∙ cell_put-other g v.line v.col v.text l c a.0

apart_misses : (vs : List Put) (w : Put) → All (Apart w) vs → Misses vs w.line w.col
apart_misses [] w a = tt
apart_misses (v ∷ vs) w a = ((λ e. a.0 (sym e.0, sym e.1)), apart_misses vs w a.1)

pub stands-kept : (ws vs : List Put) (g : Grid) → AllApart ws vs → Stands g ws → Stands (puts g vs) ws
stands-kept [] vs g a s = tt
stands-kept (w ∷ ws) vs g a s = (cell_puts-other vs g w.line w.col (apart_misses vs w a.0) ∙ s.0, stands-kept ws vs g a.1 s.1)

-- ---- what fitting writes do to a clean grid of shape sh
abbrev pub Outside : Shape → ℕ → Put → Type 0
Outside sh i w = In (begin sh w.line w.col) (width_at sh w.line w.col) i → ⊥

pub record PutsDone (g : Grid) (sh : Shape) (ws : List Put) : Type 0 where
  pub clean : Clean (puts g ws)
  pub wide : shape (puts g ws) ≡ sh
  pub stands : Distinct ws → Stands (puts g ws) ws
  pub outside : (i z : ℕ) → All (Outside sh i) ws → get_or (ungrid (puts g ws)) i z ≡ get_or (ungrid g) i z

pub puts_done : (ws : List Put) (g : Grid) (sh : Shape) → Clean g → shape g ≡ sh → All (Fit sh) ws → PutsDone g sh ws
puts_done [] g sh cl e a = record { clean = cl; wide = e; stands = λ d. tt; outside = λ i z h. refl }
puts_done (w ∷ ws) g sh cl e a = more (puts_done ws g' sh (clean_put g w.line w.col w.text cl a.0.clean) (shape_put g w.line w.col w.text long ∙ e) a.1)
  where
    g' : Grid
    g' = put g w.line w.col w.text

    ins : Inside (shape g) w.line w.col
    ins = subst (λ (x : Shape). Inside x w.line w.col) (sym e) a.0.inside

    long : length w.text ≡ width_at (shape g) w.line w.col
    long = a.0.long ∙ ap (λ (x : Shape). width_at x w.line w.col) (sym e)

    more : PutsDone g' sh ws → PutsDone g sh (w ∷ ws)
    more t = record {
      clean = t.clean;
      wide = t.wide;
      stands = λ d. (cell_puts-other ws g' w.line w.col (apart_misses ws w d.0) ∙ cell_put-same g w.line w.col w.text ins, t.stands d.1);
      outside = λ i z h. t.outside i z h.1 ∙ put-outside g w.line w.col w.text i z ins long (subst (λ (x : Shape). Outside x i w) (sym e) h.0);
    }

-- ---- writes to one line: the row replaced
abbrev pub in_row : Put → Write
in_row w = record { col = w.col; text = w.text }

pub puts-row : (ws : List Put) (g : Grid) (l : ℕ) → l < length g → All (λ w. w.line ≡ l) ws → puts g ws ≡ set g l (written (get_or g l []) (map in_row ws))
unfolding written
puts-row [] g l h a = sym (set-get_or g l [])
puts-row (w ∷ ws) g l h a =
    let r : List (List ℕ) = set (get_or g l []) w.col w.text in
    ap (λ (x : Grid). puts x ws) (ap (λ (k : ℕ). put g k w.col w.text) a.0 ∙ put-set g l w.col w.text)
    ∙ puts-row ws (set g l r) l (lt-length-set g l r h) a.1
    ∙ set-set g l r (written (get_or (set g l r) l []) (map in_row ws))
    ∙ ap (λ (x : List (List ℕ)). set g l (written x (map in_row ws))) (get_or-set_same g l r [] h)

-- a function of the rows that no write changes
pub map_puts : {A : Type 0} (f : List (List ℕ) → A) (ws : List Put) (g : Grid) → All (λ w. (r : List (List ℕ)) → f (set r w.col w.text) ≡ f r) ws → map f (puts g ws) ≡ map f g
map_puts f [] g a = refl
map_puts f (w ∷ ws) g a =
    map_puts f ws (put g w.line w.col w.text) a.1
    ∙ ap (map f) (put-set g w.line w.col w.text)
    ∙ map-set_same f g w.line (set (get_or g w.line []) w.col w.text) [] (a.0 (get_or g w.line []))
