-- The bytes at a place that is handed out are the text that is read there.
use Prim.Native.Nat.{ℕ, ◌+◌, ◌-◌, ◌≤◌, ◌<◌}
use mathlib.Core.Path.{◌≡◌, refl, sym, ap, subst, ◌∙◌}
use mathlib.Core.Bool.{Bool, true, false, cond, ◌&&◌}
use mathlib.Core.List.{List, [], ◌++◌, map, append_assoc, append-nil}
use native.Mathlib.Nat.{add-zero}
use native.Mathlib.Omega.{arith}
use lib.Dec.{leb, ltb}
use lib.ListN.{length, get_or, take, drop, length-append, length-drop, length-map, take-append-drop, get_or-eq_default}
use lib.Seq.{take_at, drop_at, length-take-le, get_or-drop, drop-drop}
use borrow.Author.Tests.{ltb-true, ltb-false}
use Rattle.line_bytes.specs.declared.Span.{Span}
use Rattle.line_bytes.specs.Cells.{pieces}
use Rattle.line_bytes.specs.Spaces.{trim}
use Rattle.line_bytes.specs.Names.{is_name}
use Rattle.line_bytes.specs.Bytes.{equal}
use Rattle.line_bytes.proofs.CellLaws.{both_true}
use Rattle.line_bytes.proofs.SpaceLaws.{slice-take, span-bytes}
use Rattle.format.specs.Faults.{clean, unless, place_in}
use Rattle.format.specs.Headers.{raw_name, name_of, value_of, Header, header_name_rule}
use Rattle.format.specs.Columns.{Sort, bottle, ctd}
use Rattle.format.specs.Places.{Table, accepted, outcome_of}
use Rattle.format.specs.Grid.{starts, nowhere, span_in}
use Rattle.format.specs.Profiles.{grid}
use Rattle.format.specs.Answers.{is_there, Asked, found, cell_text, cell_place, trimmed_place, cell_by, cell_of}
use Rattle.format.specs.declared.Located.{Located}
use Rattle.format.specs.Located.{has_flag, flag_column, located_by, located_of}
use Rattle.format.specs.Records.{given, absent, header_place, header_value, headers_line, column_value, value_by, station_value}
use Rattle.format.proofs.GridLaws.{get_d_mapped}
use Rattle.format.proofs.HeadLaws.{HeadsIn, heads-kept}
use Rattle.format.proofs.HeadLaws as heads
use Rattle.laws.specs.Promises.{bytes_at, PlacesHold}
use Rattle.laws.proofs.AskedLaws.{there-inside, inside-there, asked-there}
use Rattle.laws.proofs.FlagColumnLaws.{flag_of}
use Rattle.laws.proofs.JoinLaws.{join-pieces, bytes_before, bytes_after, length_before, join_at}

-- ---- the text x stands in f at a
record Stands (f : List ℕ) (a : ℕ) (x : List ℕ) : Type 0 where
  before : List ℕ
  behind : List ℕ
  long : length before ≡ a
  is : f ≡ before ++ (x ++ behind)

stands-bytes : {f : List ℕ} {a : ℕ} {x : List ℕ} → Stands f a x → take (length x) (drop a f) ≡ x
stands-bytes {f} {a} {x} s =
    ap (λ (g : List ℕ). take (length x) (drop a g)) s.is
    ∙ ap (take (length x)) (drop_at s.before (x ++ s.behind) a s.long)
    ∙ take_at x s.behind (length x) refl

stands-room : {f : List ℕ} {a : ℕ} {x : List ℕ} → Stands f a x → a + length x ≤ length f
stands-room {f} {a} {x} s = omega (arith, ap length s.is, length-append s.before (x ++ s.behind), length-append x s.behind, s.long)

-- a part of a part
stands_in : {f : List ℕ} {a b : ℕ} {x y : List ℕ} → Stands f a x → Stands x b y → Stands f (a + b) y
stands_in {f} {a} {b} {x} {y} s r = record {
  before = s.before ++ r.before;
  behind = r.behind ++ s.behind;
  long = length-append s.before r.before ∙ omega (arith, s.long, r.long);
  is = s.is ∙ ap (λ (z : List ℕ). s.before ++ (z ++ s.behind)) r.is ∙ regroup s.before r.before y r.behind s.behind;
}
  where
    regroup : (p q z u v : List ℕ) → p ++ ((q ++ (z ++ u)) ++ v) ≡ (p ++ q) ++ (z ++ (u ++ v))
    regroup p q z u v = simp append_assoc

-- a piece, and what is left of a text from k on
piece-stands : (c : ℕ) (xs : List ℕ) (i : ℕ) → i < length (pieces c xs) → Stands xs (starts (map length (pieces c xs)) i) (get_or (pieces c xs) i [])
piece-stands c xs i h = record {
  before = bytes_before c (pieces c xs) i;
  behind = bytes_after c (pieces c xs) i;
  long = length_before c (pieces c xs) i;
  is = sym (join-pieces c xs) ∙ join_at c (pieces c xs) i h;
}

rest-stands : (x : List ℕ) (k : ℕ) → k ≤ length x → Stands x k (drop k x)
rest-stands x k h = record {
  before = take k x;
  behind = [];
  long = length-take-le k x h;
  is = sym (take-append-drop k x) ∙ ap (λ (z : List ℕ). take k x ++ z) (sym (append-nil (drop k x)));
}

-- ---- the same of a place
record StandsAt (f : List ℕ) (p : Span) (x : List ℕ) : Type 0 where
  len : p.len ≡ length x
  stands : Stands f p.start x

at-bytes : {f : List ℕ} {p : Span} {x : List ℕ} → StandsAt f p x → bytes_at f p ≡ x
at-bytes {f} {p} s = ap (λ (k : ℕ). take k (drop p.start f)) s.len ∙ stands-bytes s.stands

at-trimmed : {f : List ℕ} {p : Span} {x : List ℕ} → StandsAt f p x → bytes_at f (trimmed_place f p) ≡ trim x
at-trimmed {f} {p} {x} s =
    let e : (p.start + p.len) - p.start ≡ p.len = omega arith in
    span-bytes f p.start (p.start + p.len) (omega arith) (omega (arith, stands-room s.stands, s.len))
    ∙ ap trim (slice-take p.start (p.start + p.len) f ∙ ap (λ (k : ℕ). take k (drop p.start f)) e ∙ at-bytes s)

-- ---- cell c of line l, both from 0
cell-there : (f : List ℕ) (l c : ℕ) → c < length (get_or (grid f) l []) → l < length (pieces 10 f)
cell-there f l c h = go (ltb l (length (pieces 10 f))) refl
  where
    go : (b : Bool) → ltb l (length (pieces 10 f)) ≡ b → l < length (pieces 10 f)
    go true e = ltb-true l (length (pieces 10 f)) e
    go false e =
        let n : length (grid f) ≤ l = omega (arith, ltb-false l (length (pieces 10 f)) e, length-map (pieces 10 f) (pieces 44)) in
        absurd (omega (arith, subst (λ (ts : List (List ℕ)). c < length ts) (get_or-eq_default (grid f) [] n) h))

cell-stands : (f : List ℕ) (l c : ℕ) → c < length (get_or (grid f) l [])
    → Stands f (starts (map length (pieces 10 f)) l + starts (map length (get_or (grid f) l [])) c) (get_or (get_or (grid f) l []) c [])
cell-stands f l c h =
    let i = cell-there f l c h in
    let e = get_d_mapped (pieces 10 f) l i in
    let n : c < length (pieces 44 (get_or (pieces 10 f) l [])) = subst (λ (ts : List (List ℕ)). c < length ts) e h in
    stands_in (piece-stands 10 f l i) (subst (λ (ts : List (List ℕ)). Stands (get_or (pieces 10 f) l []) (starts (map length ts) c) (get_or ts c [])) (sym e) (piece-stands 44 (get_or (pieces 10 f) l []) c n))

module _ (f : List ℕ) (l c : ℕ) where
  -- the place of a cell of any line; where there is no such cell it is the empty part at the start
  span-stands : StandsAt f (span_in (starts (map length (pieces 10 f)) l) (get_or (grid f) l []) c) (get_or (get_or (grid f) l []) c [])
  unfolding span_in
  span-stands = go (ltb c (length (get_or (grid f) l []))) refl
    where
      go : (b : Bool) → ltb c (length (get_or (grid f) l [])) ≡ b
          → StandsAt f (cond b (record { start = starts (map length (pieces 10 f)) l + starts (map length (get_or (grid f) l [])) c; len = length (get_or (get_or (grid f) l []) c []) }) nowhere) (get_or (get_or (grid f) l []) c [])
      go true e = record { len = refl; stands = cell-stands f l c (ltb-true c (length (get_or (grid f) l [])) e) }
      go false e =
          subst (StandsAt f nowhere) (sym (get_or-eq_default (get_or (grid f) l []) [] (ltb-false c (length (get_or (grid f) l [])) e)))
          (record { len = refl; stands = record { before = []; behind = f; long = refl; is = refl } })

  pub span-text : bytes_at f (span_in (starts (map length (pieces 10 f)) l) (get_or (grid f) l []) c) ≡ get_or (get_or (grid f) l []) c []
  span-text = at-bytes span-stands

-- ---- the value of a header
unless-clean : (b : Bool) (n c : ℕ) → unless b n c ≡ clean → b ≡ true
unless-clean true n c e = refl
unless-clean false n c e = let z : ◌≡◌ {A = ℕ} 0 1 = cc in absurd (omega arith)

-- there is an = in the line
equals-there : (x : List ℕ) → header_name_rule x ≡ clean → length (raw_name x) < length x
unfolding header_name_rule
equals-there x e =
    let w = both_true (ltb (length (raw_name x)) (length x) && leb (length (name_of x)) 64) (is_name (name_of x)) (unless-clean _ 8 1 e) in
    ltb-true (length (raw_name x)) (length x) (both_true _ (leb (length (name_of x)) 64) w.0).0

value-stands : (f : List ℕ) (l : ℕ) → l < length (pieces 10 f) → header_name_rule (get_or (pieces 10 f) l []) ≡ clean → StandsAt f (header_place f l) (value_of (get_or (pieces 10 f) l []))
value-stands f l h e =
    let x = get_or (pieces 10 f) l [] in
    let n : starts (map length (pieces 10 f)) l + (length (raw_name x) + 1) ≡ starts (map length (pieces 10 f)) l + length (raw_name x) + 1 = omega arith in
    record {
      len = refl;
      stands = subst (λ (a : ℕ). Stands f a (value_of x)) n (stands_in (piece-stands 10 f l h) (rest-stands x (length (raw_name x) + 1) (omega (arith, equals-there x e))));
    }

header-stands : (f name : List ℕ) (l : ℕ) (ps : List (List ℕ)) (hs : List Header) → HeadsIn ps hs → drop l (pieces 10 f) ≡ ps
    → (x : List ℕ) (p : Span) → header_value f name l hs ≡ given x p → StandsAt f p x
unfolding header_value
header-stands f name l ps hs heads.none q x p e = let z : ◌≡◌ {A = ℕ} 0 1 = cc in absurd (omega arith)
header-stands f name l ps hs (heads.more {x = y} {ps = qs} {hs = gs} a b r) q x p e = go (equal (name_of y) name) (λ w. header-stands f name (l + 1) qs gs r later x p w) e
  where
    later : drop (l + 1) (pieces 10 f) ≡ qs
    later = sym (drop-drop 1 l (pieces 10 f)) ∙ ap (λ (ls : List (List ℕ)). drop 1 ls) q

    line : get_or (pieces 10 f) l [] ≡ y
    line = ap (λ (k : ℕ). get_or (pieces 10 f) k []) (sym (add-zero l)) ∙ sym (get_or-drop l (pieces 10 f) 0 []) ∙ ap (λ (ls : List (List ℕ)). get_or ls 0 []) q

    here : StandsAt f (header_place f l) (value_of y)
    here =
        subst (λ (z : List ℕ). StandsAt f (header_place f l) (value_of z)) line
        (value-stands f l (omega (arith, ap length q, length-drop l (pieces 10 f))) (subst (λ (z : List ℕ). header_name_rule z ≡ clean) (sym line) b))

    go : (z : Bool) → (header_value f name (l + 1) gs ≡ given x p → StandsAt f p x)
        → cond z (given (value_of y) (header_place f l)) (header_value f name (l + 1) gs) ≡ given x p → StandsAt f p x
    go true ih e =
        let u : value_of y ≡ x = cc in
        let v : header_place f l ≡ p = cc in
        subst (λ (w : List ℕ). StandsAt f p w) u (subst (λ (s : Span). StandsAt f s (value_of y)) v here)
    go false ih e = ih e

-- ---- the value of a column
column-stands : (t : Table) (f : List ℕ) (r : ℕ) (name x : List ℕ) (p : Span) → column_value t f r name ≡ given x p → StandsAt f p x
unfolding column_value
column-stands t f r name x p e = go (ltb (place_in name t.names) (length t.names)) (span-stands f (t.line + (r - 1)) (place_in name t.names + 1 - 1)) e
  where
    c : ℕ
    c = place_in name t.names + 1

    go : (z : Bool) → StandsAt f (cell_place t f r c) (cell_text t f r c) → cond z (given (cell_text t f r c) (cell_place t f r c)) absent ≡ given x p → StandsAt f p x
    go true s e =
        let u : cell_text t f r c ≡ x = cc in
        let v : cell_place t f r c ≡ p = cc in
        subst (λ (w : List ℕ). StandsAt f p w) u (subst (λ (q : Span). StandsAt f q (cell_text t f r c)) v s)
    go false s e = let z : ◌≡◌ {A = ℕ} 0 1 = cc in absurd (omega arith)

station-stands : (f : List ℕ) (t : Table) (n : ℕ) → outcome_of f ≡ accepted t n → (r : ℕ) (name x : List ℕ) (p : Span) → station_value t f r name ≡ given x p → StandsAt f p x
unfolding station_value
station-stands f t n e r name x p q = go t.sort q
  where
    go : (k : Sort) → value_by k t f r name ≡ given x p → StandsAt f p x
    go bottle q = column-stands t f r name x p q
    go ctd q = header-stands f name (headers_line t) (drop (headers_line t) (pieces 10 f)) t.headers (heads-kept f t n e) refl x p q

-- ---- of an accepted file
module _ (f : List ℕ) (t : Table) (n : ℕ) (e : outcome_of f ≡ accepted t n) (r c : ℕ) (h : is_there t n r c ≡ true) where
  cell-placed : StandsAt f (cell_place t f r c) (cell_text t f r c)
  cell-placed = span-stands f (t.line + (r - 1)) (c - 1)

  trimmed-placed : bytes_at f (cell_of f r c) ≡ trim (cell_text t f r c)
  unfolding cell_of
  trimmed-placed = ap (λ (a : Asked). bytes_at f (cell_by f r c a)) (asked-there f t n e r c h) ∙ at-trimmed cell-placed

  located : located_of f r c ≡ located_by f r c (found t)
  unfolding located_of
  located = ap (located_by f r c) (asked-there f t n e r c h)

  flag-placed : (located_of f r c).flagged ≡ true → (is_there t n r (flag_column t c) ≡ true) × (bytes_at f (located_of f r c).flag ≡ cell_text t f r (flag_column t c))
  flag-placed g =
      let k : has_flag t c ≡ true = sym (ap (λ (x : Located). x.flagged) located) ∙ g in
      let i = there-inside t n r c h in
      let w = flag_of t c (omega (arith, i.column, i.columns)) k in (
        inside-there t n r (flag_column t c) (record { row = i.row; rows = i.rows; column = w.some; columns = w.most }),
        ap (λ (x : Located). bytes_at f x.flag) located ∙ rw k (span-text f (t.line + (r - 1)) (flag_column t c - 1)),
      )

pub places_hold : PlacesHold
places_hold f t n e = record {
  cell = λ r c h. span-text f (t.line + (r - 1)) (c - 1);
  trimmed = trimmed-placed f t n e;
  value = λ r c h. ap (λ (x : Located). bytes_at f x.value) (located f t n e r c h) ∙ span-text f (t.line + (r - 1)) (c - 1);
  flag = flag-placed f t n e;
  station = λ r a b name x p q. let s = station-stands f t n e r name x p q in (at-bytes s, at-trimmed s);
}
