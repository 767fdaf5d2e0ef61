-- How long a data line of a bottle file is: it holds its EXPOCODE, its STNNBR and its DATE in different cells.
use Prim.Native.Nat.{ℕ, zero, suc, ◌+◌, ◌-◌, ◌≤◌, ◌<◌}
use mathlib.Core.Path.{◌≡◌, refl, sym, ap, subst, ◌∙◌}
use mathlib.Core.List.{List, [], ◌∷◌, map}
use mathlib.Core.Bool.{Bool, true, false, cond, ◌&&◌}
use native.Mathlib.Nat.{not-suc-le-zero, le_of_suc-le-suc}
use native.Mathlib.Omega.{arith}
use lib.ListN.{length, get_or, drop, length-take, length-drop, length-map}
use lib.Seq.{slice}
use lib.Dec.{eqb, leb, ltb}
use borrow.Author.Tests.{eqb-true}
use Rattle.line_bytes.specs.declared.Span.{Span}
use Rattle.line_bytes.specs.Bytes.{bytes, is_digit, every, equal, numeral}
use Rattle.line_bytes.specs.Cells.{first_piece, later_pieces, pieces}
use Rattle.line_bytes.specs.Spaces.{trim, indent, trim_span}
use Rattle.line_bytes.proofs.CellLaws.{both_true}
use Rattle.line_bytes.proofs.EqualLaws.{equal-same}
use Rattle.line_bytes.proofs.SpaceLaws.{slice-take, trim-fits}
use Rattle.verdicts.specs.Verdicts.{wrong, out_of_range, good}
use Rattle.verdicts.specs.Kinds.{date, kind_of}
use Rattle.verdicts.specs.Dates.{is_date}
use Rattle.verdicts.specs.Judge.{judge, of_kind, date_of, unless_blank}
use Rattle.numbers.specs.Patches.{text_at}
use Rattle.format.specs.Faults.{place_in, unless, has_all, member, ◌then◌}
use Rattle.format.specs.Columns.{Sort, bottle, kind_of_name, kinds_of, names_of, required_names}
use Rattle.format.specs.Grid.{span_in, starts}
use Rattle.format.specs.Places.{Table, accepted, outcome_of}
use Rattle.format.specs.Answers.{kind_at, row_cells, cell_text, cell_place, trimmed_place}
use Rattle.format.specs.Records.{given, absent, column_value, value_by, station_value, stationed_at, station_place}
use Rattle.format.specs.Inner.Faults.{name_fault, flag_fault}
use Rattle.format.proofs.StationLaws.{date-kind}
use Rattle.format.proofs.FaultLaws.{then-clean, breaks-clean}
use Rattle.format.proofs.RuleLaws.{names_rules}
use Rattle.format.proofs.NameLaws.{place_found, place-name}
use Rattle.format.proofs.AcceptLaws.{rows-kept}
use Rattle.format.proofs.GridLaws.{get_d_mapped}
use Rattle.format.proofs.HeadLaws.{NamesKept, names-kept}
use Rattle.laws.proofs.AskedLaws.{cell-good, inside-there, row-many}

-- ---- cells of a line: each takes its bytes and one more
unfoldable wide : List (List ℕ) → ℕ
wide [] = 0
wide (t ∷ ts) = length t + 1 + wide ts

wide-pieces : (c : ℕ) (xs : List ℕ) → wide (pieces c xs) ≡ suc (length xs)
unfolding wide first_piece later_pieces
wide-pieces c [] = refl
wide-pieces c (x ∷ xs) = go (eqb x c) (wide-pieces c xs)
  where
    go : (b : Bool) → wide (first_piece c xs ∷ later_pieces c xs) ≡ suc (length xs)
        → wide (cond b [] (x ∷ first_piece c xs) ∷ cond b (first_piece c xs ∷ later_pieces c xs) (later_pieces c xs)) ≡ suc (suc (length xs))
    go true e = omega (arith, e)
    go false e = omega (arith, e)

wide-many : (ts : List (List ℕ)) → length ts ≤ wide ts
unfolding wide
wide-many [] = omega arith
wide-many (t ∷ ts) = omega (arith, wide-many ts)

pub pieces-few : (c : ℕ) (xs : List ℕ) → length (pieces c xs) ≤ suc (length xs)
pieces-few c xs = omega (arith, wide-many (pieces c xs), wide-pieces c xs)

abbrev cell_long : List (List ℕ) → ℕ → ℕ
cell_long ts i = length (get_or ts i []) + 1

one_cell : (ts : List (List ℕ)) (i : ℕ) → i < length ts → cell_long ts i ≤ wide ts
unfolding wide
one_cell [] i h = absurd (not-suc-le-zero h)
one_cell (t ∷ ts) zero h = omega arith
one_cell (t ∷ ts) (suc i) h = omega (arith, one_cell ts i (le_of_suc-le-suc h))

two_cells : (ts : List (List ℕ)) (i j : ℕ) → (i ≡ j → ⊥) → i < length ts → j < length ts → cell_long ts i + cell_long ts j ≤ wide ts
unfolding wide
two_cells [] i j d h g = absurd (not-suc-le-zero h)
two_cells (t ∷ ts) zero zero d h g = absurd (d refl)
two_cells (t ∷ ts) zero (suc j) d h g = omega (arith, one_cell ts j (le_of_suc-le-suc g))
two_cells (t ∷ ts) (suc i) zero d h g = omega (arith, one_cell ts i (le_of_suc-le-suc h))
two_cells (t ∷ ts) (suc i) (suc j) d h g = omega (arith, two_cells ts i j (λ e. d (ap suc e)) (le_of_suc-le-suc h) (le_of_suc-le-suc g))

three-cells : (ts : List (List ℕ)) (i j k : ℕ) → (i ≡ j → ⊥) → (i ≡ k → ⊥) → (j ≡ k → ⊥) → i < length ts → j < length ts → k < length ts
    → cell_long ts i + cell_long ts j + cell_long ts k ≤ wide ts
unfolding wide
three-cells [] i j k d e q h g l = absurd (not-suc-le-zero h)
three-cells (t ∷ ts) zero zero k d e q h g l = absurd (d refl)
three-cells (t ∷ ts) zero (suc j) zero d e q h g l = absurd (e refl)
three-cells (t ∷ ts) (suc i) zero zero d e q h g l = absurd (q refl)
three-cells (t ∷ ts) zero (suc j) (suc k) d e q h g l = omega (arith, two_cells ts j k (λ z. q (ap suc z)) (le_of_suc-le-suc g) (le_of_suc-le-suc l))
three-cells (t ∷ ts) (suc i) zero (suc k) d e q h g l = omega (arith, two_cells ts i k (λ z. e (ap suc z)) (le_of_suc-le-suc h) (le_of_suc-le-suc l))
three-cells (t ∷ ts) (suc i) (suc j) zero d e q h g l = omega (arith, two_cells ts i j (λ z. d (ap suc z)) (le_of_suc-le-suc h) (le_of_suc-le-suc g))
three-cells (t ∷ ts) (suc i) (suc j) (suc k) d e q h g l =
    omega (arith, three-cells ts i j k (λ z. d (ap suc z)) (λ z. e (ap suc z)) (λ z. q (ap suc z)) (le_of_suc-le-suc h) (le_of_suc-le-suc g) (le_of_suc-le-suc l))

-- ---- a good DATE has eight bytes
-- the kind of the column of a name
name-kind : (name : List ℕ) (ns : List (List ℕ)) → place_in name ns < length ns → get_or (kinds_of ns) (place_in name ns) 0 ≡ kind_of_name name
unfolding place_in
name-kind name [] h = absurd (not-suc-le-zero h)
name-kind name (x ∷ xs) h = go (equal x name) refl h (name-kind name xs)
  where
    go : (z : Bool) → equal x name ≡ z → cond z 0 (suc (place_in name xs)) < suc (length xs) → (place_in name xs < length xs → get_or (kinds_of xs) (place_in name xs) 0 ≡ kind_of_name name)
        → get_or (kinds_of (x ∷ xs)) (cond z 0 (suc (place_in name xs))) 0 ≡ kind_of_name name
    go true q l ih = ap kind_of_name (equal-same x name q)
    go false q l ih = ih (le_of_suc-le-suc l)

day-long : (t : List ℕ) (m : Bool) (v d : ℕ) → date_of t ≡ good m v d → length t ≡ 8
unfolding date_of
day-long t m v d e = go (every is_digit t && eqb (length t) 8) refl e
  where
    go : (z : Bool) → (every is_digit t && eqb (length t) 8) ≡ z → cond z (cond (is_date (numeral 0 t)) (good false (numeral 0 t) 0) out_of_range) wrong ≡ good m v d → length t ≡ 8
    go true q w = eqb-true (length t) 8 (both_true (every is_digit t) (eqb (length t) 8) q).1
    go false q w = let z : ◌≡◌ {A = ℕ} 0 1 = cc in absurd (omega arith)

date-long : (u : List ℕ) (m : Bool) (v d : ℕ) → judge date u ≡ good m v d → 8 ≤ length u
unfolding judge of_kind
date-long u m v d e = go (trim u) refl e
  where
    go : (t : List ℕ) → trim u ≡ t → unless_blank date_of t ≡ good m v d → 8 ≤ length u
    go [] q w = let z : ◌≡◌ {A = ℕ} 0 1 = cc in absurd (omega arith)
    go (x ∷ xs) q w = omega (arith, trim-fits u, ap length q, day-long (x ∷ xs) m v d w)

-- ---- a station value is no longer than the cell that it stands in
pub text-short : (f : List ℕ) (p : Span) → length (text_at f p) ≤ p.len
text-short f p = omega (arith, length-take p.len (drop p.start f))

span-short : (f : List ℕ) (a e : ℕ) → (trim_span f a e).len ≤ e - a
unfolding trim_span
span-short f a e = go (leb a e && leb e (length f))
  where
    short : length (slice a e f) ≤ e - a
    short = omega (arith, ap length (slice-take a e f), length-take (e - a) (drop a f))

    go : (z : Bool) → (cond {A = Span} z (record { start = a + indent (slice a e f); len = length (trim (slice a e f)) }) (record { start = 0; len = 0 })).len ≤ e - a
    go true = omega (arith, trim-fits (slice a e f), short)
    go false = omega arith

cell-short : (i : ℕ) (ts : List (List ℕ)) (k : ℕ) → (span_in i ts k).len ≤ length (get_or ts k [])
unfolding span_in
cell-short i ts k = go (ltb k (length ts))
  where
    go : (z : Bool) → (cond {A = Span} z (record { start = i + starts (map length ts) k; len = length (get_or ts k []) }) (record { start = 0; len = 0 })).len ≤ length (get_or ts k [])
    go true = omega arith
    go false = omega arith

-- the place of a name's column, from 0, and the cell there in row r
abbrev name_place : Table → List ℕ → ℕ
name_place t name = place_in name t.names

abbrev name_cell : Table → List ℕ → ℕ → List ℕ → List ℕ
name_cell t f r name = get_or (row_cells t f r) (name_place t name) []

value-short : (t : Table) (f : List ℕ) (r : ℕ) (name : List ℕ) → length (text_at f (station_place f (stationed_at (column_value t f r name)))) ≤ length (name_cell t f r name)
unfolding column_value
value-short t f r name = go (ltb (name_place t name) (length t.names))
  where
    p : Span
    p = cell_place t f r (name_place t name + 1)

    same : name_place t name + 1 - 1 ≡ name_place t name
    same = omega arith

    in_cell : p.len ≤ length (name_cell t f r name)
    in_cell = subst (λ (k : ℕ). p.len ≤ length (get_or (row_cells t f r) k [])) same (cell-short _ (row_cells t f r) (name_place t name + 1 - 1))

    go : (z : Bool) → length (text_at f (station_place f (stationed_at (cond z (given (cell_text t f r (name_place t name + 1)) p) absent)))) ≤ length (name_cell t f r name)
    go true = omega (arith, text-short f (trimmed_place f p), span-short f p.start (p.start + p.len), in_cell)
    go false = omega (arith, text-short f (record { start = 0; len = 0 }))

-- ---- the names that a bottle file must have
names-there : (f : List ℕ) (t : Table) (n : ℕ) → outcome_of f ≡ accepted t n → has_all (required_names t.sort) t.names ≡ true
names-there f t n e = go (has_all (required_names t.sort) (names_of x)) refl
  where
    x : List ℕ
    x = get_or (pieces 10 f) (t.line - 2) []

    k : NamesKept t x
    k = names-kept f t n e

    go : (z : Bool) → has_all (required_names t.sort) (names_of x) ≡ z → has_all (required_names t.sort) t.names ≡ true
    go true q = ap (has_all (required_names t.sort)) k.names_are ∙ q
    go false q =
        let w = (then-clean (name_fault 1 [] (pieces 44 x)) (flag_fault 1 (names_of x) (pieces 44 x) then unless (has_all (required_names t.sort) (names_of x)) 13 1) (sym (names_rules t.sort x) ∙ k.rules)).1 in
        let v = (then-clean (flag_fault 1 (names_of x) (pieces 44 x)) (unless (has_all (required_names t.sort) (names_of x)) 13 1) w).1 in
        absurd (breaks-clean 13 1 (sym (ap (λ (z : Bool). unless z 13 1) q) ∙ v))

-- its columns EXPOCODE, STNNBR and DATE
record Stations (t : Table) : Type 0 where
  expocode : name_place t (bytes "EXPOCODE") < length t.names
  stnnbr : name_place t (bytes "STNNBR") < length t.names
  date : name_place t (bytes "DATE") < length t.names

stations-there : (f : List ℕ) (t : Table) (n : ℕ) → outcome_of f ≡ accepted t n → t.sort ≡ bottle → Stations t
unfolding has_all
stations-there f t n e b =
    let all : has_all (required_names bottle) t.names ≡ true = subst (λ (k : Sort). has_all (required_names k) t.names ≡ true) b (names-there f t n e) in
    let w = both_true (member (bytes "EXPOCODE") t.names) _ all in
    let v = both_true (member (bytes "STNNBR") t.names) _ w.1 in
    let u = both_true (member (bytes "CASTNO") t.names) _ v.1 in
    let d = both_true (member (bytes "DATE") t.names) _ u.1 in
    record {
      expocode = (place_found (bytes "EXPOCODE") t.names).1 w.0;
      stnnbr = (place_found (bytes "STNNBR") t.names).1 v.0;
      date = (place_found (bytes "DATE") t.names).1 d.0;
    }

-- names of different lengths have different places
places_differ : (ns : List (List ℕ)) (a b : List ℕ) → place_in a ns < length ns → place_in b ns < length ns → (length a ≡ length b → ⊥) → place_in a ns ≡ place_in b ns → ⊥
places_differ ns a b h g d e = d (ap length (sym (place-name a ns h) ∙ ap (λ (k : ℕ). get_or ns k []) e ∙ place-name b ns g))

module _ (f : List ℕ) (t : Table) (n : ℕ) (e : outcome_of f ≡ accepted t n) (b : t.sort ≡ bottle) (r : ℕ) (h : 1 ≤ r) (g : r ≤ n) where
  -- the text of a name's value in row r
  abbrev row_text : List ℕ → List ℕ
  row_text name = text_at f (station_place f (stationed_at (station_value t f r name)))

  text_in_lem : (name : List ℕ) → length (row_text name) ≤ length (name_cell t f r name)
  unfolding station_value
  text_in_lem name = subst (λ (k : Sort). length (text_at f (station_place f (stationed_at (value_by k t f r name)))) ≤ length (name_cell t f r name)) (sym b) (value-short t f r name)

  -- the line of row r is there, and its cells are those of the grid
  cells_wide : wide (row_cells t f r) ≡ suc (length (get_or (pieces 10 f) (t.line + (r - 1)) []))
  cells_wide =
      let k = rows-kept f t n e (r - 1) (omega (arith, h, g)) in
      let there : t.line + (r - 1) < length (pieces 10 f) = omega (arith, k.line, length-drop t.line (pieces 10 f)) in
      ap wide (get_d_mapped (pieces 10 f) (t.line + (r - 1)) there) ∙ wide-pieces 44 (get_or (pieces 10 f) (t.line + (r - 1)) [])

  date-cell : name_place t (bytes "DATE") < length t.names → 8 ≤ length (name_cell t f r (bytes "DATE"))
  unfolding kind_of
  date-cell d =
      let p = name_place t (bytes "DATE") in
      let same : p + 1 - 1 ≡ p = omega arith in
      let v = cell-good f t n e r (p + 1) (inside-there t n r (p + 1) (record { row = h; rows = g; column = omega arith; columns = omega (arith, d) })) in
      let kind : kind_at t (p + 1) ≡ 9 = ap (λ (k : ℕ). get_or (kinds_of t.names) k 0) same ∙ name-kind (bytes "DATE") t.names d ∙ date-kind in
      let is : judge date (name_cell t f r (bytes "DATE")) ≡ good v.minus v.size v.decimals =
      ap (λ (k : ℕ). judge date (get_or (row_cells t f r) k [])) (sym same) ∙ ap (λ (k : ℕ). judge (kind_of k) (cell_text t f r (p + 1))) (sym kind) ∙ v.is in
      date-long (name_cell t f r (bytes "DATE")) v.minus v.size v.decimals is

  -- the line holds both texts, a DATE and two commas
  pub row-long : length (row_text (bytes "EXPOCODE")) + length (row_text (bytes "STNNBR")) + 10 ≤ length (get_or (pieces 10 f) (t.line + (r - 1)) [])
  row-long =
      let s = stations-there f t n e b in
      let many : length (row_cells t f r) ≡ length t.names = row-many f t n e r h g ∙ length-map t.names kind_of_name in
      let x = places_differ t.names (bytes "EXPOCODE") (bytes "STNNBR") s.expocode s.stnnbr (λ z. omega (arith, z)) in
      let y = places_differ t.names (bytes "EXPOCODE") (bytes "DATE") s.expocode s.date (λ z. omega (arith, z)) in
      let z = places_differ t.names (bytes "STNNBR") (bytes "DATE") s.stnnbr s.date (λ z. omega (arith, z)) in
      let w = three-cells (row_cells t f r) (name_place t (bytes "EXPOCODE")) (name_place t (bytes "STNNBR")) (name_place t (bytes "DATE")) x y z
      (omega (arith, many, s.expocode)) (omega (arith, many, s.stnnbr)) (omega (arith, many, s.date)) in
      omega (arith, w, cells_wide, text_in_lem (bytes "EXPOCODE"), text_in_lem (bytes "STNNBR"), date-cell s.date)
