-- What a correction keeps of a file: of the check's answer all but the count of missing readings, and every profile's record. Keys, CASTNO, DATE and TIME
-- are read from headers or from columns of their own kinds, and no measured or flag column is one of those.
use Prim.Native.Nat.{ℕ, zero, suc, ◌+◌, ◌-◌, ◌≤◌, ◌<◌}
use mathlib.Core.Path.{◌≡◌, refl, sym, ap, ◌∙◌, subst}
use mathlib.Core.Bool.{Bool, true, false, cond}
use mathlib.Core.List.{List, [], ◌∷◌, map}
use native.Mathlib.Omega.{arith}
use lib.ListN.{length, get_or, set, take, drop}
use lib.Dec.{eqb, ltb}
use borrow.Author.Tests.{ne_eqb, ltb-true}
use Rattle.line_bytes.specs.declared.Span.{Span}
use Rattle.line_bytes.specs.Bytes.{bytes, equal}
use Rattle.line_bytes.specs.Spaces.{trim}
use Rattle.verdicts.specs.Kinds.{Kind, castno, date}
use Rattle.verdicts.specs.Judge.{judge}
use Rattle.verdicts.specs.Verdicts.{size_of}
use Rattle.format.specs.Faults.{place_in}
use Rattle.format.specs.Headers.{Header}
use Rattle.format.specs.Columns.{Sort, bottle, ctd, kind_of_name, kinds_of}
use Rattle.format.specs.Places.{Table, Outcome, accepted, refused, outcome_of}
use Rattle.format.specs.Profiles.{grid, cell_of_kind, Key, key_of, run_count, rows_of}
use Rattle.format.specs.Answers.{rows_in, profiles_by, checked_by, checked_of, cell_text, cell_place}
use Rattle.format.specs.Records.{Value, given, absent, header_place, header_value, headers_line, column_value, value_by, station_value, labels_by, profile_rows, number_in, cast_time, record_of, profile_by, profile_of}
use Rattle.format.proofs.NameLaws.{place-name}
use Rattle.format.proofs.StationLaws.{time-kind, castno-kind, date-kind}
use Rattle.format.proofs.GridLaws.{get_d-map_in}
use Rattle.laws.proofs.JoinLaws.{All}
use Rattle.orders.specs.declared.Answer.{Answer}
use Rattle.orders.specs.declared.Answer.TheVariants.{Applied, Refused}
use Rattle.orders.specs.declared.Order.{Order}
use Rattle.orders.specs.Corrections.{entries_of, corrected_of}
use Rattle.laws.proofs.MissingLaws.{missing-counted}
use Rattle.orders.specs.Demand3.{Kept}
use Rattle.orders.proofs.GeometryLaws.{Grid, Shape, shape, cell_in, cell_row}
use Rattle.orders.proofs.PutLaws.{Put, Misses, cell_puts-other, map_puts}
use Rattle.orders.proofs.PlanLaws.{line_of, decide_in, all-writes, writes, if_applied, plan_by, plan}
use Rattle.orders.proofs.ColumnLaws.{roles, cell-low}
use Rattle.orders.proofs.FitLaws.{applied-asked}
use Rattle.orders.proofs.KeepsLaws.{plan_of, keeps, length-kept}
use Rattle.orders.proofs.PartLaws.{Cell, all-cells}

-- ---- the columns written are of kinds below those of keys, dates and times
abbrev Low : List ℕ → Put → Type 0
Low ks w = get_or ks w.col 0 < 6

plan-low : (t : Table) (n : ℕ) (sh : Shape) (o : Order) → All (Low (kinds_of t.names)) (plan (accepted t n) sh o)
unfolding plan_by
plan-low t n sh o = go (decide_in t n sh o) refl
  where
    go : (x : Answer) → decide_in t n sh o ≡ x → All (Low (kinds_of t.names)) (if_applied x (writes entries_of (accepted t n) sh o))
    go (Refused i j k) e = tt
    go Applied e =
        let m = (applied-asked t n sh o e).measured in
        all-writes (Cell t o.column 0 roles) (Low (kinds_of t.names)) sh (line_of t o) (entries_of t o) (λ x w. cell-low t o.column m w.role x.column w.of) (all-cells t o m)

low_misses : (ks : List ℕ) (ws : List Put) (l c : ℕ) → 6 ≤ get_or ks c 0 → All (Low ks) ws → Misses ws l c
low_misses ks [] l c h a = tt
low_misses ks (w ∷ ws) l c h a = ((λ e. let q : get_or ks w.col 0 ≡ get_or ks c 0 = ap (λ (i : ℕ). get_or ks i 0) e.1 in omega (arith, a.0, q)), low_misses ks ws l c h a.1)

-- ---- keys
cell-of_kind-set : (k : ℕ) (t₀ : List ℕ) (ks : List ℕ) (ts : List (List ℕ)) (c : ℕ) (u : List ℕ) → (get_or ks c 0 ≡ k → ⊥) → cell_of_kind k t₀ ks (set ts c u) ≡ cell_of_kind k t₀ ks ts
unfolding cell_of_kind
cell-of_kind-set k t₀ [] ts c u h = refl
cell-of_kind-set k t₀ (x ∷ ks) [] c u h = refl
cell-of_kind-set k t₀ (x ∷ ks) (t ∷ ts) zero u h = rw (ne_eqb x k h)
cell-of_kind-set k t₀ (x ∷ ks) (t ∷ ts) (suc c) u h = cell-of_kind-set k (cond (eqb x k) t t₀) ks ts c u h

key_set : (ks : List ℕ) (r : List (List ℕ)) (c : ℕ) (u : List ℕ) → get_or ks c 0 < 6 → key_of ks (set r c u) ≡ key_of ks r
key_set ks r c u h =
    let a = cell-of_kind-set 6 [] ks r c u (λ e. omega arith) in
    let b = cell-of_kind-set 7 [] ks r c u (λ e. omega arith) in
    let d = cell-of_kind-set 8 [] ks r c u (λ e. omega arith) in
    λ i. record { expocode = trim (a i); stnnbr = trim (b i); castno = size_of (judge castno (d i)) }

low_keys : (ks : List ℕ) (ws : List Put) → All (Low ks) ws → All (λ w. (r : List (List ℕ)) → key_of ks (set r w.col w.text) ≡ key_of ks r) ws
low_keys ks [] a = tt
low_keys ks (w ∷ ws) a = ((λ r. key_set ks r w.col w.text a.0), low_keys ks ws a.1)

module _ {A B : Type 0} (f : A → B) where
  map-take : (n : ℕ) (l : List A) → map f (take n l) ≡ take n (map f l)
  map-take zero l = refl
  map-take (suc n) [] = refl
  map-take (suc n) (x ∷ l) = ap (λ (r : List B). f x ∷ r) (map-take n l)

  map-part : (n m : ℕ) (l : List A) → map f (take n (drop m l)) ≡ take n (drop m (map f l))
  map-part n zero l = map-take n l
  map-part n (suc m) [] = map-take n []
  map-part n (suc m) (x ∷ l) = map-part n m l

-- ---- in an accepted file
module _ (f : List ℕ) (o : Order) (t : Table) (n : ℕ) (e : outcome_of f ≡ accepted t n) where
  g : List ℕ
  g = corrected_of f o

  low : All (Low (kinds_of t.names)) (plan_of f o)
  low = subst (λ (p : Outcome). All (Low (kinds_of t.names)) (plan p (shape (grid f)) o)) (sym e) (plan-low t n (shape (grid f)) o)

  keys_kept : map (key_of (kinds_of t.names)) (rows_in t n g) ≡ map (key_of (kinds_of t.names)) (rows_in t n f)
  unfolding g
  keys_kept =
      map-part (key_of (kinds_of t.names)) n t.line (grid g)
      ∙ ap (λ (x : List Key). take n (drop t.line x))
      (ap (map (key_of (kinds_of t.names))) (keeps f o).cells ∙ map_puts (key_of (kinds_of t.names)) (plan_of f o) (grid f) (low_keys (kinds_of t.names) (plan_of f o) low))
      ∙ sym (map-part (key_of (kinds_of t.names)) n t.line (grid f))

  -- a cell of a station column
  text-kept : (r c : ℕ) → 6 ≤ get_or (kinds_of t.names) (c - 1) 0 → cell_text t g r c ≡ cell_text t f r c
  unfolding g
  text-kept r c h =
      let l : ℕ = t.line + (r - 1) in
      sym (cell_row (grid g) l (c - 1))
      ∙ ap (λ (x : Grid). cell_in x l (c - 1)) (keeps f o).cells
      ∙ cell_puts-other (plan_of f o) (grid f) l (c - 1) (low_misses (kinds_of t.names) (plan_of f o) l (c - 1) h low)
      ∙ cell_row (grid f) l (c - 1)

  module _ {X : Type 0} (P : Value → X) (blind : (x : List ℕ) (p q : Span) → P (given x p) ≡ P (given x q)) where
    header-kept : (name : List ℕ) (l : ℕ) (hs : List Header) → P (header_value g name l hs) ≡ P (header_value f name l hs)
    unfolding header_value
    header-kept name l [] = refl
    header-kept name l (h ∷ hs) = go (equal h.name name) (header-kept name (l + 1) hs)
      where
        go : (b : Bool) → P (header_value g name (l + 1) hs) ≡ P (header_value f name (l + 1) hs)
            → P (cond b (given h.value (header_place g l)) (header_value g name (l + 1) hs)) ≡ P (cond b (given h.value (header_place f l)) (header_value f name (l + 1) hs))
        go true ih = blind h.value (header_place g l) (header_place f l)
        go false ih = ih

    column-kept : (r : ℕ) (name : List ℕ) → 6 ≤ kind_of_name name → P (column_value t g r name) ≡ P (column_value t f r name)
    unfolding column_value
    column-kept r name h = go (ltb (place_in name t.names) (length t.names)) refl
      where
        c : ℕ
        c = place_in name t.names + 1

        kind_is : place_in name t.names < length t.names → get_or (kinds_of t.names) (c - 1) 0 ≡ kind_of_name name
        kind_is l =
            let k : c - 1 ≡ place_in name t.names = omega arith in
            ap (λ (i : ℕ). get_or (kinds_of t.names) i 0) k
            ∙ get_d-map_in kind_of_name t.names (place_in name t.names) 0 [] l
            ∙ ap kind_of_name (place-name name t.names l)

        go : (b : Bool) → ltb (place_in name t.names) (length t.names) ≡ b
            → P (cond b (given (cell_text t g r c) (cell_place t g r c)) absent) ≡ P (cond b (given (cell_text t f r c) (cell_place t f r c)) absent)
        go true q =
            let k = kind_is (ltb-true (place_in name t.names) (length t.names) q) in
            blind (cell_text t g r c) (cell_place t g r c) (cell_place t f r c)
            ∙ ap (λ (x : List ℕ). P (given x (cell_place t f r c))) (text-kept r c (subst (λ (m : ℕ). 6 ≤ m) (sym k) h))
        go false q = refl

    station-kept : (r : ℕ) (name : List ℕ) → 6 ≤ kind_of_name name → P (station_value t g r name) ≡ P (station_value t f r name)
    unfolding station_value
    station-kept r name h = go t.sort
      where
        go : (s : Sort) → P (value_by s t g r name) ≡ P (value_by s t f r name)
        go bottle = column-kept r name h
        go ctd = header-kept name (headers_line t) t.headers

  time-kept : (r : ℕ) → cast_time (station_value t g r (bytes "TIME")) ≡ cast_time (station_value t f r (bytes "TIME"))
  time-kept r = station-kept cast_time (λ x p q. refl) r (bytes "TIME") (omega (arith, time-kind))

  number-kept : (k : Kind) (r : ℕ) (name : List ℕ) → 6 ≤ kind_of_name name → number_in k (station_value t g r name) ≡ number_in k (station_value t f r name)
  number-kept k r name h = station-kept (number_in k) (λ x p q. refl) r name h

  record-kept : (rs : List ℕ) → record_of t g rs ≡ record_of t f rs
  record-kept [] = refl
  record-kept (r ∷ rs) =
      let a = time-kept r in
      let b = number-kept castno r (bytes "CASTNO") (omega (arith, castno-kind)) in
      let c = number-kept date r (bytes "DATE") (omega (arith, date-kind)) in
      λ i. record { number = 0; line = 0; column = 0; time = a i; first = r; rows = length (r ∷ rs); castno = b i; date = c i }

  profile-kept : (k : ℕ) → record_of t g (profile_rows t n g k) ≡ record_of t f (profile_rows t n f k)
  unfolding profile_rows
  profile-kept k = record-kept (profile_rows t n g k) ∙ ap (λ (ks : List Key). record_of t f (rows_of k 1 (labels_by t.sort ks))) keys_kept

-- ---- any file, any correction
pub kept : (f : List ℕ) (o : Order) → Kept f (corrected_of f o)
unfolding checked_of profile_of g
kept f o = record {
  outcome = (keeps f o).end;
  number = ap (λ (p : Outcome). (checked_by (corrected_of f o) p).number) (keeps f o).end ∙ number_same (outcome_of f);
  line = ap (λ (p : Outcome). (checked_by (corrected_of f o) p).line) (keeps f o).end ∙ line_same (outcome_of f);
  column = ap (λ (p : Outcome). (checked_by (corrected_of f o) p).column) (keeps f o).end ∙ column-same (outcome_of f);
  kind = ap (λ (p : Outcome). (checked_by (corrected_of f o) p).kind) (keeps f o).end ∙ kinds-same (outcome_of f);
  columns = ap (λ (p : Outcome). (checked_by (corrected_of f o) p).columns) (keeps f o).end ∙ columns-same (outcome_of f);
  rows = ap (λ (p : Outcome). (checked_by (corrected_of f o) p).rows) (keeps f o).end ∙ rows_same (outcome_of f);
  profiles = ap (λ (p : Outcome). (checked_by (corrected_of f o) p).profiles) (keeps f o).end ∙ profiles-same (outcome_of f) refl;
  missing = missing-counted (corrected_of f o);
  records = λ k. ap (profile_by (corrected_of f o) k) (keeps f o).end ∙ records-same k (outcome_of f) refl;
  long = length-kept f o;
}
  where
    number_same : (p : Outcome) → (checked_by (corrected_of f o) p).number ≡ (checked_by f p).number
    number_same (accepted t n) = refl
    number_same (refused x y z) = refl

    line_same : (p : Outcome) → (checked_by (corrected_of f o) p).line ≡ (checked_by f p).line
    line_same (accepted t n) = refl
    line_same (refused x y z) = refl

    column-same : (p : Outcome) → (checked_by (corrected_of f o) p).column ≡ (checked_by f p).column
    column-same (accepted t n) = refl
    column-same (refused x y z) = refl

    kinds-same : (p : Outcome) → (checked_by (corrected_of f o) p).kind ≡ (checked_by f p).kind
    kinds-same (accepted t n) = refl
    kinds-same (refused x y z) = refl

    columns-same : (p : Outcome) → (checked_by (corrected_of f o) p).columns ≡ (checked_by f p).columns
    columns-same (accepted t n) = refl
    columns-same (refused x y z) = refl

    rows_same : (p : Outcome) → (checked_by (corrected_of f o) p).rows ≡ (checked_by f p).rows
    rows_same (accepted t n) = refl
    rows_same (refused x y z) = refl

    profiles-same : (p : Outcome) → outcome_of f ≡ p → (checked_by (corrected_of f o) p).profiles ≡ (checked_by f p).profiles
    profiles-same (accepted t n) e = ap (λ (ks : List Key). profiles_by t.sort (run_count ks)) (keys_kept f o t n e)
    profiles-same (refused x y z) e = refl

    records-same : (k : ℕ) (p : Outcome) → outcome_of f ≡ p → profile_by (corrected_of f o) k p ≡ profile_by f k p
    records-same k (accepted t n) e = profile-kept f o t n e k
    records-same k (refused x y z) e = refl
