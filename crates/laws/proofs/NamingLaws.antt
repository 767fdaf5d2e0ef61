-- Names and headers are shown as they are, and a column is found by its name and by no other.
use Prim.Native.Nat.{ℕ, zero, suc, ◌+◌, ◌-◌, ◌≤◌, ◌<◌}
use mathlib.Core.Path.{◌≡◌, refl, sym, ap, subst, ◌∙◌}
use mathlib.Core.List.{List, [], ◌∷◌, map}
use mathlib.Core.Bool.{Bool, true, false, cond, ◌||◌}
use native.Mathlib.Nat.{not-suc-le-zero, le_of_suc-le-suc}
use native.Mathlib.Omega.{arith}
use lib.ListN.{length, get_or, drop, length-drop, length-map, get_or-map}
use lib.Dec.{eqb, ltb}
use borrow.Author.Tests.{le-ltb, lt-ltb, eqb-true}
use Rattle.line_bytes.specs.declared.Span.{Span}
use Rattle.line_bytes.specs.Bytes.{equal}
use Rattle.line_bytes.specs.Cells.{pieces, line_at, cell_at, cell_end}
use Rattle.line_bytes.specs.Spaces.{trim_front, trim_end, trim, trim_span}
use Rattle.line_bytes.proofs.CellLaws.{cell-line}
use Rattle.line_bytes.proofs.EqualLaws.{equal_refl}
use Rattle.line_bytes.proofs.SpaceLaws.{span-bytes}
use Rattle.format.specs.declared.Named.{Named}
use Rattle.format.specs.declared.CellPlace.{CellPlace}
use Rattle.format.specs.declared.HeaderPlace.{HeaderPlace}
use Rattle.format.specs.declared.Opened.{Opened}
use Rattle.format.specs.Faults.{member, place_in}
use Rattle.format.specs.Headers.{raw_name, Header}
use Rattle.format.specs.NamesLine.{number_among}
use Rattle.format.specs.Places.{Table, Outcome, accepted, outcome_of}
use Rattle.format.specs.Grid.{span_in}
use Rattle.format.specs.Answers.{trimmed_place}
use Rattle.format.specs.Located.{name_at}
use Rattle.format.specs.Records.{headers_line}
use Rattle.format.specs.Opened.{opened_by, opened_of}
use Rattle.format.specs.Labels.{none_named, named_at, named_by, named_of, name_place, header_for}
use Rattle.format.specs.Inner.Grid.{line_start, cell_span}
use Rattle.format.specs.Inner.Labels.{header_in}
use Rattle.format.proofs.AcceptLaws.{accepted-table}
use Rattle.format.proofs.GridLaws.{SpanAt, span_at_lem}
use Rattle.format.proofs.GridWalkLaws.{cell-slice}
use Rattle.format.proofs.LabelLaws.{label-some, name_label, HeaderThere, header-there, header-found}
use Rattle.format.proofs.NameLaws.{place-name, place_found}
use Rattle.format.proofs.OpenedLaws.{OpenedTable, opened-table}
use Rattle.format.proofs.RunLaws.{line-feed, line-later}
use Rattle.format.proofs.UniqueLaws.{Unique, accepted_unique}
use Rattle.laws.specs.Labels.{header_number, LabelsHold}
use Rattle.laws.specs.Promises.{bytes_at}

-- ---- the bytes at the trimmed place of a cell, and of the rest of a line
cell-shown : (c : ℕ) (s : List ℕ) (i : ℕ) → i + length (cell_at c s i) ≤ length s → bytes_at s (trim_span s i (i + length (cell_at c s i))) ≡ trim (cell_at c s i)
unfolding cell_end
cell-shown c s i h = span-bytes s i (i + length (cell_at c s i)) (omega arith) h ∙ ap trim (cell-slice c s i)

rest-shown : (s : List ℕ) (i k : ℕ) → k ≤ length (line_at s i) → i + length (line_at s i) ≤ length s → bytes_at s (trim_span s (i + k) (i + length (line_at s i))) ≡ trim (drop k (line_at s i))
rest-shown s i k h r =
    let d : cell_at 10 s (i + k) ≡ drop k (line_at s i) = cell-line s (i + k) ∙ line-later s i k h in
    let m : i + length (line_at s i) ≡ i + k + length (cell_at 10 s (i + k)) = omega (arith, ap length d, length-drop k (line_at s i), h) in
    ap (λ (e : ℕ). bytes_at s (trim_span s (i + k) e)) m ∙ cell-shown 10 s (i + k) (omega (arith, m, r)) ∙ ap trim d

-- ---- the cells of a line
span-long : (s : List ℕ) (i k : ℕ) → k < length (pieces 44 (line_at s i)) → (cell_span s i k).len ≡ length (get_or (pieces 44 (line_at s i)) k [])
unfolding span_in
span-long s i k h = rw (lt-ltb k (length (pieces 44 (line_at s i))) h)

get_d-trim : (ts : List (List ℕ)) (k : ℕ) → get_or (map trim ts) k [] ≡ trim (get_or ts k [])
unfolding trim trim_front trim_end
get_d-trim ts k = get_or-map trim ts k []

-- ---- a name among names that are all different
place-before : (ns : List (List ℕ)) (j : ℕ) → j < length ns → place_in (get_or ns j []) ns ≤ j
unfolding place_in
place-before [] j h = absurd (not-suc-le-zero h)
place-before (x ∷ xs) zero h = rw (equal_refl x) (omega arith)
place-before (x ∷ xs) (suc j) h = go (equal x (get_or xs j [])) (place-before xs j (le_of_suc-le-suc h))
  where
    go : (b : Bool) → place_in (get_or xs j []) xs ≤ j → cond b 0 (suc (place_in (get_or xs j []) xs)) ≤ suc j
    go true k = omega arith
    go false k = omega arith

number-once : (ns : List (List ℕ)) → Unique ns → (j : ℕ) → j < length ns → number_among (get_or ns j []) ns ≡ j + 1
number-once ns u j h =
    let x = get_or ns j [] in
    let k : place_in x ns < length ns = omega (arith, h, place-before ns j h) in
    rw ((place_found x ns).0 k) (ap (λ (i : ℕ). i + 1) (u (place_in x ns) j k h (place-name x ns k)))

named-place : (k : ℕ) → (named_at k).place ≡ k
named-place k = go (eqb k 0) refl
  where
    go : (b : Bool) → eqb k 0 ≡ b → (cond b (none_named 21 0 0) (record { number = 0; line = 0; column = 0; place = k })).place ≡ k
    go true e = sym (eqb-true k 0 e)
    go false e = refl

named-found : (x : List ℕ) (ns : List (List ℕ)) → (named_at (number_among x ns)).number ≡ 0 → (place_in x ns < length ns) × (number_among x ns ≡ place_in x ns + 1)
named-found x ns = go (member x ns) refl
  where
    go : (b : Bool) → member x ns ≡ b → (named_at (cond b (place_in x ns + 1) 0)).number ≡ 0 → (place_in x ns < length ns) × (cond b (place_in x ns + 1) 0 ≡ place_in x ns + 1)
    go true e h = ((place_found x ns).1 e, refl)
    go false e h = absurd (omega (arith, h))

module _ (f : List ℕ) (t : Table) (n : ℕ) (e : outcome_of f ≡ accepted t n) where
  abbrev o : Opened
  o = opened_of f

  accepted-number : o.checked.number ≡ 0
  unfolding opened_of
  accepted-number = ap (λ (x : Outcome). (opened_by f x).checked.number) e

  w : OpenedTable f o
  w = opened-table f o refl accepted-number

  -- the table of the opened file is t
  table_is : w.table ≡ t
  table_is = accepted-table (sym w.is ∙ e)

  -- ---- the name of column c
  name-shown : (c : ℕ) → 1 ≤ c → c ≤ length w.table.names → bytes_at f (name_place f c).place ≡ name_at w.table c
  name-shown c h k =
      ap (bytes_at f) place_is
      ∙ ap (λ (m : ℕ). bytes_at f (trim_span f p.start (p.start + m))) long
      ∙ cell-shown 44 f p.start (omega (arith, long, span.room, far))
      ∙ ap trim span.text
      ∙ name_is
    where
      i : ℕ
      i = o.names

      p : Span
      p = cell_span f i (c - 1)

      ts : List (List ℕ)
      ts = pieces 44 (line_at f i)

      far : i + length (line_at f i) < length f
      far = w.names.stands.fed

      many : c - 1 < length ts
      many = omega (arith, h, k, ap length w.named.names_are, length-map ts trim)

      span : SpanAt f i (i + length (line_at f i)) (c - 1)
      span = span_at_lem (c - 1) f i (i + length (line_at f i)) (record { inside = omega arith; room = far; feed = line-feed f i far; parts = refl }) many

      long : p.len ≡ length (cell_at 44 f p.start)
      long = span-long f i (c - 1) many ∙ ap length (sym span.text)

      test : (ltb c 1 || ltb o.checked.columns c) ≡ false
      test = rw (le-ltb c 1 h, le-ltb o.checked.columns c (omega (arith, k, w.columns)))

      place_is : (name_place f c).place ≡ trimmed_place f p
      place_is = ap (λ (x : CellPlace). x.place) (sym (name_label f o refl accepted-number c) ∙ sym (label-some f i c o.checked.columns test p (trimmed_place f p) refl refl))

      name_is : trim (get_or ts (c - 1) []) ≡ name_at w.table c
      name_is = sym (get_d-trim ts (c - 1)) ∙ ap (λ (ns : List (List ℕ)). get_or ns (c - 1) []) (sym w.named.names_are)

  -- ---- header k
  header-shown : (k : ℕ) → 1 ≤ k → k ≤ length w.table.headers
      → (bytes_at f (header_for f k).name ≡ (header_number w.table k).name) × (bytes_at f (header_for f k).value ≡ trim (header_number w.table k).value)
  header-shown k h l = (
    ap (λ (x : HeaderPlace). bytes_at f x.name) (sym found_is) ∙ cell-shown 61 f at (omega (arith, g.equals.before, g.equals.fed)) ∙ ap (λ (x : Header). x.name) (sym g.is),
    ap (λ (x : HeaderPlace). bytes_at f x.value) (sym found_is) ∙ ap (λ (m : ℕ). bytes_at f (trim_span f m (at + length (line_at f at)))) next
        ∙ rest-shown f at (length (raw_name (line_at f at)) + 1) (omega (arith, g.equals.before)) (omega (arith, g.equals.fed)) ∙ ap (λ (x : Header). trim x.value) (sym g.is),
  )
    where
      at : ℕ
      at = line_start f o.headers (k - 1)

      g : HeaderThere f o.names at (headers_line w.table + (k - 1)) (header_number w.table k)
      g = header-there (record { name = []; value = [] }) w.headers (k - 1) (omega (arith, h, l))

      found_is : header_in f at ≡ header_for f k
      found_is = header-found f o refl accepted-number k at (omega (arith, h)) refl g.before

      next : at + length (raw_name (line_at f at)) + 1 ≡ at + (length (raw_name (line_at f at)) + 1)
      next = omega arith

  -- ---- a column by its name
  named_is : (x : List ℕ) → named_of f x ≡ named_at (number_among x t.names)
  unfolding named_of
  named_is x = ap (named_by x) e

  name_back : (c : ℕ) → 1 ≤ c → c ≤ length t.names → (named_of f (name_at t c)).place ≡ c
  name_back c h k =
      ap (λ (r : Named). r.place) (named_is (name_at t c)) ∙ named-place (number_among (name_at t c) t.names)
      ∙ number-once t.names (accepted_unique f t n e) (c - 1) (omega (arith, h, k)) ∙ omega (arith, h)

  name-found : (x : List ℕ) → (named_of f x).number ≡ 0
      → (1 ≤ (named_of f x).place) × ((named_of f x).place ≤ length t.names) × (name_at t (named_of f x).place ≡ x)
  name-found x z =
      let d = named-found x t.names (ap (λ (r : Named). r.number) (sym (named_is x)) ∙ z) in
      let q : (named_of f x).place ≡ place_in x t.names + 1 = ap (λ (r : Named). r.place) (named_is x) ∙ named-place (number_among x t.names) ∙ d.1 in
      let m : place_in x t.names + 1 - 1 ≡ place_in x t.names = omega arith in
      (omega (arith, q), omega (arith, q, d.0), ap (name_at t) q ∙ ap (λ (j : ℕ). get_or t.names j []) m ∙ place-name x t.names d.0)

pub labels_hold : LabelsHold
labels_hold f t n e = record {
  name = subst (λ (u : Table). (c : ℕ) → 1 ≤ c → c ≤ length u.names → bytes_at f (name_place f c).place ≡ name_at u c) (table_is f t n e) (name-shown f t n e);
  back = name_back f t n e;
  found = name-found f t n e;
  header = subst (λ (u : Table). (k : ℕ) → 1 ≤ k → k ≤ length u.headers
      → (bytes_at f (header_for f k).name ≡ (header_number u k).name) × (bytes_at f (header_for f k).value ≡ trim (header_number u k).value)) (table_is f t n e) (header-shown f t n e);
}
