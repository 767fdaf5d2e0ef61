-- A column by its name, and names, units and headers by their places, in an opened file.
use Prim.Native.Nat.{ℕ, zero, suc, ◌+◌, ◌-◌, ◌≤◌, ◌<◌}
use mathlib.Core.Path.{◌≡◌, refl, sym, ap, subst, ◌∙◌}
use mathlib.Core.List.{List, [], map}
use mathlib.Core.Bool.{Bool, true, false, cond, ◌&&◌, ◌||◌}
use native.Mathlib.Nat.{add-zero}
use native.Mathlib.Omega.{arith}
use lib.ListN.{length, get_or, length-drop}
use lib.Dec.{leb, ltb, leb-suc-suc}
use borrow.Author.Tests.{ne_eqb, lt-leb, le-leb, ltb-true, ltb-false}
use Rattle.line_bytes.specs.declared.Span.{Span}
use Rattle.line_bytes.specs.Cells.{pieces, line_at}
use Rattle.line_bytes.specs.Spaces.{trim_span}
use Rattle.line_bytes.proofs.SpaceLaws.{span_fits}
use Rattle.format.specs.declared.CellPlace.{CellPlace}
use Rattle.format.specs.declared.HeaderPlace.{HeaderPlace}
use Rattle.format.specs.declared.Named.{Named}
use Rattle.format.specs.declared.Opened.{Opened}
use Rattle.format.specs.Headers.{raw_name, value_of, Header, header_of}
use Rattle.format.specs.NamesLine.{number_among, column_in_line}
use Rattle.format.specs.Places.{Table, Outcome, accepted, refused, outcome_of}
use Rattle.format.specs.Grid.{starts, span_in}
use Rattle.format.specs.Profiles.{grid}
use Rattle.format.specs.Answers.{trimmed_place}
use Rattle.format.specs.Records.{headers_line, header_place, no_place}
use Rattle.format.specs.Opened.{line_begin, names_line, opened_of}
use Rattle.format.specs.Labels.{none_named, named_at, named_by, named_of, label_at, name_by, name_place, unit_by, unit_place, header_name_place, no_header, header_at, header_by, header_for}
use Rattle.format.specs.Inner.Grid.{line_start, cell_span}
use Rattle.format.specs.Inner.Heads.{LineStands, HeaderLines, none, more}
use Rattle.format.specs.Inner.Labels.{label_in, HasEquals, header_in}
use Rattle.format.specs.Inner.Lines.{lines_from}
use Rattle.format.proofs.GridLaws.{get_d_mapped}
use Rattle.format.proofs.GridWalkLaws.{start_none}
use Rattle.format.proofs.HeadLaws.{equals-inside, lines-before}
use Rattle.format.proofs.OpenedLaws.{LineThere, line-there, headers-order, OpenedTable, opened-table, opened-refused}
use Rattle.format.proofs.RunLaws.{lines_more}

-- ---- the label of a column in a line, by the code's test
module _ (s : List ℕ) (i c n : ℕ) where
  pub label-none : (ltb c 1 || ltb n c) ≡ true → no_place 21 0 0 ≡ label_in s i c n
  unfolding label_in
  label-none e = go (ltb c 1) (ltb n c) refl refl e
    where
      go : (a b : Bool) → ltb c 1 ≡ a → ltb n c ≡ b → (a || b) ≡ true
          → no_place 21 0 0 ≡ cond (leb 1 c && leb c n) (record { number = 0; line = 0; column = 0; place = trimmed_place s (cell_span s i (c - 1)) }) (no_place 21 0 0)
      go true b p q e = rw (lt-leb 1 c (ltb-true c 1 p))
      go false true p q e = rw (le-leb 1 c (ltb-false c 1 p), lt-leb c n (ltb-true n c q))
      go false false p q e = let z : ◌≡◌ {A = ℕ} 0 1 = cc in absurd (omega arith)

  module _ (e : (ltb c 1 || ltb n c) ≡ false) where
    pub column-inside : (1 ≤ c) × (c ≤ n)
    column-inside = go (ltb c 1) (ltb n c) refl refl e
      where
        go : (a b : Bool) → ltb c 1 ≡ a → ltb n c ≡ b → (a || b) ≡ false → (1 ≤ c) × (c ≤ n)
        go false false p q e = (ltb-false c 1 p, ltb-false n c q)
        go false true p q e = let z : ◌≡◌ {A = ℕ} 0 1 = cc in absurd (omega arith)
        go true b p q e = let z : ◌≡◌ {A = ℕ} 0 1 = cc in absurd (omega arith)

    pub label-some : (p x : Span) → p ≡ cell_span s i (c - 1) → x ≡ trim_span s p.start (p.start + p.len)
        → ◌≡◌ {A = CellPlace} (record { number = 0; line = 0; column = 0; place = x }) (label_in s i c n)
    unfolding label_in
    label-some p x ep ex =
        rw (le-leb 1 c column-inside.0, le-leb c n column-inside.1)
        (ap (λ (y : Span). record { number = 0; line = 0; column = 0; place = y }) (ex ∙ ap (trimmed_place s) ep))

line-inside : {s : List ℕ} {l i : ℕ} → LineThere s l i → l < length (pieces 10 s)
line-inside {s} {l} w = omega (arith, length-drop l (pieces 10 s), ap length w.lines)

-- of a line of the file that another follows
pub label-there : (s : List ℕ) (t : Table) (l i c : ℕ) → LineThere s l i → label_in s i c (length t.names) ≡ label_at t s l c
unfolding label_in
label-there s t l i c w =
    ap (λ (p : Span). cond (leb 1 c && leb c (length t.names)) (record { number = 0; line = 0; column = 0; place = trimmed_place s p }) (no_place 21 0 0)) span_is
  where
    span_is : cell_span s i (c - 1) ≡ span_in (line_begin s l) (get_or (grid s) l []) (c - 1)
    span_is =
        ap (λ (ts : List (List ℕ)). span_in i ts (c - 1)) (ap (pieces 44) w.stands.text ∙ sym (get_d_mapped (pieces 10 s) l (line-inside w)))
        ∙ ap (λ (j : ℕ). span_in j (get_or (grid s) l []) (c - 1)) w.stands.place

-- ---- the lines after a place
start-next : (s : List ℕ) (i j : ℕ) → i + length (line_at s i) < length s → line_start s i (suc j) ≡ line_start s (i + length (line_at s i) + 1) j
unfolding line_start starts
start-next s i j far =
    let k = i + length (line_at s i) + 1 in
    let n : i + (length (line_at s i) + 1 + starts (map length (lines_from s k)) j) ≡ k + starts (map length (lines_from s k)) j = omega arith in
    ap (λ (ls : List (List ℕ)). cond (ltb (suc j) (length ls)) (i + starts (map length ls) (suc j)) (length s)) (lines_more s i far)
    ∙ ap (λ (b : Bool). cond b (i + (length (line_at s i) + 1 + starts (map length (lines_from s k)) j)) (length s)) (leb-suc-suc (suc j) (length (lines_from s k)))
    ∙ ap (λ (m : ℕ). cond (ltb j (length (lines_from s k))) m (length s)) n

start-after : (s : List ℕ) (i j : ℕ) → i ≤ length s → i ≤ line_start s i j
unfolding line_start
start-after s i j h = go (ltb j (length (lines_from s i)))
  where
    go : (b : Bool) → i ≤ cond b (i + starts (map length (lines_from s i)) j) (length s)
    go true = omega arith
    go false = h

-- ---- headers that stand one a line
-- header h stands on line l, which starts at i, before the names line
pub record HeaderThere (s : List ℕ) (end i l : ℕ) (h : Header) : Type 0 where
  pub before : i < end
  pub stands : LineStands s l i
  pub equals : HasEquals s i
  pub is : h ≡ header_of (line_at s i)

pub header-there : {s : List ℕ} {end i l : ℕ} {hs : List Header} (d : Header) → HeaderLines s end i l hs → (j : ℕ) → j < length hs → HeaderThere s end (line_start s i j) (l + j) (get_or hs j d)
header-there d none j h = absurd (omega arith)
header-there {s} {end} {i} {l} d (more {hs = hs} w a b g) zero h =
    subst (λ (k : ℕ). HeaderThere s end k (l + 0) (header_of (line_at s i))) (sym (start_none s i))
    (subst (λ (m : ℕ). HeaderThere s end i m (header_of (line_at s i))) (sym (add-zero l))
    (record { before = omega (arith, headers-order g); stands = w; equals = record { before = equals-inside (line_at s i) b; fed = w.fed }; is = refl }))
header-there {s} {end} {i} {l} d (more {hs = hs} w a b g) (suc j) h =
    let n : l + suc j ≡ l + 1 + j = omega arith in
    subst (λ (k : ℕ). HeaderThere s end k (l + suc j) (get_or hs j d)) (sym (start-next s i j w.fed))
    (subst (λ (m : ℕ). HeaderThere s end (line_start s (i + length (line_at s i) + 1) j) m (get_or hs j d)) (sym n) (header-there d g j (omega (arith, h))))

-- the line after the last of them, and any further one
header_past : {s : List ℕ} {end i l : ℕ} {hs : List Header} → HeaderLines s end i l hs → end ≤ length s → (j : ℕ) → length hs ≤ j → end ≤ line_start s i j
header_past {s} {end} none h j k = start-after s end j h
header_past (more w a b g) h zero k = absurd (omega arith)
header_past {s} {end} {i} (more w a b g) h (suc j) k = rw (start-next s i j w.fed) (header_past g h j (omega (arith, k)))

-- its parts by their places
header_places : (s : List ℕ) (l i : ℕ) → LineStands s l i → HasEquals s i → header_in s i ≡ header_at s l
header_places s l i w h = λ x. record {
  number = 0;
  line = 0;
  column = 0;
  name = name_is x;
  value = value_is x;
}
  where
    x : List ℕ
    x = get_or (pieces 10 s) l []

    name_is : trim_span s i (i + length (raw_name (line_at s i))) ≡ trimmed_place s (header_name_place s l)
    name_is = ap (λ (y : List ℕ). trim_span s i (i + length (raw_name y))) w.text ∙ ap (λ (j : ℕ). trim_span s j (j + length (raw_name x))) w.place

    value_is : trim_span s (i + length (raw_name (line_at s i)) + 1) (i + length (line_at s i)) ≡ trimmed_place s (header_place s l)
    value_is =
        let n = length (raw_name (line_at s i)) in
        let e : i + length (line_at s i) ≡ i + n + 1 + length (value_of (line_at s i)) = omega (arith, h.before, length-drop (n + 1) (line_at s i)) in
        ap (trim_span s (i + n + 1)) e
        ∙ ap (λ (y : List ℕ). trim_span s (i + length (raw_name y) + 1) (i + length (raw_name y) + 1 + length (value_of y))) w.text
        ∙ ap (λ (j : ℕ). trim_span s (j + length (raw_name x) + 1) (j + length (raw_name x) + 1 + length (value_of x))) w.place

-- and as the code finds them: the = at q, the line feed at e
pub header_read : (s : List ℕ) (i q e : ℕ) (n v : Span) → q ≡ i + length (raw_name (line_at s i)) → e ≡ i + length (line_at s i) → n ≡ trim_span s i q → v ≡ trim_span s (q + 1) e
    → ◌≡◌ {A = HeaderPlace} (record { number = 0; line = 0; column = 0; name = n; value = v }) (header_in s i)
header_read s i q e n v eq ee en ev = rw (en, ev) (rw (eq, ee))

-- ---- an opened file
module _ (s : List ℕ) (o : Opened) (q : o ≡ opened_of s) where
  module _ (z : o.checked.number ≡ 0 → ⊥) where
    pub named-refused : (name : List ℕ) → none_named o.checked.number o.checked.line o.checked.column ≡ named_of s name
    unfolding named_of
    named-refused name = sym (ap (named_by name) (opened-refused s o q z))

    pub name-refused : (c : ℕ) → no_place o.checked.number o.checked.line o.checked.column ≡ name_place s c
    unfolding name_place
    name-refused c = sym (ap (name_by s c) (opened-refused s o q z))

    pub unit-refused : (c : ℕ) → no_place o.checked.number o.checked.line o.checked.column ≡ unit_place s c
    unfolding unit_place
    unit-refused c = sym (ap (unit_by s c) (opened-refused s o q z))

    pub header_refused : (k : ℕ) → no_header o.checked.number o.checked.line o.checked.column ≡ header_for s k
    unfolding header_for
    header_refused k = sym (ap (header_by s k) (opened-refused s o q z))

  module _ (z : o.checked.number ≡ 0) where
    w : OpenedTable s o
    w = opened-table s o q z

    abbrev t : Table
    t = w.table

    -- ---- a column by its name
    named_is : (name : List ℕ) (k : ℕ) → k ≡ column_in_line (line_at s o.names) name → named_at k ≡ named_of s name
    unfolding named_of column_in_line
    named_is name k e = ap named_at (e ∙ ap (number_among name) (sym w.named.names_are)) ∙ sym (ap (named_by name) w.is)

    pub named_none : (name : List ℕ) (k : ℕ) → k ≡ column_in_line (line_at s o.names) name → k ≡ 0 → none_named 21 0 0 ≡ named_of s name
    named_none name k e h = ap named_at (sym h) ∙ named_is name k e

    pub named_some : (name : List ℕ) (k : ℕ) → k ≡ column_in_line (line_at s o.names) name → (k ≡ 0 → ⊥)
        → ◌≡◌ {A = Named} (record { number = 0; line = 0; column = 0; place = k }) (named_of s name)
    named_some name k e h = sym (ap (λ (b : Bool). cond b (none_named 21 0 0) (record { number = 0; line = 0; column = 0; place = k })) (ne_eqb k 0 h)) ∙ named_is name k e

    -- ---- its name and its unit
    pub name_label : (c : ℕ) → label_in s o.names c o.checked.columns ≡ name_place s c
    unfolding name_place
    name_label c = ap (label_in s o.names c) w.columns ∙ label-there s t (names_line t) o.names c w.names ∙ sym (ap (name_by s c) w.is)

    above : length t.headers + 2 ≤ t.line
    above = lines-before s t o.checked.rows w.is

    pub units-inside : o.names + length (line_at s o.names) < length s
    units-inside = w.names.stands.fed

    pub unit_label : (i c : ℕ) → i ≡ o.names + length (line_at s o.names) → label_in s (i + 1) c o.checked.columns ≡ unit_place s c
    unfolding unit_place
    unit_label i c e =
        let m : names_line t + 1 ≡ t.line - 1 = omega (arith, above) in
        let p : i + 1 ≡ line_begin s (t.line - 1) = ap (λ (j : ℕ). j + 1) e ∙ w.names.next ∙ ap (line_begin s) m in
        let h : LineThere s (t.line - 1) (line_begin s (t.line - 1)) = line-there s (t.line - 1) (omega (arith, above, line-inside w.first)) in
        ap (label_in s (i + 1) c) w.columns ∙ ap (λ (j : ℕ). label_in s j c (length t.names)) p ∙ label-there s t (t.line - 1) (line_begin s (t.line - 1)) c h
        ∙ sym (ap (unit_by s c) w.is)

    -- ---- header k
    pub header_zero : (k : ℕ) → k ≡ 0 → no_header 21 0 0 ≡ header_for s k
    unfolding header_for
    header_zero k h = rw h (sym (ap (header_by s 0) w.is))

    module _ (k at : ℕ) (h : k ≡ 0 → ⊥) (e : at ≡ line_start s o.headers (k - 1)) where
      pub header-missed : o.names ≤ at → no_header 21 0 0 ≡ header_for s k
      unfolding header_for
      header-missed l =
          rw w.is (rw (le-leb 1 k (omega (arith, h)), lt-leb k (length t.headers) (go (ltb (k - 1) (length t.headers)) refl)))
        where
          go : (b : Bool) → ltb (k - 1) (length t.headers) ≡ b → length t.headers < k
          go true u = absurd (omega (arith, l, e, (header-there (header_of []) w.headers (k - 1) (ltb-true (k - 1) (length t.headers) u)).before))
          go false u = omega (arith, h, ltb-false (k - 1) (length t.headers) u)

      module _ (l : at < o.names) where
        inside : k - 1 < length t.headers
        inside = go (ltb (k - 1) (length t.headers)) refl
          where
            go : (b : Bool) → ltb (k - 1) (length t.headers) ≡ b → k - 1 < length t.headers
            go true u = ltb-true (k - 1) (length t.headers) u
            go false u = absurd (omega (arith, l, e, header_past w.headers w.names.inside (k - 1) (ltb-false (k - 1) (length t.headers) u)))

        there : HeaderThere s o.names at (headers_line t + (k - 1)) (get_or t.headers (k - 1) (header_of []))
        there = rw e (header-there (header_of []) w.headers (k - 1) inside)

        pub header-equals : HasEquals s at
        header-equals = there.equals

        pub header-found : header_in s at ≡ header_for s k
        unfolding header_for
        header-found =
            header_places s (headers_line t + (k - 1)) at there.stands there.equals
            ∙ sym (ap (header_by s k) w.is
            ∙ rw (le-leb 1 k (omega (arith, h)), le-leb k (length t.headers) (omega (arith, h, inside))))

-- ---- every place lies in the file
label-fits : (s : List ℕ) (t : Table) (l c : ℕ) → (label_at t s l c).place.start + (label_at t s l c).place.len ≤ length s
label-fits s t l c = go (leb 1 c && leb c (length t.names))
  where
    p : Span
    p = span_in (line_begin s l) (get_or (grid s) l []) (c - 1)

    go : (b : Bool) → let x : CellPlace = cond b (record { number = 0; line = 0; column = 0; place = trimmed_place s p }) (no_place 21 0 0) in x.place.start + x.place.len ≤ length s
    go true = span_fits s p.start (p.start + p.len) _ refl
    go false = omega arith

module _ (s : List ℕ) where
  pub name-fits : (c : ℕ) → (name_place s c).place.start + (name_place s c).place.len ≤ length s
  unfolding name_place
  name-fits c = go (outcome_of s)
    where
      go : (x : Outcome) → (name_by s c x).place.start + (name_by s c x).place.len ≤ length s
      go (accepted t n) = label-fits s t (names_line t) c
      go (refused a b d) = omega arith

  pub unit-fits : (c : ℕ) → (unit_place s c).place.start + (unit_place s c).place.len ≤ length s
  unfolding unit_place
  unit-fits c = go (outcome_of s)
    where
      go : (x : Outcome) → (unit_by s c x).place.start + (unit_by s c x).place.len ≤ length s
      go (accepted t n) = label-fits s t (t.line - 1) c
      go (refused a b d) = omega arith

  pub header-fits : (k : ℕ) → ((header_for s k).name.start + (header_for s k).name.len ≤ length s) × ((header_for s k).value.start + (header_for s k).value.len ≤ length s)
  unfolding header_for
  header-fits k = go (outcome_of s)
    where
      by : (b : Bool) (l : ℕ) → let x = cond b (header_at s l) (no_header 21 0 0) in (x.name.start + x.name.len ≤ length s) × (x.value.start + x.value.len ≤ length s)
      by true l = (
        span_fits s (header_name_place s l).start ((header_name_place s l).start + (header_name_place s l).len) _ refl,
        span_fits s (header_place s l).start ((header_place s l).start + (header_place s l).len) _ refl,
      )
      by false l = (omega arith, omega arith)

      go : (x : Outcome) → let y = header_by s k x in (y.name.start + y.name.len ≤ length s) × (y.value.start + y.value.len ≤ length s)
      go (accepted t n) = by (leb 1 k && leb k (length t.headers)) (headers_line t + (k - 1))
      go (refused a b d) = (omega arith, omega arith)
