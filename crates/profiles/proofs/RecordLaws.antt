-- A profile found in an opened file: its rows, and where its station values stand; then the calls.
use Prim.Native.Nat.{ℕ, suc, ◌+◌, ◌-◌, ◌≤◌, ◌<◌}
use mathlib.Core.Path.{◌≡◌, refl, sym, ap, subst, ◌∙◌}
use mathlib.Core.List.{List, [], ◌∷◌, map}
use mathlib.Core.Bool.{cond}
use native.Mathlib.Omega.{arith}
use lib.ListN.{length, get_or, take, drop, length-map}
use lib.Dec.{ltb}
use Rattle.std.specs.Prelude.{Option, Some, None, Result, Ok, Err, IsOk}
use borrow.Author.Tests.{ne_eqb}
use Rattle.line_bytes.specs.declared.Span.{Span}
use Rattle.line_bytes.specs.Bytes.{bytes}
use Rattle.line_bytes.specs.Cells.{line_at, pieces}
use Rattle.line_bytes.specs.Spaces.{trim_span}
use Rattle.verdicts.specs.Kinds.{kind_of}
use Rattle.line_bytes.proofs.SpaceLaws.{span_fits}
use Rattle.format.specs.declared.FileKind.{FileKind}
use Rattle.format.specs.declared.FileKind.TheVariants.{Bottle}
use Rattle.format.specs.declared.BrokenRule.{BrokenRule}
use Rattle.format.specs.declared.Refusal.{Refusal}
use Rattle.std.specs.Option.{ok_or}
use Rattle.format.specs.declared.Opened.{Opened}
use Rattle.format.specs.declared.CastTime.{CastTime}
use Rattle.format.specs.declared.ProfileRecord.{ProfileRecord}
use Rattle.format.specs.declared.CellPlace.{CellPlace}
use Rattle.columns.specs.declared.Columns.{Columns}
use Rattle.profiles.specs.declared.runs.Run.{Run}
use Rattle.profiles.specs.declared.runs.ProfileAt.{ProfileAt}
use Rattle.profiles.specs.declared.values.ValueAt.{ValueAt}
use Rattle.format.specs.Faults.{clean, place_in}
use Rattle.format.specs.Columns.{Sort, bottle, ctd, names_of, kind_of_name, kinds_of}
use Rattle.format.specs.Places.{Table, accepted, outcome_of}
use Rattle.format.specs.Grid.{starts, span_in}
use Rattle.format.specs.Profiles.{Key, key_of, labels, rows_of}
use Rattle.format.specs.Answers.{rows_in, kind_by, row_cells}
use Rattle.format.specs.Records.{Value, given, absent, column_value, value_by, station_value, labels_by, profile_rows, number_in, cast_time, record_of, profile_by, profile_of, Stationed, stands, refused_by, stationed_at, stationed_in, stationed_by, stationed_of, station_place, station_refusal, no_place, station_answer}
use Rattle.format.specs.Opened.{opened_of}
use Rattle.format.specs.Inner.Faults.{names_line_fault}
use Rattle.format.specs.Inner.Grid.{line_start}
use Rattle.format.specs.Inner.Rows.{line_cells, rows_from}
use Rattle.columns.specs.Inner.Columns.{columns_for, ColumnsRead}
use Rattle.profiles.specs.Inner.Profiles.{RowLines, RunIs, RunOf, RunRead}
use Rattle.profiles.specs.Inner.Values.{ValueStands, ValueRead, HeadersStand, HeaderFound, value_in, RunFound, ValuesIn, ProfileFound, ProfileRead}
use Rattle.format.proofs.AcceptLaws.{RowKept, rows-kept, rows-some, accepted-table}
use Rattle.format.proofs.GridLaws.{RowAt}
use Rattle.format.proofs.OpenedLaws.{OpenedTable, opened-refused, opened-table, rows-first, row-found}
use Rattle.columns.proofs.ColumnLaws.{columns-kept, columns-read}
use Rattle.profiles.proofs.ProfileLaws.{rows-lines, rows-many}

-- ---- the rows of a profile
-- of a CTD file: all, or none
ones-many : (r : ℕ) (ys : List Key) → length (rows_of 1 r (map (λ (y : Key). 1) ys)) ≡ length ys
unfolding rows_of
ones-many r [] = refl
ones-many r (y ∷ ys) = ap suc (ones-many (r + 1) ys)

ones-run : (ys : List Key) → 0 < length ys → RunIs (rows_of 1 1 (map (λ (y : Key). 1) ys)) (record { first = 1; rows = length ys })
unfolding rows_of
ones-run [] h = absurd (omega arith)
ones-run (y ∷ ys) h = record { some = h; many = sym (ones-many 1 (y ∷ ys)); first = refl }

others-none : (k r : ℕ) (ys : List Key) → (k ≡ 1 → ⊥) → rows_of k r (map (λ (y : Key). 1) ys) ≡ []
unfolding rows_of
others-none k r [] h = refl
others-none k r (y ∷ ys) h = rw (ne_eqb 1 k (λ e. h (sym e))) (others-none k (r + 1) ys h)

-- the sort of a file's table by the file's kind
sort-bottle : (q : Sort) → Bottle ≡ kind_by q → q ≡ bottle
sort-bottle bottle e = refl
sort-bottle ctd e = let z : ◌≡◌ {A = ℕ} 0 1 = cc in absurd (omega arith)

sort-ctd : (k : FileKind) (q : Sort) → k ≡ kind_by q → (k ≡ Bottle → ⊥) → q ≡ ctd
sort-ctd k bottle e h = absurd (h e)
sort-ctd k ctd e h = refl

module _ {s : List ℕ} {o : Opened} (w : OpenedTable s o) where
  abbrev table : Table
  table = w.table

  abbrev rows : ℕ
  rows = o.checked.rows

  rows_stand : RowLines s (kinds_of table.names) o.first rows
  rows_stand = rows-lines rows s table o.first (λ r h. subst (λ (ps : List (List ℕ)). RowKept table ps r) (sym w.first.lines) (rows-kept s table rows w.is r h))

  keys : List Key
  keys = map (key_of (kinds_of table.names)) (rows_in table rows s)

  rows_are : rows_from s o.first rows ≡ rows_in table rows s
  rows_are = rows-first s table o.first rows w.first.lines

  keys-many : length keys ≡ rows
  unfolding keys
  keys-many = length-map (rows_in table rows s) (key_of (kinds_of table.names)) ∙ ap length (sym rows_are) ∙ rows-many rows_stand

  module _ (k : ℕ) where
    -- for the table of the file, whatever it is called
    for-table : (t : Table) (r : Option Run) → outcome_of s ≡ accepted t rows → RunOf (profile_rows table rows s k) r → RunOf (profile_rows t rows s k) r
    for-table t r e h = subst (λ (u : Table). RunOf (profile_rows u rows s k) r) (accepted-table (sym w.is ∙ e)) h

    rows_by : (q : Sort) → table.sort ≡ q → profile_rows table rows s k ≡ rows_of k 1 (labels_by q keys)
    unfolding profile_rows keys
    rows_by q e = ap (λ (x : Sort). rows_of k 1 (labels_by x (map (key_of (kinds_of table.names)) (rows_in table rows s)))) e

  -- the kinds of a bottle file's columns
  module _ (h : o.checked.kind ≡ Bottle) where
    is-bottle : table.sort ≡ bottle
    is-bottle = sort-bottle table.sort (sym h ∙ w.kind)

    pub columns-stand : (r : Result Columns BrokenRule) → r ≡ columns_for bottle (line_at s o.names) → IsOk r
    columns-stand r e = rw (e ∙ columns-kept bottle (line_at s o.names) (subst (λ (q : Sort). names_line_fault q (line_at s o.names) ≡ clean) is-bottle w.named.rules)) refl

    module _ (c : Columns) (ec : columns_for bottle (line_at s o.names) ≡ Ok c) where
      columns : ColumnsRead bottle (line_at s o.names) c
      columns = columns-read bottle (line_at s o.names) c ec

      kinds_are : take c.count c.kinds ≡ kinds_of table.names
      kinds_are = columns.kinds ∙ ap kinds_of (sym w.named.names_are)

      kinds-many : length (take c.count c.kinds) ≡ c.count
      kinds-many = ap length columns.kinds ∙ length-map (names_of (line_at s o.names)) kind_of_name ∙ sym columns.many

      pub kinds_taken : c.count ≡ length (take c.count c.kinds)
      kinds_taken = sym kinds-many

      pub kinds-room : c.count ≤ 256
      kinds-room = columns.few

      pub kinds-some : 0 < length (take c.count c.kinds)
      kinds-some = omega (arith, kinds-many, columns.many)

      pub bottle-rows : RowLines s (take c.count c.kinds) o.first rows
      bottle-rows = subst (λ (ks : List ℕ). RowLines s ks o.first rows) (sym kinds_are) rows_stand

      pub bottle-run : (k : ℕ) (r : Option Run) → RunRead s (take c.count c.kinds) o.first rows k r → RunFound s rows k r
      unfolding keys
      bottle-run k r x = record {
        run = λ t e. for-table k t r e (subst (λ (xs : List ℕ). RunOf xs r) (same ∙ sym (rows_by k bottle is-bottle)) x.run);
        within = x.within;
      }
        where
          same : rows_of k 1 (labels (map (key_of (take c.count c.kinds)) (rows_from s o.first rows))) ≡ rows_of k 1 (labels (map (key_of (kinds_of table.names)) (rows_in table rows s)))
          same =
              ap (λ (ks : List ℕ). rows_of k 1 (labels (map (key_of ks) (rows_from s o.first rows)))) kinds_are
              ∙ ap (λ (rs : List (List (List ℕ))). rows_of k 1 (labels (map (key_of (kinds_of table.names)) rs))) rows_are

  module _ (h : o.checked.kind ≡ Bottle → ⊥) (k : ℕ) where
    ctd-rows : profile_rows table rows s k ≡ rows_of k 1 (map (λ (y : Key). 1) keys)
    ctd-rows = rows_by k ctd (sort-ctd o.checked.kind table.sort w.kind h)

    some-rows : 1 ≤ rows
    some-rows = rows-some s table rows w.is

    pub ctd-run : k ≡ 1 → RunFound s rows k (Some (record { first = 1; rows = rows }))
    ctd-run e = record {
      run = λ t q. for-table k t (Some (record { first = 1; rows = rows })) q
          (subst (λ (xs : List ℕ). RunIs xs (record { first = 1; rows = rows })) (sym (ctd-rows ∙ ap (λ (j : ℕ). rows_of j 1 (map (λ (y : Key). 1) keys)) e))
          (subst (λ (n : ℕ). RunIs (rows_of 1 1 (map (λ (y : Key). 1) keys)) (record { first = 1; rows = n })) keys-many (ones-run keys (omega (arith, keys-many, some-rows)))));
      within = (omega arith, some-rows);
    }

    pub ctd-none : (k ≡ 1 → ⊥) → RunFound s rows k None
    ctd-none e = record { run = λ t q. for-table k t None q (ctd-rows ∙ others-none k 1 keys e); within = tt }

-- ---- the profile
run-some : (xs : List ℕ) (r : Run) → RunIs xs r → xs ≡ r.first ∷ drop 1 xs
run-some [] r h = absurd (omega (arith, h.some, h.many))
run-some (x ∷ xs) r h = ap (λ (y : ℕ). y ∷ xs) (sym h.first)

module _ (s : List ℕ) (k : ℕ) (o : Opened) (q : o ≡ opened_of s) where
  pub profile-refused : (o.checked.number ≡ 0 → ⊥) → ProfileRead s k (Err (record { number = o.checked.number; line = o.checked.line; column = o.checked.column }))
  unfolding profile_of stationed_of
  profile-refused z = (ap (profile_by s k) (opened-refused s o q z), λ name. ap (stationed_by s k name) (opened-refused s o q z))

  module _ (z : o.checked.number ≡ 0) where
    w : OpenedTable s o
    w = opened-table s o q z

    found : List ℕ
    found = profile_rows w.table o.checked.rows s k

    profile_by_lem : (xs : List ℕ) → found ≡ xs → profile_of s k ≡ record_of w.table s xs
    unfolding profile_of found
    profile_by_lem xs e = ap (profile_by s k) w.is ∙ ap (record_of w.table s) e

    station_by : (xs name : List ℕ) → found ≡ xs → stationed_of s k name ≡ stationed_in w.table s name xs
    unfolding stationed_of found
    station_by xs name e = ap (stationed_by s k name) w.is ∙ ap (stationed_in w.table s name) e

    pub profile-none : RunFound s o.checked.rows k None → ProfileRead s k (Err (record { number = 21; line = 0; column = 0 }))
    unfolding found
    profile-none f = (profile_by_lem [] (f.run w.table w.is), λ name. station_by [] name (f.run w.table w.is))

    -- as the code turns a run that is not there into the refusal
    pub profile-missed : (r : Option Run) (e : Refusal) → RunFound s o.checked.rows k r → Err e ≡ ok_or r (record { number = 21; line = 0; column = 0 }) → ProfileRead s k (Err e)
    profile-missed None e f h = let z : e ≡ record { number = 21; line = 0; column = 0 } = cc in subst (λ (x : Refusal). ProfileRead s k (Err x)) (sym z) (profile-none f)
    profile-missed (Some r) e f h = let z : ◌≡◌ {A = ℕ} 0 1 = cc in absurd (omega arith)

    module _ (r : Run) (f : RunFound s o.checked.rows k (Some r)) where
      run_is : RunIs found r
      unfolding found
      run_is = f.run w.table w.is

      list : found ≡ r.first ∷ drop 1 found
      list = run-some found r run_is

      pub profile-found : (at : ℕ) → at ≡ line_start s o.first (r.first - 1)
          → ProfileRead s k (Ok (record { kind = o.checked.kind; headers = o.headers; names = o.names; at = at; first = r.first; rows = r.rows }))
      profile-found at e = (w.table, it)
        where
          row : RowAt s w.table (r.first - 1) at
          row = subst (RowAt s w.table (r.first - 1)) (sym e) (row-found w (r.first - 1) (omega (arith, f.within.0, f.within.1)))

          it : ProfileFound s k w.table (record { kind = o.checked.kind; headers = o.headers; names = o.names; at = at; first = r.first; rows = r.rows })
          it = record {
            others = drop 1 found;
            many = run_is.many ∙ ap length list;
            record_is = profile_by_lem (r.first ∷ drop 1 found) list;
            station = λ name. station_by (r.first ∷ drop 1 found) name list;
            values = record {
              sort = w.kind;
              named = w.named.names_are;
              columns = record { row = row.feed; many = row.many ∙ ap length w.named.names_are };
              cells = row.cells;
              place = row.place;
              headers = w.headers;
            };
          }

-- ---- the value of a name in it
module _ (s : List ℕ) (t : Table) (p : ProfileAt) (w : ValuesIn s t p) where
  module _ (name : List ℕ) (h : p.kind ≡ Bottle) where
    value_at_lem : List (List ℕ) → List (List ℕ) → ℕ → Value
    value_at_lem ns ts i = cond (ltb (place_in name ns) (length ns)) (given (get_or ts (place_in name ns) []) (span_in i ts (place_in name ns))) absent

    column_is : value_in s p.names p.at name ≡ column_value t s p.first name
    unfolding value_in column_value value_at_lem
    column_is =
        let c = row_cells t s p.first in
        let i = starts (map length (pieces 10 s)) (t.line + (p.first - 1)) in
        let k = place_in name t.names in
        let e : k ≡ k + 1 - 1 = omega arith in
        ap (λ (ns : List (List ℕ)). value_at_lem ns (line_cells s p.at) p.at) (sym w.named)
        ∙ ap (λ (ts : List (List ℕ)). value_at_lem t.names ts p.at) w.cells
        ∙ ap (value_at_lem t.names c) w.place
        ∙ ap (λ (m : ℕ). cond (ltb k (length t.names)) (given (get_or c m []) (span_in i c m)) absent) e

    pub station-column : (r : Option ValueAt) → ValueRead s (value_in s p.names p.at name) r → ValueRead s (station_value t s p.first name) r
    unfolding station_value
    station-column r x = subst (λ (o : Sort). ValueRead s (value_by o t s p.first name) r) (sym (sort-bottle t.sort (sym h ∙ w.sort))) (rw column_is at x)

  pub station-headers : HeadersStand s p.headers p.names
  station-headers = (_, _, w.headers)

  pub station-header : (p.kind ≡ Bottle → ⊥) → (name : List ℕ) (r : Option ValueAt) → HeaderFound s p.headers p.names name r → ValueRead s (station_value t s p.first name) r
  unfolding station_value
  station-header h name r x = subst (λ (o : Sort). ValueRead s (value_by o t s p.first name) r) (sym (sort-ctd p.kind t.sort w.sort h)) (x _ _ w.headers)

-- ---- the calls
module _ (s : List ℕ) (k : ℕ) (p : ProfileAt) (t : Table) (w : ProfileFound s k t p) where
  pub record-given : (a b : ℕ) (c : CastTime) → c ≡ cast_time (station_value t s p.first (bytes "TIME"))
      → a ≡ number_in (kind_of 8) (station_value t s p.first (bytes "CASTNO")) → b ≡ number_in (kind_of 9) (station_value t s p.first (bytes "DATE"))
      → ◌≡◌ {A = ProfileRecord} (record { number = 0; line = 0; column = 0; time = c; first = p.first; rows = p.rows; castno = a; date = b }) (profile_of s k)
  unfolding kind_of
  record-given a b c ec ea eb =
      (λ i. record { number = 0; line = 0; column = 0; time = ec i; first = p.first; rows = w.many i; castno = ea i; date = eb i }) ∙ sym w.record_is

  module _ (name : List ℕ) where
    station_is : (y : Value) → station_value t s p.first name ≡ y → stationed_of s k name ≡ stationed_at y
    station_is y e = w.station name ∙ ap stationed_at e

    pub place_none : station_value t s p.first name ≡ absent → no_place 21 0 0 ≡ station_answer s (stationed_of s k name)
    place_none x = sym (ap (station_answer s) (station_is absent x))

    pub place_found : (v : ValueAt) → ValueStands s (station_value t s p.first name) v → (q : Span) → q ≡ trim_span s v.start (v.start + v.len)
        → ◌≡◌ {A = CellPlace} (record { number = 0; line = 0; column = 0; place = q }) (station_answer s (stationed_of s k name))
    place_found v x q e = (λ i. record { number = 0; line = 0; column = 0; place = e i }) ∙ sym (ap (station_answer s) (station_is _ x.is))

-- both answers from the one by value
module _ (s : List ℕ) (x : Stationed) (r : CellPlace) (e : r ≡ station_answer s x) where
  pub answer-place : r.place ≡ station_place s x
  answer-place = ap (λ (y : CellPlace). y.place) e ∙ go x
    where
      go : (x : Stationed) → (station_answer s x).place ≡ station_place s x
      go (stands p) = refl
      go (refused_by a b c) = refl

  pub answer-refusal : (r.number ∷ r.line ∷ r.column ∷ []) ≡ station_refusal x
  answer-refusal = ap (λ (y : CellPlace). y.number ∷ y.line ∷ y.column ∷ []) e ∙ go x
    where
      go : (x : Stationed) → ((station_answer s x).number ∷ (station_answer s x).line ∷ (station_answer s x).column ∷ []) ≡ station_refusal x
      go (stands p) = refl
      go (refused_by a b c) = refl

  pub answer-room : r.place.start + r.place.len ≤ length s
  answer-room = rw answer-place (go x)
    where
      go : (x : Stationed) → (station_place s x).start + (station_place s x).len ≤ length s
      go (stands p) = span_fits s p.start (p.start + p.len) (trim_span s p.start (p.start + p.len)) refl
      go (refused_by a b c) = omega arith
