-- The run from the names line to the end of the file: one law for each end of the code's walk.
use Prim.Native.Nat.{ℕ, ◌+◌, ◌≤◌, ◌<◌}
use mathlib.Core.Path.{◌≡◌, refl, sym, ap, subst, ◌∙◌}
use mathlib.Core.List.{List, [], ◌∷◌, map}
use mathlib.Core.Bool.{Bool, true, false, cond}
use native.Mathlib.Omega.{arith}
use lib.ListN.{length, get_or, take, length-take, length-map}
use lib.Dec.{eqb, ltb}
use borrow.Author.Tests.{eqb-true, eq-eqb, ne_eqb, ltb-true, ltb-false}
use Rattle.std.specs.Prelude.{Result, Ok, Err}
use Rattle.line_bytes.specs.Bytes.{equal}
use Rattle.line_bytes.specs.Cells.{pieces, line_at}
use Rattle.line_bytes.proofs.CellLaws.{line_in_lem, line-end}
use Rattle.columns.specs.declared.Columns.{Columns}
use Rattle.columns.specs.Inner.Columns.{columns_for, ColumnsRead}
use Rattle.columns.proofs.ColumnLaws.{columns-broken}
use Rattle.rules.specs.declared.free.LineStart.{LineStart}
use Rattle.rules.specs.declared.top.Top.{Top}
use Rattle.rules.specs.declared.data.Data.{Data}
use Rattle.rules.specs.Inner.Data.{DataTold}
use Rattle.rules.specs.Inner.Top.{LineAt, TopTold}
use Rattle.format.specs.declared.FileKind.{FileKind}
use Rattle.format.specs.declared.FileKind.TheVariants.{Bottle}
use Rattle.format.specs.contracts.FileKind.{the_type}
use denote.Enum.Bare.{sameb}
use Rattle.format.specs.Answers.{kind_by}
use Rattle.format.specs.Profiles.{missing_in_rows, key_of, run_count}
use Rattle.format.specs.Inner.Rows.{rows_from}
use Rattle.format.specs.Inner.Sorts.{sort_for}
use Rattle.format.specs.declared.BrokenRule.{BrokenRule}
use Rattle.format.specs.declared.Refusal.{Refusal}
use Rattle.format.specs.Faults.{breaks, first_of}
use Rattle.format.specs.Headers.{Header}
use Rattle.format.specs.Columns.{Sort, bottle, ctd, names_of, kind_of_name}
use Rattle.format.specs.Places.{Table, Place, comments, names, units, rows, after, stopped, is_comment, last_piece_rules, end_rules, step, accepted, refused, last, run, outcome_of}
use Rattle.format.specs.Inner.Faults.{line_fault}
use Rattle.format.specs.Inner.Lines.{lines_from, StartsAt, line_of}
use Rattle.rules.specs.Inner.Free.{ended, due, after_line, FreePassed}
use Rattle.rules.specs.declared.free.FreeLines.TheVariants.{Comments, Last}
use Rattle.rules.specs.Inner.Table.{due_line, FileTold}
use Rattle.format.proofs.RuleLaws.{Going, names-step, bottle-step, units-step, last_cut}
use Rattle.format.proofs.RunLaws.{run-stopped, lines_end, lines_cut, run-line, line_broken}
use Rattle.rules.proofs.ExitLaws.{Next, next-read, after-ends}

-- ---- the lines after END_DATA, all of them read
pub after-all : (s : List ℕ) (f r : LineStart) → FreePassed Last s f r → (t : Table) (n : ℕ) → run f.line (after t n) (lines_from s f.at) ≡ accepted t n
unfolding run end_rules last_piece_rules first_of
after-all s f r w t n = w.on (after t n) ended ∙ go (ltb r.at (length s)) refl
  where
    other : Last ≡ Comments → ⊥
    other e = cc

    go : (b : Bool) → ltb r.at (length s) ≡ b → run r.line (after t n) (lines_from s r.at) ≡ accepted t n
    go true e = absurd (other (w.other (ltb-true r.at (length s) e)).0)
    go false e = rw (lines_end s r.at (ltb-false r.at (length s) e))

-- ---- a line that is due
module _ (s : List ℕ) (f : LineStart) where
  pub due-goes : (r : LineStart) → due_line s f ≡ Ok r → Next true s f.at f.line r
  due-goes r h = go (ltb f.at (length s)) h
    where
      go : (b : Bool) → cond b (after_line (line_of true s f.at) f.line) (Err (due f.line)) ≡ Ok r → Next true s f.at f.line r
      go true e = next-read true s f.at f.line r e
      go false e = absurd cc

  due-ends : (p : Place) → last f.line p [] ≡ refused 14 f.line 1
      → ((x : List ℕ) (n c : ℕ) → line_fault true x ≡ breaks n c → step f.line p x ≡ stopped n f.line c) → Going p
      → (e : Refusal) → due_line s f ≡ Err e → run f.line p (lines_from s f.at) ≡ refused e.number e.line e.column
  unfolding run
  due-ends p z g n e h = go (ltb f.at (length s)) refl h
    where
      go : (b : Bool) → ltb f.at (length s) ≡ b → cond b (after_line (line_of true s f.at) f.line) (Err (due f.line)) ≡ Err e
          → run f.line p (lines_from s f.at) ≡ refused e.number e.line e.column
      go true q d =
          let w = after-ends (line_of true s f.at) f.line e d in
          rw w.2 (line_broken w.0 f.line p s f.at true (ltb-true f.at (length s) q) w.1 g n)
      go false q d =
          let k : due f.line ≡ e = cc in
          ap (run f.line p) (lines_end s f.at (ltb-false f.at (length s) q)) ∙ z ∙ ap (λ (x : Refusal). refused x.number x.line x.column) k

-- ---- the units line
module _ (k : Sort) (hs : List Header) (ns : List (List ℕ)) (s : List ℕ) (f : LineStart) where
  pub units_due : (e : Refusal) → due_line s f ≡ Err e → run f.line (units k hs ns) (lines_from s f.at) ≡ refused e.number e.line e.column
  unfolding end_rules last_piece_rules first_of
  units_due e h = due-ends s f (units k hs ns) refl (λ x m c d. units-step f.line k hs ns x ∙ rw d) tt e h

  module _ (r : LineStart) (d : Next true s f.at f.line r) (n : ℕ) (e : n ≡ length (pieces 44 (line_at s f.at))) where
    pub units-other : (n ≡ length ns → ⊥) → run f.line (units k hs ns) (lines_from s f.at) ≡ refused 15 f.line 1
    units-other z =
        let g : eqb (length (pieces 44 (line_at s f.at))) (length ns) ≡ false = ne_eqb _ _ (λ x. z (e ∙ x)) in
        d.on (units k hs ns) (stopped 15 f.line 1) (units-step f.line k hs ns (line_at s f.at) ∙ rw (d.rules, g)) ∙ (run-stopped r.line 15 f.line 1 (lines_from s r.at))

    pub units-on : n ≡ length ns
        → run f.line (units k hs ns) (lines_from s f.at) ≡ run r.line (rows (record { sort = k; headers = hs; names = ns; line = f.line }) 0) (lines_from s r.at)
    units-on z =
        let g : eqb (length (pieces 44 (line_at s f.at))) (length ns) ≡ true = eq-eqb _ _ (sym e ∙ z) in
        d.on (units k hs ns) _ (units-step f.line k hs ns (line_at s f.at) ∙ rw (d.rules, g))

-- ---- the names line
-- there is a kind for each column
pub kinds-room : {k : Sort} {x : List ℕ} {c : Columns} → ColumnsRead k x c → c.count ≤ length c.kinds
kinds-room {k} {x} {c} a = omega (arith, length-take c.count c.kinds, ap length a.kinds, length-map (names_of x) kind_of_name, a.many)

module _ (k : Sort) (hs : List Header) (s : List ℕ) (f : LineStart) where
  pub names_due : (e : Refusal) → due_line s f ≡ Err e → run f.line (names k hs) (lines_from s f.at) ≡ refused e.number e.line e.column
  unfolding end_rules last_piece_rules first_of
  names_due e h = due-ends s f (names k hs) refl (λ x m c d. names-step f.line k hs x ∙ rw d) tt e h

  module _ (r : LineStart) (d : Next true s f.at f.line r) where
    pub names-refused : (b : BrokenRule) → columns_for k (line_at s f.at) ≡ Err b → run f.line (names k hs) (lines_from s f.at) ≡ refused b.number f.line b.column
    names-refused b h =
        d.on (names k hs) (stopped b.number f.line b.column) (names-step f.line k hs (line_at s f.at) ∙ rw (d.rules, columns-broken k (line_at s f.at) b h))
        ∙ run-stopped r.line b.number f.line b.column (lines_from s r.at)

    pub names-on : (c : Columns) → ColumnsRead k (line_at s f.at) c → run f.line (names k hs) (lines_from s f.at) ≡ run r.line (units k hs (names_of (line_at s f.at))) (lines_from s r.at)
    names-on c x = d.on (names k hs) _ (names-step f.line k hs (line_at s f.at) ∙ rw (d.rules, x.fault))

-- ---- after the comments of a bottle file: the names line
other-line : (s : List ℕ) (i : ℕ) → i < length s → (get_or s i 0 ≡ 35 → ⊥) → is_comment (line_at s i) ≡ false
unfolding equal
other-line s i h n = go (eqb (get_or s i 0) 10) refl
  where
    go : (b : Bool) → eqb (get_or s i 0) 10 ≡ b → is_comment (line_at s i) ≡ false
    go true e = rw (line-end s i h (eqb-true (get_or s i 0) 10 e))
    go false e = rw (line_in_lem s i h e) (rw (ne_eqb (get_or s i 0) 35 n))

last_alike : (l : ℕ) (k : Sort) (hs : List Header) (x : List ℕ) → run l (comments k) (x ∷ []) ≡ run l (names k hs) (x ∷ [])
unfolding run end_rules last_piece_rules first_of
last_alike l k hs [] = refl
last_alike l k hs (y ∷ x) = last_cut l (comments k) (y ∷ x) (omega arith) tt ∙ sym (last_cut l (names k hs) (y ∷ x) (omega arith) tt)

pub comments-names : (s : List ℕ) (i l : ℕ) → (i < length s → get_or s i 0 ≡ 35 → ⊥)
    → run l (comments bottle) (lines_from s i) ≡ run l (names bottle []) (lines_from s i)
comments-names s i l n = go (ltb i (length s)) (ltb (i + length (line_at s i)) (length s)) refl refl
  where
    go : (a b : Bool) → ltb i (length s) ≡ a → ltb (i + length (line_at s i)) (length s) ≡ b
        → run l (comments bottle) (lines_from s i) ≡ run l (names bottle []) (lines_from s i)
    go false b p q = rw (lines_end s i (ltb-false _ _ p)) (last_alike l bottle [] [])
    go true false p q = rw (lines_cut s i (ltb-false _ _ q)) (last_alike l bottle [] (line_at s i))
    go true true p q =
        let h = ltb-true _ _ q in
        let d = ltb-true _ _ p in
        run-line l (comments bottle) s i h
        ∙ ap (λ (p : Place). run (l + 1) p (lines_from s (i + length (line_at s i) + 1))) (bottle-step l (line_at s i) (other-line s i d (n d)))
        ∙ sym (run-line l (names bottle []) s i h)

-- ---- what the check ends with
-- whether the code takes a file for a bottle file
sort_named : (k : Sort) (f : FileKind) (b : Bool) → f ≡ kind_by k → b ≡ sameb the_type f Bottle → sort_for b ≡ k
sort_named bottle f b e h = let z : b ≡ true = h ∙ ap (λ (x : FileKind). sameb the_type x Bottle) e in ap sort_for z
sort_named ctd f b e h = let z : b ≡ false = h ∙ ap (λ (x : FileKind). sameb the_type x Bottle) e in ap sort_for z

pub columns_of : (k : Sort) (f : FileKind) (b : Bool) (x : List ℕ) (r : Result Columns BrokenRule) → f ≡ kind_by k → b ≡ sameb the_type f Bottle
    → r ≡ columns_for (sort_for b) x → columns_for k x ≡ r
columns_of k f b x r e h z = sym (z ∙ ap (λ (j : Sort). columns_for j x) (sort_named k f b e h))

-- the table that the check reads: its names line is at i, its units line is line l
abbrev pub table_at : Sort → List Header → List ℕ → ℕ → ℕ → Table
table_at k hs s i l = record { sort = k; headers = hs; names = names_of (line_at s i); line = l }

module _ (s : List ℕ) (top : Top) (k : Sort) (hs : List Header) (m : ℕ) (w : TopTold s top k hs m) (units : LineStart) (u : Next true s top.names.at top.names.line units)
    (c : Columns) (x : ColumnsRead k (line_at s top.names.at) c) (rows : LineStart) (e : Next true s units.at units.line rows)
    (d : Data) (r : DataTold s (take c.count c.kinds) rows d) where
  pub file_told : outcome_of s ≡ accepted (table_at k hs s top.names.at units.line) d.rows
      → FileTold s (record {
        kind = top.kind;
        columns = c.count;
        rows = d.rows;
        profiles = d.profiles;
        missing = d.missing;
        headers = top.headers;
        names = top.names.at;
        «data» = rows.at;
      }) (table_at k hs s top.names.at units.line)
  file_told o = record {
    is = o;
    kind = w.kind;
    read = record {
      many = x.many;
      inside = e.inside.1;
      starts = subst (λ (l : ℕ). StartsAt s l rows.at) e.counted (e.starts (omega (arith, u.counted)) (u.starts w.counted.0 w.counted.1));
      missing = r.missing ∙ ap (λ (ks : List ℕ). missing_in_rows ks (rows_from s rows.at d.rows)) x.kinds;
      profiles = r.profiles ∙ ap (λ (ks : List ℕ). run_count (map (key_of ks) (rows_from s rows.at d.rows))) x.kinds;
    };
    names = record { inside = w.inside.0; starts = subst (λ (l : ℕ). StartsAt s l top.names.at) (omega (arith, u.counted)) w.counted.1 };
    headers = subst (λ (l : ℕ). LineAt s l top.headers) (omega (arith, u.counted, w.headers.0, w.headers.1)) w.headers.2;
  }
