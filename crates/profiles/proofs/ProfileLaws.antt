-- The rows of a profile: one walk over the data lines with the profile of each.
use Prim.Native.Nat.{ℕ, zero, suc, ◌+◌, ◌-◌, ◌≤◌, ◌<◌}
use mathlib.Core.Path.{◌≡◌, refl, sym, ap, subst, ◌∙◌}
use mathlib.Core.List.{List, [], ◌∷◌, ◌++◌, map, append_assoc, append-nil}
use mathlib.Core.Bool.{Bool, true, false, cond, ◌&&◌}
use native.Mathlib.Nat.{add-zero}
use native.Mathlib.Omega.{arith}
use lib.ListN.{length, take, length-append}
use lib.Dec.{eqb, ltb}
use borrow.Author.Tests.{eq-eqb, ne_eqb, lt-ltb, ltb-false}
use Rattle.std.specs.Prelude.{Option, Some, None, IfSome}
use Rattle.std.proofs.lemmas.Option.{IfSome_then}
use Rattle.verdicts.specs.declared.Keys.{Keys}
use Rattle.line_bytes.specs.Cells.{line_at, pieces}
use Rattle.verdicts.specs.Rows.{no_keys}
use Rattle.line_bytes.specs.Inner.Scans.{Stop}
use Rattle.profiles.specs.declared.runs.Run.{Run}
use Rattle.format.specs.Faults.{clean}
use Rattle.format.specs.Columns.{kinds_of}
use Rattle.format.specs.Places.{Table}
use Rattle.format.specs.Inner.Faults.{row_fault}
use Rattle.format.specs.Profiles.{Key, key_of, same_key, labels_from, labels, rows_of}
use Rattle.format.specs.Inner.Lines.{lines_from}
use Rattle.format.specs.Inner.Rows.{key_at, line_cells, rows_from}
use Rattle.profiles.specs.Inner.Profiles.{RowLines, none, more, with_noted, RunOf, RunRead}
use Rattle.format.proofs.RunLaws.{lines_more, line-feed}
use Rattle.format.proofs.AcceptLaws.{RowKept}
use Rattle.format.proofs.GridLaws.{line-fed}

-- ---- the data lines, one after the other
pub rows-lines : (n : ℕ) (s : List ℕ) (t : Table) (i : ℕ) → ((r : ℕ) → r < n → RowKept t (lines_from s i) r) → RowLines s (kinds_of t.names) i n
rows-lines zero s t i h = none
rows-lines (suc n) s t i h =
    let k = h 0 (omega arith) in
    let far = line-fed s i k.line in
    more {i = i}
    (record { inside = omega arith; room = far; feed = line-feed s i far; parts = refl })
    k.cells
    (rows-lines n s t (i + length (line_at s i) + 1) (λ r l. later r (subst (λ (ps : List (List ℕ)). RowKept t ps (suc r)) (lines_more s i far) (h (suc r) (omega arith)))))
  where
    later : (r : ℕ) → RowKept t (line_at s i ∷ lines_from s (i + length (line_at s i) + 1)) (suc r) → RowKept t (lines_from s (i + length (line_at s i) + 1)) r
    later r o = record { line = omega (arith, o.line); bytes = o.bytes; cells = o.cells; bound = o.bound }

pub record RowFirst (s ks : List ℕ) (i n : ℕ) : Type 0 where
  pub stop : Stop 44 s i (i + length (line_at s i))
  pub rules : row_fault ks (line_cells s i) ≡ clean
  pub later : RowLines s ks (i + length (line_at s i) + 1) (n - 1)

pub rows_apart : {s ks : List ℕ} {i n : ℕ} → RowLines s ks i n → 0 < n → RowFirst s ks i n
rows_apart none h = absurd (omega arith)
rows_apart {s} {ks} (more {n = m} a b c) h = record { stop = a; rules = b; later = subst (RowLines s ks _) (omega arith) c }

rows_more : (s : List ℕ) (i n : ℕ) → 0 < n → i + length (line_at s i) < length s → rows_from s i n ≡ line_cells s i ∷ rows_from s (i + length (line_at s i) + 1) (n - 1)
rows_more s i n h f =
    let e : n ≡ suc (n - 1) = omega arith in
    ap (λ (m : ℕ). rows_from s i m) e ∙ ap (λ (ps : List (List ℕ)). take (suc (n - 1)) (map (pieces 44) ps)) (lines_more s i f)

-- there are so many
pub rows-many : {s ks : List ℕ} {i n : ℕ} → RowLines s ks i n → length (rows_from s i n) ≡ n
rows-many none = refl
rows-many {s} {ks} {i} (more {n = m} a b c) =
    let d : suc m - 1 ≡ m = omega arith in
    ap length (rows_more s i (suc m) (omega arith) a.room) ∙ ap (λ (n : ℕ). suc (length (rows_from s (i + length (line_at s i) + 1) n))) d ∙ ap suc (rows-many c)

-- ---- the profiles of the rows of keys ys, after n rows the last of which has key x and is in profile l
abbrev pub labels_after : ℕ → Key → ℕ → List Key → List ℕ
labels_after n x l ys = cond (ltb 0 n) (labels_from x l ys) (labels ys)

abbrev pub label_next : ℕ → Key → ℕ → Key → ℕ
label_next n x l y = l + cond (ltb 0 n && same_key x y) 0 1

-- as the code counts it
module _ (n : ℕ) (x : Key) (l : ℕ) (y : Key) (m : ℕ) where
  pub next_first : n ≡ 0 → m ≡ l + 1 → m ≡ label_next n x l y
  next_first h e = rw h e

  module _ (b : Bool) (q : b ≡ same_key x y) where
    pub next_other : b ≡ false → m ≡ l + 1 → m ≡ label_next n x l y
    next_other h e = rw (sym q ∙ h) (go (ltb 0 n))
      where
        go : (a : Bool) → m ≡ l + cond (a && false) 0 1
        go true = e
        go false = e

    pub next_same : b ≡ true → (n ≡ 0 → ⊥) → m ≡ l → m ≡ label_next n x l y
    next_same h z e = rw (sym q ∙ h, lt-ltb 0 n (omega (arith, z))) (e ∙ sym (add-zero l))

labels-row : (n : ℕ) (x y : Key) (l : ℕ) (ys : List Key) → (n ≡ 0 → l ≡ 0) → labels_after n x l (y ∷ ys) ≡ label_next n x l y ∷ labels_from y (label_next n x l y) ys
unfolding labels_from labels
labels-row n x y l ys h = go (ltb 0 n) (same_key x y) refl
  where
    go : (a b : Bool) → ltb 0 n ≡ a
        → cond a (cond b (l ∷ labels_from y l ys) ((l + 1) ∷ labels_from y (l + 1) ys)) (1 ∷ labels_from y 1 ys) ≡ (l + cond (a && b) 0 1) ∷ labels_from y (l + cond (a && b) 0 1) ys
    go true true e = rw (add-zero l)
    go true false e = refl
    go false b e = let z : l ≡ 0 = h (omega (arith, ltb-false 0 n e)) in rw z

labels-on : (n : ℕ) (y : Key) (l : ℕ) (ys : List Key) → labels_after (n + 1) y l ys ≡ labels_from y l ys
labels-on n y l ys = rw (lt-ltb 0 (n + 1) (omega arith))

labels-none : (n : ℕ) (x : Key) (l : ℕ) → labels_after n x l [] ≡ []
unfolding labels_from labels
labels-none n x l = go (ltb 0 n)
  where
    go : (b : Bool) → ◌≡◌ {A = List ℕ} (cond b [] []) []
    go true = refl
    go false = refl

-- ---- a row noted
rows_on : (k r l : ℕ) (ls : List ℕ) → rows_of k r (l ∷ ls) ≡ cond (eqb l k) (r ∷ rows_of k (r + 1) ls) (rows_of k (r + 1) ls)
unfolding rows_of
rows_on k r l ls = refl

rows_none : (k r : ℕ) → rows_of k r [] ≡ []
unfolding rows_of
rows_none k r = refl

noted_past : (b : Bool) (xs ys : List ℕ) (r : ℕ) → xs ++ cond b (r ∷ ys) ys ≡ cond b (xs ++ r ∷ []) xs ++ ys
noted_past true xs ys r = sym (append_assoc xs (r ∷ []) ys)
noted_past false xs ys r = refl

noted-run : (b : Bool) (xs : List ℕ) (r : Option Run) (row : ℕ) → RunOf xs r → RunOf (cond b (xs ++ row ∷ []) xs) (cond b (Some (with_noted r row)) r)
noted-run false xs r row h = h
noted-run true xs None row h = rw h (record { some = omega arith; many = refl; first = refl })
noted-run true [] (Some r) row h = absurd (omega (arith, h.some, h.many))
noted-run true (x ∷ xs) (Some r) row h = record { some = omega arith; many = omega (arith, h.many, length-append xs (row ∷ [])); first = h.first }

-- a run among the rows passed so far
abbrev pub Within : ℕ → Option Run → Type 0
Within row r = IfSome r (λ x. (x.rows ≤ row) × (1 ≤ x.first) × (x.first ≤ row))

noted-within : (b : Bool) (r : Option Run) (row : ℕ) → Within row r → Within (row + 1) (cond b (Some (with_noted r (row + 1))) r)
noted-within true None row h = (omega arith, omega arith, omega arith)
noted-within true (Some r) row h = (omega (arith, h.0), h.1, omega (arith, h.2))
noted-within false None row h = h
noted-within false (Some r) row h = (omega (arith, h.0), h.1, omega (arith, h.2))

pub noted-fits : (r : Option Run) (row : ℕ) → Within row r → IfSome r (λ x. x.rows < row + 1)
noted-fits r row h = IfSome_then r h (λ x y. omega (arith, y.0))

-- as the code notes a row of profile k only
pub noted_by : (l k : ℕ) (r x : Option Run) (row : ℕ) → l ≡ k → x ≡ Some (with_noted r row) → x ≡ cond (eqb l k) (Some (with_noted r row)) r
noted_by l k r x row h e = rw (eq-eqb l k h) e

pub passed_by : (l k : ℕ) (r x : Option Run) (row : ℕ) → (l ≡ k → ⊥) → x ≡ r → x ≡ cond (eqb l k) (Some (with_noted r row)) r
passed_by l k r x row h e = rw (ne_eqb l k h) e

-- ---- so many rows are passed
pub record Walked (s ks : List ℕ) (i n k at row label : ℕ) (last : Keys) (run : Option Run) : Type 0 where
  pub lines : RowLines s ks at (n - row)
  pub inside : row ≤ n
  pub fresh : row ≡ 0 → label ≡ 0
  pub few : label ≤ row
  pub within : Within row run
  pub past : List ℕ
  pub noted : RunOf past run
  pub whole : rows_of k 1 (labels (map (key_of ks) (rows_from s i n))) ≡ past ++ rows_of k (row + 1) (labels_after row (key_at s last) label (map (key_of ks) (rows_from s at (n - row))))

pub walk_none : (s ks : List ℕ) (i n k : ℕ) → RowLines s ks i n → Walked s ks i n k i 0 0 no_keys None
walk_none s ks i n k h = record {
  lines = subst (RowLines s ks i) (sym e) h;
  inside = omega arith;
  fresh = λ z. refl;
  few = omega arith;
  within = tt;
  past = [];
  noted = refl;
  whole = ap (λ (m : ℕ). rows_of k 1 (labels (map (key_of ks) (rows_from s i m)))) (sym e);
}
  where
    e : n - 0 ≡ n
    e = omega arith

module _ {s ks : List ℕ} {i n k at row label : ℕ} {last : Keys} {run : Option Run} (w : Walked s ks i n k at row label last run) where
  module _ (h : row < n) where
    pub walk_first : RowFirst s ks at (n - row)
    walk_first = rows_apart w.lines (omega arith)

    pub walk-row : (keys : Keys) (next : ℕ) (x : Option Run) → key_at s keys ≡ key_of ks (line_cells s at) → next ≡ label_next row (key_at s last) label (key_at s keys)
        → x ≡ cond (eqb next k) (Some (with_noted run (row + 1))) run → Walked s ks i n k (at + length (line_at s at) + 1) (row + 1) next keys x
    walk-row keys next x ek en ex = record {
      lines = subst (RowLines s ks (at + length (line_at s at) + 1)) less walk_first.later;
      inside = omega arith;
      fresh = λ z. absurd (omega arith);
      few = omega (arith, en, w.few, one_more (ltb 0 row && same_key (key_at s last) (key_at s keys)));
      within = rw ex (noted-within (eqb next k) run row w.within);
      past = cond (eqb next k) (w.past ++ (row + 1) ∷ []) w.past;
      noted = rw ex (noted-run (eqb next k) w.past run (row + 1) w.noted);
      whole = w.whole ∙ ap (λ (ls : List ℕ). w.past ++ rows_of k (row + 1) ls) labels_are ∙ ap (λ (rs : List ℕ). w.past ++ rs) (rows_on k (row + 1) next (labels_after (row + 1) (key_at s keys) next ys)) ∙ noted_past (eqb next k) w.past rest (row + 1);
    }
      where
        less : n - row - 1 ≡ n - (row + 1)
        less = omega arith

        one_more : (b : Bool) → cond b 0 1 ≤ 1
        one_more true = omega arith
        one_more false = omega arith

        ys : List Key
        ys = map (key_of ks) (rows_from s (at + length (line_at s at) + 1) (n - (row + 1)))

        rest : List ℕ
        rest = rows_of k (row + 1 + 1) (labels_after (row + 1) (key_at s keys) next ys)

        labels_are : labels_after row (key_at s last) label (map (key_of ks) (rows_from s at (n - row))) ≡ next ∷ labels_after (row + 1) (key_at s keys) next ys
        labels_are =
            ap (λ (rs : List (List (List ℕ))). labels_after row (key_at s last) label (map (key_of ks) rs))
            (rows_more s at (n - row) (omega arith) walk_first.stop.room ∙ ap (λ (m : ℕ). line_cells s at ∷ rows_from s (at + length (line_at s at) + 1) m) less)
            ∙ ap (λ (y : Key). labels_after row (key_at s last) label (y ∷ ys)) (sym ek)
            ∙ labels-row row (key_at s last) (key_at s keys) label ys w.fresh
            ∙ ap (λ (m : ℕ). m ∷ labels_from (key_at s keys) m ys) (sym en)
            ∙ ap (λ (ls : List ℕ). next ∷ ls) (sym (labels-on row (key_at s keys) next ys))

  pub walk_end : n ≤ row → RunRead s ks i n k run
  walk_end h = record {
    run = subst (λ (xs : List ℕ). RunOf xs run) (sym (w.whole ∙ ap (λ (ls : List ℕ). w.past ++ rows_of k (row + 1) ls) none_left ∙ ap (λ (xs : List ℕ). w.past ++ xs) (rows_none k (row + 1)) ∙ append-nil w.past)) w.noted;
    within = IfSome_then run w.within (λ x y. (y.1, omega (arith, y.2, w.inside)));
  }
    where
      left : n - row ≡ 0
      left = omega arith

      none_left : labels_after row (key_at s last) label (map (key_of ks) (rows_from s at (n - row))) ≡ []
      none_left = ap (λ (m : ℕ). labels_after row (key_at s last) label (map (key_of ks) (rows_from s at m))) left ∙ labels-none row (key_at s last) label
