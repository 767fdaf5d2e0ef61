-- Where the rows and cells of an accepted file stand.
use Prim.Native.Nat.{ℕ, zero, suc, ◌+◌, ◌-◌, ◌≤◌, ◌<◌}
use mathlib.Core.Path.{◌≡◌, refl, sym, ap, subst, ◌∙◌}
use mathlib.Core.List.{List, [], ◌∷◌, map}
use mathlib.Core.Bool.{Bool, true, false, cond}
use native.Mathlib.Nat.{not-suc-le-zero, le_of_suc-le-suc, add-zero}
use native.Mathlib.Numerals.{add-one}
use native.Mathlib.Omega.{arith}
use lib.ListN.{length, get_or, drop, length-drop, length-map}
use lib.Seq.{drop-drop, get_or-drop}
use lib.Dec.{eqb, ltb}
use borrow.Author.Tests.{eqb-true, eqb-false, ltb-true, ltb-false, lt-ltb}
use Rattle.line_bytes.specs.Cells.{first_piece, later_pieces, pieces, line_at, cell_at, cell_end}
use Rattle.line_bytes.specs.declared.Span.{Span}
use Rattle.line_bytes.proofs.CellLaws.{stop_moved, stop-short, cell_end-within, cell_end_from, cell_end-parts, pieces-last, pieces_more}
use Rattle.line_bytes.specs.Inner.Scans.{Stop}
use Rattle.format.specs.Faults.{clean, ◌then◌, unless, first_of}
use Rattle.format.specs.Columns.{kind_of_name, kinds_of}
use Rattle.format.specs.Rows.{row_rules}
use Rattle.format.specs.Places.{Table, accepted, outcome_of}
use Rattle.format.specs.Inner.Faults.{cell_fault, row_fault}
use Rattle.format.specs.Grid.{starts}
use Rattle.format.specs.Inner.Grid.{line_start, cell_span}
use Rattle.format.specs.Profiles.{grid}
use Rattle.format.specs.Inner.Lines.{lines_from}
use Rattle.format.proofs.RunLaws.{lines_more, lines_cut, line-feed}
use Rattle.format.proofs.GridWalkLaws.{span-first, span_more}
use Rattle.format.proofs.AcceptLaws.{RowKept, rows-kept}

-- how many bytes pieces of the given lengths make, one byte between each two
unfoldable pub total : List ℕ → ℕ
total [] = 0
total (w ∷ []) = w
total (w ∷ (v ∷ ws)) = w + 1 + total (v ∷ ws)

pub total-pieces : (c : ℕ) (xs : List ℕ) → total (map length (pieces c xs)) ≡ length xs
unfolding total first_piece later_pieces
total-pieces c [] = refl
total-pieces c (x ∷ xs) = go (eqb x c) (later_pieces c xs) (total-pieces c xs)
  where
    go : (b : Bool) (ls : List (List ℕ)) → total (length (first_piece c xs) ∷ map length ls) ≡ length xs
        → total (map length (cond b [] (x ∷ first_piece c xs) ∷ cond b (first_piece c xs ∷ ls) ls)) ≡ suc (length xs)
    go true ls e = omega (arith, e)
    go false [] e = omega (arith, e)
    go false (l ∷ ls) e = omega (arith, e)

pub total-starts : (ws : List ℕ) (k : ℕ) → k < length ws → starts ws k + total (drop k ws) ≡ total ws
unfolding total starts
total-starts [] k h = absurd (not-suc-le-zero h)
total-starts (w ∷ ws) zero h = omega arith
total-starts (w ∷ []) (suc k) h = absurd (omega arith)
total-starts (w ∷ (v ∷ ws)) (suc k) h = omega (arith, total-starts (v ∷ ws) k (le_of_suc-le-suc h))

pub starts_add : (ws : List ℕ) (k j : ℕ) → k < length ws → starts ws (k + j) ≡ starts ws k + starts (drop k ws) j
unfolding starts
starts_add [] k j h = absurd (not-suc-le-zero h)
starts_add (w ∷ ws) zero j h = let e : 0 + j ≡ j = omega arith in rw e (omega arith)
starts_add (w ∷ []) (suc k) j h = absurd (omega arith)
starts_add (w ∷ (v ∷ ws)) (suc k) j h = let e : suc k + j ≡ suc (k + j) = omega arith in rw e (omega (arith, starts_add (v ∷ ws) k j (le_of_suc-le-suc h)))

map-length-drop : (k : ℕ) (ls : List (List ℕ)) → map length (drop k ls) ≡ drop k (map length ls)
map-length-drop zero ls = refl
map-length-drop (suc k) [] = refl
map-length-drop (suc k) (l ∷ ls) = map-length-drop k ls

-- a place from which the lines are those after the first k is where line k starts
pub place_of-line : (s : List ℕ) (i k : ℕ) → i ≤ length s → k < length (pieces 10 s) → lines_from s i ≡ drop k (pieces 10 s) → i ≡ starts (map length (pieces 10 s)) k
place_of-line s i k h l e =
    let a : total (drop k (map length (pieces 10 s))) ≡ length s - i =
    ap total (sym (map-length-drop k (pieces 10 s))) ∙ ap (λ (ls : List (List ℕ)). total (map length ls)) (sym e) ∙ total-pieces 10 (drop i s) ∙ length-drop i s in
    let b : starts (map length (pieces 10 s)) k + total (drop k (map length (pieces 10 s))) ≡ length s = total-starts (map length (pieces 10 s)) k (rw length-map l) ∙ total-pieces 10 s in
    omega (arith, a, b, h)

-- the lines from where line k starts on
pub lines_at : (k : ℕ) (s : List ℕ) (i : ℕ) → i ≤ length s → k < length (lines_from s i) → lines_from s (i + starts (map length (lines_from s i)) k) ≡ drop k (lines_from s i)
unfolding starts
lines_at zero s i h l = ap (lines_from s) (add-zero i)
lines_at (suc k) s i h l = by (ltb (i + length (line_at s i)) (length s)) refl (lines_at k s (i + length (line_at s i) + 1))
  where
    j : ℕ
    j = i + length (line_at s i) + 1

    tail_is : later_pieces 10 (drop i s) ≡ lines_from s j → lines_from s (j + starts (map length (lines_from s j)) k) ≡ drop k (lines_from s j)
        → lines_from s (i + (length (line_at s i) + 1 + starts (map length (later_pieces 10 (drop i s))) k)) ≡ drop k (later_pieces 10 (drop i s))
    tail_is e w =
        let n : i + (length (line_at s i) + 1 + starts (map length (lines_from s j)) k) ≡ j + starts (map length (lines_from s j)) k = omega arith in
        rw e (ap (lines_from s) n ∙ w)

    by : (z : Bool) → ltb (i + length (line_at s i)) (length s) ≡ z → (j ≤ length s → k < length (lines_from s j) → lines_from s (j + starts (map length (lines_from s j)) k) ≡ drop k (lines_from s j))
        → lines_from s (i + (length (line_at s i) + 1 + starts (map length (later_pieces 10 (drop i s))) k)) ≡ drop k (later_pieces 10 (drop i s))
    by true e ih =
        let b = ltb-true (i + length (line_at s i)) (length s) e in
        let m : later_pieces 10 (drop i s) ≡ lines_from s j = ap (λ (ls : List (List ℕ)). drop 1 ls) (lines_more s i b) in
        tail_is m (ih (omega (arith, b)) (omega (arith, l, ap length m)))
    by false e ih = let c = ap length (lines_cut s i (ltb-false (i + length (line_at s i)) (length s) e)) in absurd (omega (arith, l, c))

start_in : (s : List ℕ) (i k : ℕ) → k < length (lines_from s i) → line_start s i k ≡ i + starts (map length (lines_from s i)) k
unfolding line_start
start_in s i k h = rw (lt-ltb k (length (lines_from s i)) h)

-- ---- a data line of an accepted file
pub get_d-map_in : {A B : Type 0} (f : A → B) (l : List A) (i : ℕ) (d : B) (e : A) → i < length l → get_or (map f l) i d ≡ f (get_or l i e)
get_d-map_in f [] i d e h = absurd (not-suc-le-zero h)
get_d-map_in f (x ∷ l) zero d e h = refl
get_d-map_in f (x ∷ l) (suc i) d e h = get_d-map_in f l i d e (le_of_suc-le-suc h)

pub get_d_mapped : (ls : List (List ℕ)) (k : ℕ) → k < length ls → get_or (map (pieces 44) ls) k [] ≡ pieces 44 (get_or ls k [])
get_d_mapped ls k h = get_d-map_in (pieces 44) ls k [] [] h

pub cells-many : (ks : List ℕ) (ts : List (List ℕ)) → row_fault ks ts ≡ clean → length ts ≡ length ks
unfolding row_fault cell_fault row_rules first_of
cells-many ks ts e = go (eqb (length ts) (length ks)) refl e
  where
    go : (z : Bool) → eqb (length ts) (length ks) ≡ z → ((unless z 15 1) then (cell_fault 1 ks ts)) ≡ clean → length ts ≡ length ks
    go true q e = eqb-true (length ts) (length ks) q
    go false q e = let z : ◌≡◌ {A = ℕ} 0 1 = cc in absurd (omega arith)

-- a line that another follows has its line feed
pub line-fed : (s : List ℕ) (i : ℕ) → 1 < length (lines_from s i) → i + length (line_at s i) < length s
line-fed s i h = go (ltb (i + length (line_at s i)) (length s)) refl
  where
    go : (z : Bool) → ltb (i + length (line_at s i)) (length s) ≡ z → i + length (line_at s i) < length s
    go true q = ltb-true (i + length (line_at s i)) (length s) q
    go false q = absurd (omega (arith, h, ap length (lines_cut s i (ltb-false (i + length (line_at s i)) (length s) q))))

-- row r, from 0, starts at i: its line has its line feed, and its cells are the grid's, as many as there are columns
pub record RowAt (s : List ℕ) (t : Table) (r i : ℕ) : Type 0 where
  pub place : i ≡ starts (map length (pieces 10 s)) (t.line + r)
  pub feed : Stop 44 s i (i + length (line_at s i))
  pub cells : pieces 44 (line_at s i) ≡ get_or (grid s) (t.line + r) []
  pub many : length (pieces 44 (line_at s i)) ≡ length t.names
  pub rules : row_fault (kinds_of t.names) (pieces 44 (line_at s i)) ≡ clean

-- from its line in the file
row_made : (s : List ℕ) (t : Table) (r i : ℕ) → i ≡ starts (map length (pieces 10 s)) (t.line + r) → lines_from s i ≡ drop (t.line + r) (pieces 10 s) → suc (t.line + r) < length (pieces 10 s)
    → row_fault (kinds_of t.names) (pieces 44 (get_or (pieces 10 s) (t.line + r) [])) ≡ clean → RowAt s t r i
row_made s t r i p e h c =
    let x : line_at s i ≡ get_or (pieces 10 s) (t.line + r) [] = ap (λ (ls : List (List ℕ)). get_or ls 0 []) e ∙ get_or-drop (t.line + r) (pieces 10 s) 0 [] ∙ ap (λ (k : ℕ). get_or (pieces 10 s) k []) (add-zero (t.line + r)) in
    let two : 1 < length (lines_from s i) = subst (λ (ls : List (List ℕ)). 1 < length ls) (sym e) (rw length-drop (omega arith)) in
    let far : i + length (line_at s i) < length s = line-fed s i two in
    let g : row_fault (kinds_of t.names) (pieces 44 (line_at s i)) ≡ clean = subst (λ (y : List ℕ). row_fault (kinds_of t.names) (pieces 44 y) ≡ clean) (sym x) c in
    record {
      place = p;
      feed = record { inside = omega arith; room = far; feed = line-feed s i far; parts = refl };
      cells = ap (pieces 44) x ∙ sym (get_d_mapped (pieces 10 s) (t.line + r) (omega (arith, h)));
      many = cells-many (kinds_of t.names) (pieces 44 (line_at s i)) g ∙ length-map t.names kind_of_name;
      rules = g;
    }

-- row r of an accepted file, whose data lines start at d
pub row_at : (s : List ℕ) (t : Table) (n d r : ℕ) → outcome_of s ≡ accepted t n → d ≤ length s → lines_from s d ≡ drop t.line (pieces 10 s) → r < n → RowAt s t r (line_start s d r)
row_at s t n d r e h q l = rw (start_in s d r in_lines) (row_made s t r (d + starts (map length (lines_from s d)) r) place_is lines_is more rules)
  where
    k : RowKept t (drop t.line (pieces 10 s)) r
    k = rows-kept s t n e r l

    long : length (drop t.line (pieces 10 s)) ≡ length (pieces 10 s) - t.line
    long = length-drop t.line (pieces 10 s)

    before : t.line < length (pieces 10 s)
    before = omega (arith, k.line, long)

    in_lines : r < length (lines_from s d)
    in_lines = subst (λ (ls : List (List ℕ)). r < length ls) (sym q) (omega (arith, k.line))

    more : suc (t.line + r) < length (pieces 10 s)
    more = omega (arith, k.line, long)

    place_is : d + starts (map length (lines_from s d)) r ≡ starts (map length (pieces 10 s)) (t.line + r)
    place_is =
        ap (λ (x : ℕ). x + starts (map length (lines_from s d)) r) (place_of-line s d t.line h before q)
        ∙ ap (λ (ws : List ℕ). starts (map length (pieces 10 s)) t.line + starts ws r) (ap (map length) q ∙ map-length-drop t.line (pieces 10 s))
        ∙ sym (starts_add (map length (pieces 10 s)) t.line r (rw length-map before))

    lines_is : lines_from s (d + starts (map length (lines_from s d)) r) ≡ drop (t.line + r) (pieces 10 s)
    lines_is = lines_at r s d h in_lines ∙ ap (drop r) q ∙ drop-drop r t.line (pieces 10 s)

    rules : row_fault (kinds_of t.names) (pieces 44 (get_or (pieces 10 s) (t.line + r) [])) ≡ clean
    rules = subst (λ (x : List ℕ). row_fault (kinds_of t.names) (pieces 44 x) ≡ clean) (get_or-drop t.line (pieces 10 s) r []) k.cells

-- ---- a cell of a line
pub record SpanAt (s : List ℕ) (i e k : ℕ) : Type 0 where
  pub inside : (cell_span s i k).start ≤ e
  pub text : cell_at 44 s (cell_span s i k).start ≡ get_or (pieces 44 (line_at s i)) k []
  pub room : (cell_span s i k).start + (cell_span s i k).len ≤ e

pub span_at_lem : (k : ℕ) (s : List ℕ) (i e : ℕ) → Stop 44 s i e → k < length (pieces 44 (line_at s i)) → SpanAt s i e k
span_at_lem zero s i e t h =
    let f = span-first t (cell_end 44 s i) refl in
    record {
      inside = subst (λ (p : Span). p.start ≤ e) (sym f) t.inside;
      text = ap (λ (p : Span). cell_at 44 s p.start) f;
      room = subst (λ (p : Span). p.start + p.len ≤ e) (sym f) (omega (arith, cell_end-within t, cell_end_from 44 s i));
    }
span_at_lem (suc k) s i e t h = by (eqb (get_or s (cell_end 44 s i) 0) 10) refl (span_at_lem k s (cell_end 44 s i + 1) e)
  where
    by : (z : Bool) → eqb (get_or s (cell_end 44 s i) 0) 10 ≡ z → (Stop 44 s (cell_end 44 s i + 1) e → k < length (pieces 44 (line_at s (cell_end 44 s i + 1))) → SpanAt s (cell_end 44 s i + 1) e k) → SpanAt s i e (suc k)
    by true q ih = absurd (omega (arith, h, ap length (pieces-last t (eqb-true (get_or s (cell_end 44 s i) 0) 10 q))))
    by false q ih =
        let n = eqb-false (get_or s (cell_end 44 s i) 0) 10 q in
        let p = pieces_more t (λ z. absurd (omega arith)) (cell_end-parts t n) in
        let f : cell_span s i (suc k) ≡ cell_span s (cell_end 44 s i + 1) k = ap (cell_span s i) (sym (add-one k)) ∙ span_more t k n in
        let u = stop-short (stop_moved t (cell_end-within t)) n in
        let w = ih (stop_moved t (omega (arith, u))) (omega (arith, h, ap length p)) in
        record {
          inside = subst (λ (x : Span). x.start ≤ e) (sym f) w.inside;
          text = ap (λ (x : Span). cell_at 44 s x.start) f ∙ w.text ∙ sym (ap (λ (ts : List (List ℕ)). get_or ts (suc k) []) p);
          room = subst (λ (x : Span). x.start + x.len ≤ e) (sym f) w.room;
        }
