-- An opened file: by the check's number it is refused, or its table is there, with the places of its headers, its names line and its rows.
use Prim.Native.Nat.{ℕ, zero, suc, ◌+◌, ◌≤◌, ◌<◌}
use mathlib.Core.Path.{◌≡◌, refl, sym, ap, subst, ◌∙◌}
use mathlib.Core.List.{List, [], ◌∷◌, map}
use mathlib.Core.Bool.{true}
use native.Mathlib.Nat.{add-zero, zero-add}
use native.Mathlib.Omega.{arith}
use lib.ListN.{length, get_or, take, drop, length-drop, length-map}
use lib.Seq.{drop-drop, get_or-drop}
use Rattle.line_bytes.specs.Cells.{pieces, line_at}
use Rattle.format.specs.declared.Opened.{Opened}
use Rattle.format.specs.Faults.{clean}
use Rattle.format.specs.Headers.{Header, header_of, header_name_rule}
use Rattle.format.specs.Places.{Table, Outcome, accepted, refused, outcome_of}
use Rattle.format.specs.Answers.{rows_in, kind_by, checked_by, checked_of}
use Rattle.format.specs.Records.{headers_line}
use Rattle.format.specs.Opened.{line_begin, names_line, opened_by, opened_of}
use Rattle.format.specs.Inner.Faults.{line_fault}
use Rattle.format.specs.Inner.Grid.{line_start}
use Rattle.format.specs.Inner.Heads.{LineStands, HeaderLines, none, more}
use Rattle.format.specs.Inner.Lines.{lines_from}
use Rattle.format.specs.Inner.Rows.{rows_from}
use Rattle.format.proofs.AcceptLaws.{RowKept, rows-kept, rows-some}
use Rattle.format.proofs.GridLaws.{total-pieces, total-starts, place_of-line, lines_at, line-fed, RowAt, row_at}
use Rattle.format.proofs.HeadLaws.{HeadsIn, NamesKept, lines-before, heads-kept, names-kept}
use Rattle.format.proofs.HeadLaws as heads
use Rattle.format.proofs.RefusedLaws.{refused_numbered}
use Rattle.format.proofs.RunLaws.{lines_more}

-- ---- line k of a file, from 0, that another follows
pub record LineThere (s : List ℕ) (k i : ℕ) : Type 0 where
  pub inside : i ≤ length s
  pub lines : lines_from s i ≡ drop k (pieces 10 s)
  pub stands : LineStands s k i
  pub next : i + length (line_at s i) + 1 ≡ line_begin s (k + 1)

pub line-there : (s : List ℕ) (k : ℕ) → suc k < length (pieces 10 s) → LineThere s k (line_begin s k)
line-there s k h = record {
  inside = inside_is;
  lines = lines_is;
  stands = record { place = refl; text = ap (λ (ls : List (List ℕ)). get_or ls 0 []) lines_is ∙ get_or-drop k (pieces 10 s) 0 [] ∙ ap (λ (m : ℕ). get_or (pieces 10 s) m []) (add-zero k); fed = far };
  next = place_of-line s (i + length (line_at s i) + 1) (k + 1) (omega (arith, far)) (omega (arith, h)) later;
}
  where
    i : ℕ
    i = line_begin s k

    inside_is : i ≤ length s
    inside_is = let e = total-starts (map length (pieces 10 s)) k (rw (length-map (pieces 10 s) length) (omega (arith, h))) in omega (arith, e, total-pieces 10 s)

    lines_is : lines_from s i ≡ drop k (pieces 10 s)
    lines_is = ap (lines_from s) (sym (zero-add i)) ∙ lines_at k s 0 (omega arith) (omega (arith, h))

    far : i + length (line_at s i) < length s
    far = line-fed s i (subst (λ (ls : List (List ℕ)). 1 < length ls) (sym lines_is) (rw length-drop (omega arith)))

    later : lines_from s (i + length (line_at s i) + 1) ≡ drop (k + 1) (pieces 10 s)
    later = ap (λ (ls : List (List ℕ)). drop 1 ls) (sym (lines_more s i far) ∙ lines_is) ∙ drop-drop 1 k (pieces 10 s)

-- ---- headers that are the lines from line k on, by their places
heads_stand : (s : List ℕ) (k : ℕ) (ps : List (List ℕ)) (hs : List Header) → HeadsIn ps hs → drop k (pieces 10 s) ≡ ps → k + length hs < length (pieces 10 s)
    → HeaderLines s (line_begin s (k + length hs)) (line_begin s k) k hs
heads_stand s k ps hs heads.none e h = subst (λ (m : ℕ). HeaderLines s (line_begin s m) (line_begin s k) k []) (sym (add-zero k)) none
heads_stand s k ps hs (heads.more {x = x} {ps = qs} {hs = gs} a b r) e h =
    subst (λ (y : List ℕ). HeaderLines s (line_begin s (k + suc (length gs))) i k (header_of y ∷ gs)) text_is
    (more w.stands (subst (λ (y : List ℕ). line_fault true y ≡ clean) (sym text_is) a) (subst (λ (y : List ℕ). header_name_rule y ≡ clean) (sym text_is) b)
    (subst (λ (j : ℕ). HeaderLines s (line_begin s (k + suc (length gs))) j (k + 1) gs) (sym w.next)
    (subst (λ (m : ℕ). HeaderLines s (line_begin s m) (line_begin s (k + 1)) (k + 1) gs) many (heads_stand s (k + 1) qs gs r later (omega arith)))))
  where
    i : ℕ
    i = line_begin s k

    w : LineThere s k i
    w = line-there s k (omega (arith, h))

    many : k + 1 + length gs ≡ k + suc (length gs)
    many = omega arith

    text_is : line_at s i ≡ x
    text_is = ap (λ (ls : List (List ℕ)). get_or ls 0 []) (w.lines ∙ e)

    later : drop (k + 1) (pieces 10 s) ≡ qs
    later = sym (drop-drop 1 k (pieces 10 s)) ∙ ap (λ (ls : List (List ℕ)). drop 1 ls) e

pub headers-order : {s : List ℕ} {end i l : ℕ} {hs : List Header} → HeaderLines s end i l hs → i ≤ end
headers-order none = omega arith
headers-order (more p a b h) = omega (arith, headers-order h)

-- ---- an opened file
pub opened_checked : (s : List ℕ) → (opened_of s).checked ≡ checked_of s
unfolding opened_of checked_of
opened_checked s = go (outcome_of s)
  where
    go : (x : Outcome) → (opened_by s x).checked ≡ checked_by s x
    go (accepted t n) = refl
    go (refused a b c) = refl

-- the table of a file that is not refused
pub record OpenedTable (s : List ℕ) (o : Opened) : Type 0 where
  pub table : Table
  pub is : outcome_of s ≡ accepted table o.checked.rows
  pub columns : o.checked.columns ≡ length table.names
  pub kind : o.checked.kind ≡ kind_by table.sort
  pub first : LineThere s table.line o.first
  pub names : LineThere s (names_line table) o.names
  pub named : NamesKept table (line_at s o.names)
  pub headers : HeaderLines s o.names o.headers (headers_line table) table.headers

table_of_lem : (s : List ℕ) (t : Table) (n : ℕ) → outcome_of s ≡ accepted t n → OpenedTable s (opened_by s (accepted t n))
table_of_lem s t n e = record {
  table = t;
  is = e;
  columns = refl;
  kind = refl;
  first = line-there s t.line deep;
  names = names_at_lem;
  named = subst (NamesKept t) (sym names_at_lem.stands.text) (names-kept s t n e);
  headers = subst (λ (m : ℕ). HeaderLines s (line_begin s m) (line_begin s (headers_line t)) (headers_line t) t.headers) ends
      (heads_stand s (headers_line t) (drop (headers_line t) (pieces 10 s)) t.headers (heads-kept s t n e) refl (omega (arith, deep, above)));
}
  where
    above : length t.headers + 2 ≤ t.line
    above = lines-before s t n e

    deep : suc t.line < length (pieces 10 s)
    deep =
        let k : RowKept t (drop t.line (pieces 10 s)) 0 = rows-kept s t n e 0 (rows-some s t n e) in
        omega (arith, k.line, length-drop t.line (pieces 10 s))

    names_at_lem : LineThere s (names_line t) (line_begin s (names_line t))
    names_at_lem = line-there s (names_line t) (omega (arith, deep))

    ends : headers_line t + length t.headers ≡ names_line t
    ends = omega (arith, above)

module _ (s : List ℕ) (o : Opened) (e : o ≡ opened_of s) where
  pub opened-refused : (o.checked.number ≡ 0 → ⊥) → outcome_of s ≡ refused o.checked.number o.checked.line o.checked.column
  unfolding opened_of
  opened-refused z = go (outcome_of s) refl e
    where
      go : (x : Outcome) → outcome_of s ≡ x → o ≡ opened_by s x → outcome_of s ≡ refused o.checked.number o.checked.line o.checked.column
      go (accepted t n) q h = absurd (z (ap (λ (y : Opened). y.checked.number) h))
      go (refused a b c) q h = q ∙ sym (ap (λ (y : Opened). refused y.checked.number y.checked.line y.checked.column) h)

  pub opened-table : o.checked.number ≡ 0 → OpenedTable s o
  unfolding opened_of
  opened-table z = go (outcome_of s) refl e
    where
      go : (x : Outcome) → outcome_of s ≡ x → o ≡ opened_by s x → OpenedTable s o
      go (accepted t n) q h = subst (OpenedTable s) (sym h) (table_of_lem s t n q)
      go (refused a b c) q h = absurd (refused_numbered s q (sym (ap (λ (y : Opened). y.checked.number) h) ∙ z))

-- ---- its rows
map-drop : (n : ℕ) (ls : List (List ℕ)) → map (pieces 44) (drop n ls) ≡ drop n (map (pieces 44) ls)
map-drop zero ls = refl
map-drop (suc n) [] = refl
map-drop (suc n) (l ∷ ls) = map-drop n ls

-- the rows from the place on where the data lines start
pub rows-first : (s : List ℕ) (t : Table) (i n : ℕ) → lines_from s i ≡ drop t.line (pieces 10 s) → rows_from s i n ≡ rows_in t n s
rows-first s t i n e = ap (λ (ls : List (List ℕ)). take n (map (pieces 44) ls)) e ∙ ap (take n) (map-drop t.line (pieces 10 s))

-- row j, from 0
pub row-found : {s : List ℕ} {o : Opened} (w : OpenedTable s o) (j : ℕ) → j < o.checked.rows → RowAt s w.table j (line_start s o.first j)
row-found {s} {o} w j h = row_at s w.table o.checked.rows o.first j w.is w.first.inside w.first.lines h
