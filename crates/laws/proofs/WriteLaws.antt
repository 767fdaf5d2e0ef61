-- Texts written into cells of a row that keeps its rules: with texts that fit their columns it keeps them, and an accepted file stays accepted.
--   rules-kept : is_good (judge (kind_of (get_or ks i 0)) u) ≡ true → row_fault ks ts ≡ clean → row_fault ks (set ts i u) ≡ clean
--   measured-goes_on : c < length ks → get_or ks c 0 ≡ 0 → row_fault ks (pieces 44 x) ≡ clean → is_end_data x ≡ false
--   writes_widths : All (Fits ks (map length ts)) ws → map length (written ts ws) ≡ map length ts
--   writes_kept : All (Fits ks (map length ts)) ws → RowHolds ks ts → RowHolds ks (written ts ws)
--   row-holds : outcome_of f ≡ accepted t n → r < n → RowHolds (kinds_of t.names) (get_or (grid f) (t.line + r) [])
-- and for texts ws that fit row r of an accepted file f, where column c is measured:
--   grid-written : grid (ungrid (grid_written f (t.line + r) ws)) ≡ grid_written f (t.line + r) ws
--   file-written : outcome_of (ungrid (grid_written f (t.line + r) ws)) ≡ accepted t n
use Prim.Native.Nat.{ℕ, zero, suc, ◌+◌, ◌<◌}
use mathlib.Core.Path.{◌≡◌, refl, sym, ap, subst, ◌∙◌}
use mathlib.Core.Bool.{Bool, true, false, and-eq-true_iff}
use mathlib.Core.List.{List, [], ◌∷◌, map}
use native.Mathlib.Omega.{arith}
use lib.Dec.{eqb, leb}
use lib.ListN.{length, get_or, set, drop, length-set, length-map, length-drop, get_or-map}
use lib.Seq.{map-set_same, get_or-drop}
use borrow.Author.Tests.{ne_eqb, leb-true}
use Rattle.line_bytes.specs.Bytes.{bytes, every}
use Rattle.line_bytes.specs.Cells.{first_piece, later_pieces, pieces}
use Rattle.verdicts.specs.Verdicts.{Verdict, blank, wrong, out_of_range, good, is_good}
use Rattle.verdicts.specs.Decimals.{front, fraction, unsigned_of, decimal_of}
use Rattle.line_bytes.specs.Spaces.{trim_front, keep, trim_end, trim}
use Rattle.verdicts.specs.Kinds.{kind_of}
use Rattle.verdicts.specs.Judge.{of_kind, judge}
use Rattle.line_bytes.proofs.EqualLaws.{equal-same}
use Rattle.line_bytes.proofs.EveryLaws.{every-cons}
use Rattle.line_bytes.specs.Inner.Lines.{is_plain}
use Rattle.format.specs.Faults.{clean, breaks, unless, kind_fault, first_of}
use Rattle.format.specs.Columns.{kinds_of}
use Rattle.format.specs.Rows.{is_end_data, cell_rules, row_rules}
use Rattle.laws.specs.Inner.Writes.{join, ungrid, Write, written}
use Rattle.format.specs.Profiles.{grid}
use Rattle.format.specs.Places.{Table, accepted, outcome_of}
use Rattle.format.specs.Inner.Faults.{line_fault, cell_fault, row_fault, bound_fault}
use Rattle.format.proofs.FaultLaws.{then-clean}
use Rattle.format.proofs.VerdictLaws.{fault-good}
use Rattle.format.proofs.GridLaws.{get_d_mapped, cells-many}
use Rattle.format.proofs.AcceptLaws.{rows-kept}
use Rattle.laws.proofs.JoinLaws.{Free, All, join-pieces, pieces-free}
use Rattle.laws.proofs.UngridLaws.{all_at, CleanRow, clean-row, clean-grid, row-free, cells-row, clean-row-set, clean-set, ungrid-set, grid-ungrid}
use Rattle.laws.proofs.RowKeepLaws.{row_replaced}
use Rattle.laws.proofs.LineKeepLaws.{line_kept}

-- ---- rules 15, then 17, 16, 18 of a row
fault_moved : (v : Verdict) (c d : ℕ) → kind_fault v c ≡ clean → kind_fault v d ≡ clean
fault_moved blank c d e = let z : ◌≡◌ {A = ℕ} 0 1 = cc in absurd (omega arith)
fault_moved wrong c d e = let z : ◌≡◌ {A = ℕ} 0 1 = cc in absurd (omega arith)
fault_moved out_of_range c d e = let z : ◌≡◌ {A = ℕ} 0 1 = cc in absurd (omega arith)
fault_moved (good m v n) c d e = refl

faults_moved : (ks : List ℕ) (ts : List (List ℕ)) (c d : ℕ) → cell_fault c ks ts ≡ clean → cell_fault d ks ts ≡ clean
unfolding cell_fault cell_rules first_of
faults_moved [] ts c d e = refl
faults_moved (k ∷ ks) [] c d e = refl
faults_moved (k ∷ ks) (t ∷ ts) c d e =
    let w = then-clean (kind_fault (judge (kind_of k) t) c) (cell_fault (c + length t + 1) ks ts) e in
    rw (fault_moved (judge (kind_of k) t) c d w.0) (faults_moved ks ts (c + length t + 1) (d + length t + 1) w.1)

faults-kept : (ks : List ℕ) (ts : List (List ℕ)) (i : ℕ) (u : List ℕ) (c d : ℕ) → is_good (judge (kind_of (get_or ks i 0)) u) ≡ true → cell_fault c ks ts ≡ clean → cell_fault d ks (set ts i u) ≡ clean
unfolding cell_fault cell_rules first_of
faults-kept [] ts i u c d g e = refl
faults-kept (k ∷ ks) [] i u c d g e = refl
faults-kept (k ∷ ks) (t ∷ ts) zero u c d g e =
    let w = then-clean (kind_fault (judge (kind_of k) t) c) (cell_fault (c + length t + 1) ks ts) e in
    rw (fault-good (judge (kind_of k) u) d g) (faults_moved ks ts (c + length t + 1) (d + length u + 1) w.1)
faults-kept (k ∷ ks) (t ∷ ts) (suc i) u c d g e =
    let w = then-clean (kind_fault (judge (kind_of k) t) c) (cell_fault (c + length t + 1) ks ts) e in
    rw (fault_moved (judge (kind_of k) t) c d w.0) (faults-kept ks ts i u (c + length t + 1) (d + length t + 1) g w.1)

pub rules-kept : (ks : List ℕ) (ts : List (List ℕ)) (i : ℕ) (u : List ℕ) → is_good (judge (kind_of (get_or ks i 0)) u) ≡ true → row_fault ks ts ≡ clean → row_fault ks (set ts i u) ≡ clean
unfolding row_fault cell_fault row_rules first_of
rules-kept ks ts i u g e =
    let w = then-clean (unless (eqb (length ts) (length ks)) 15 1) (cell_fault 1 ks ts) e in
    rw (length-set ts i u, w.0, faults-kept ks ts i u 1 1 g w.1)

-- ---- a row with a measured column is not the line END_DATA, whose one cell is no decimal
end_no-row : (ks : List ℕ) (c : ℕ) → c < length ks → get_or ks c 0 ≡ 0 → row_fault ks (bytes "END_DATA" ∷ []) ≡ clean → ⊥
unfolding row_fault cell_fault row_rules first_of cell_rules every trim_front keep trim_end trim front fraction unsigned_of decimal_of kind_of of_kind judge
end_no-row [] c h k e = absurd (omega arith)
end_no-row (x ∷ []) zero h k e =
    let f : breaks 16 1 ≡ clean = subst (λ (y : ℕ). row_fault (y ∷ []) (bytes "END_DATA" ∷ []) ≡ clean) k e in
    let z : ◌≡◌ {A = ℕ} 0 1 = cc f in
    omega arith
end_no-row (x ∷ []) (suc c) h k e = omega arith
end_no-row (x ∷ (y ∷ ks)) c h k e = omega (arith, cells-many (x ∷ (y ∷ ks)) (bytes "END_DATA" ∷ []) e)

pub measured-goes_on : (ks : List ℕ) (x : List ℕ) (c : ℕ) → c < length ks → get_or ks c 0 ≡ 0 → row_fault ks (pieces 44 x) ≡ clean → is_end_data x ≡ false
unfolding first_piece later_pieces
measured-goes_on ks x c h k e = go (is_end_data x) refl
  where
    go : (b : Bool) → is_end_data x ≡ b → b ≡ false
    go true q = absurd (end_no-row ks c h k (subst (λ (y : List ℕ). row_fault ks (pieces 44 y) ≡ clean) (equal-same x (bytes "END_DATA") q) e))
    go false q = refl

-- ---- a row that keeps its rules
pub record RowHolds (ks : List ℕ) (ts : List (List ℕ)) : Type 0 where
  pub texts : CleanRow ts
  pub line : line_fault true (join 44 ts) ≡ clean
  pub cells : row_fault ks ts ≡ clean

-- a text that may be written into a row of columns of these kinds and cells of these widths: as long as the cell it replaces, plain bytes, no comma, good by its column's kind
pub record Fits (ks widths : List ℕ) (w : Write) : Type 0 where
  pub inside : w.col < length widths
  pub long : length w.text ≡ get_or widths w.col 0
  pub plain : every is_plain w.text ≡ true
  pub comma : Free 44 w.text
  pub kind : is_good (judge (kind_of (get_or ks w.col 0)) w.text) ≡ true

plain-line : (u : List ℕ) → every is_plain u ≡ true → Free 10 u
plain-line [] e = tt
plain-line (x ∷ u) e =
    let w = every-cons is_plain x u e in
    let l = leb-true 0x20 x ((and-eq-true_iff (leb 0x20 x) (leb x 0x7e)).0 w.0).0 in
    (ne_eqb x 10 (λ q. omega arith), plain-line u w.1)

module _ (ks : List ℕ) (ts : List (List ℕ)) (w : Write) (f : Fits ks (map length ts) w) where
  same_width : length w.text ≡ length (get_or ts w.col [])
  same_width = f.long ∙ get_or-map length ts w.col []

  write_widths : map length (set ts w.col w.text) ≡ map length ts
  write_widths = map-set_same length ts w.col w.text [] same_width

  write_kept : RowHolds ks ts → RowHolds ks (set ts w.col w.text)
  write_kept h =
      let i : w.col < length ts = rw length-map at f.inside in
      record {
        texts = clean-row-set ts w.col w.text h.texts (f.comma, plain-line w.text f.plain);
        line = line_kept ts w.col w.text i same_width f.plain h.line;
        cells = rules-kept ks ts w.col w.text f.kind h.cells;
      }

pub writes_widths : (ks : List ℕ) (ts : List (List ℕ)) (ws : List Write) → All (Fits ks (map length ts)) ws → map length (written ts ws) ≡ map length ts
unfolding written
writes_widths ks ts [] f = refl
writes_widths ks ts (w ∷ ws) f =
    let e = write_widths ks ts w f.0 in
    writes_widths ks (set ts w.col w.text) ws (subst (λ (v : List ℕ). All (Fits ks v) ws) (sym e) f.1) ∙ e

pub writes_kept : (ks : List ℕ) (ts : List (List ℕ)) (ws : List Write) → All (Fits ks (map length ts)) ws → RowHolds ks ts → RowHolds ks (written ts ws)
unfolding written
writes_kept ks ts [] f h = h
writes_kept ks ts (w ∷ ws) f h =
    let e = write_widths ks ts w f.0 in
    writes_kept ks (set ts w.col w.text) ws (subst (λ (v : List ℕ). All (Fits ks v) ws) (sym e) f.1) (write_kept ks ts w f.0 h)

-- ---- in an accepted file
pub row-holds : (f : List ℕ) (t : Table) (n r : ℕ) → outcome_of f ≡ accepted t n → r < n → RowHolds (kinds_of t.names) (get_or (grid f) (t.line + r) [])
row-holds f t n r e h =
    let k = rows-kept f t n e r h in
    let i : t.line + r < length (pieces 10 f) = omega (arith, k.line, length-drop t.line (pieces 10 f)) in
    let x = get_or (pieces 10 f) (t.line + r) [] in
    let same : get_or (drop t.line (pieces 10 f)) r [] ≡ x = get_or-drop t.line (pieces 10 f) r [] in
    rw (get_d_mapped (pieces 10 f) (t.line + r) i)
    record {
      texts = clean-row x (all_at (Free 10) [] (pieces 10 f) (t.line + r) (pieces-free 10 f) i);
      line = rw (join-pieces 44 x) (rw same at k.bytes);
      cells = rw same at k.cells;
    }

-- the lines of cells of f, with texts written into line k
abbrev pub grid_written : List ℕ → ℕ → List Write → List (List (List ℕ))
grid_written f k ws = set (grid f) k (written (get_or (grid f) k []) ws)

module _ (f : List ℕ) (t : Table) (n r : ℕ) (e : outcome_of f ≡ accepted t n) (h : r < n) (ws : List Write)
    (fits : All (Fits (kinds_of t.names) (map length (get_or (grid f) (t.line + r) []))) ws) where
  abbrev row : List (List ℕ)
  row = written (get_or (grid f) (t.line + r) []) ws

  row-still : RowHolds (kinds_of t.names) row
  row-still = writes_kept (kinds_of t.names) (get_or (grid f) (t.line + r) []) ws fits (row-holds f t n r e h)

  pub grid-written : grid (ungrid (grid_written f (t.line + r) ws)) ≡ grid_written f (t.line + r) ws
  grid-written = grid-ungrid (grid_written f (t.line + r) ws) (clean-set (grid f) (t.line + r) row (clean-grid f) row-still.texts)

  pub file-written : (c : ℕ) → c < length (kinds_of t.names) → get_or (kinds_of t.names) c 0 ≡ 0 → bound_fault t.names row ≡ clean → outcome_of (ungrid (grid_written f (t.line + r) ws)) ≡ accepted t n
  file-written c l m b =
      let rules : row_fault (kinds_of t.names) (pieces 44 (join 44 row)) ≡ clean = rw (cells-row row row-still.texts) row-still.cells in
      let bound : bound_fault t.names (pieces 44 (join 44 row)) ≡ clean = rw (cells-row row row-still.texts) b in
      ap outcome_of (ungrid-set f (t.line + r) row)
      ∙ row_replaced f t n r (join 44 row) e h (row-free row row-still.texts) row-still.line (measured-goes_on (kinds_of t.names) (join 44 row) c l m rules) rules bound
