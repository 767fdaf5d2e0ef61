-- A line and its cells by the place where the line goes on.
use Prim.Native.Nat.{ℕ, zero, suc, ◌+◌, ◌-◌, ◌≤◌, ◌<◌}
use mathlib.Core.Path.{◌≡◌, refl, sym, ap, ◌∙◌}
use mathlib.Core.List.{List, [], ◌∷◌, map}
use mathlib.Core.Bool.{Bool, true, false, cond, ◌&&◌, true≢false}
use native.Mathlib.Nat.{add-zero, not-suc-le-zero}
use native.Mathlib.Omega.{arith}
use lib.ListN.{length, get_or, length-map}
use lib.Dec.{eqb, leb, ltb}
use borrow.Author.Tests.{eqb-true, eq-eqb, lt-ltb, le-ltb, ltb-true, ltb-false, le-leb, lt-leb, leb-true, leb-false}
use Rattle.line_bytes.specs.declared.Span.{Span}
use Rattle.line_bytes.specs.Cells.{line_at, pieces, cell_at}
use Rattle.line_bytes.specs.Inner.Scans.{Stop}
use Rattle.line_bytes.proofs.CellLaws.{both_true, stop_moved}
use Rattle.format.specs.Grid.{starts, span_in}
use Rattle.format.specs.Inner.Grid.{line_start, cell_span}
use Rattle.format.specs.Inner.Lines.{lines_from}
use Rattle.format.specs.ByPlace.{line_after, cells_in, has_cell, text_of}
use Rattle.format.proofs.RunLaws.{lines_more, lines_cut}
use Rattle.format.proofs.EndsLaws.{ends-stop}
use Rattle.format.proofs.GridLaws.{total-pieces, total-starts, SpanAt, span_at_lem}
use Rattle.format.proofs.GridWalkLaws.{line-stop, line_on, line-none}

-- ---- the next line
pub after-fed : (s : List ℕ) (i e : ℕ) → e ≡ i + length (line_at s i) → e < length s → e + 1 ≡ line_after s i
unfolding line_after
after-fed s i e f h = omega (arith, f)

pub start-after : (s : List ℕ) (i : ℕ) → line_start s i 1 ≡ line_after s i
unfolding line_start line_after starts
start-after s i = go (ltb (i + length (line_at s i)) (length s)) refl
  where
    by : List (List ℕ) → ℕ
    by ls = cond (ltb 1 (length ls)) (i + starts (map length ls) 1) (length s)

    go : (z : Bool) → ltb (i + length (line_at s i)) (length s) ≡ z → line_start s i 1 ≡ line_after s i
    go true q =
        let h = ltb-true (i + length (line_at s i)) (length s) q in
        let ls = lines_from s (i + length (line_at s i) + 1) in
        ap by (lines_more s i h) ∙ rw (lt-ltb 1 (suc (length ls)) (omega arith)) (omega arith)
    go false q = let h = ltb-false (i + length (line_at s i)) (length s) q in ap by (lines_cut s i h) ∙ omega arith

-- ---- the same line from a later place of it
pub line-within : (s : List ℕ) (k i : ℕ) → k ≤ length (line_at s i) → i + k + length (line_at s (i + k)) ≡ i + length (line_at s i)
line-within s zero i h = ap (λ (j : ℕ). j + length (line_at s j)) (add-zero i)
line-within s (suc k) i h =
    let e : i + 1 + k ≡ i + suc k = omega arith in
    ap (λ (j : ℕ). j + length (line_at s j)) (sym e) ∙ line-within s k (i + 1) (omega (arith, on)) ∙ sym on
  where
    inside : i < length s
    inside = go (ltb i (length s)) refl
      where
        go : (z : Bool) → ltb i (length s) ≡ z → i < length s
        go true q = ltb-true i (length s) q
        go false q = absurd (omega (arith, line-none s i (ltb-false i (length s) q)))

    on : i + length (line_at s i) ≡ i + 1 + length (line_at s (i + 1))
    on = line_on s i inside (λ z. omega (arith, h, line-stop s i inside z))

-- ---- which cells a line has
module _ (s : List ℕ) (i c : ℕ) where
  pub lacks-first : c ≡ 0 → has_cell s i c ≡ false
  unfolding has_cell
  lacks-first z = rw z

  lacks-many : length (cells_in s i) < c → has_cell s i c ≡ false
  unfolding has_cell
  lacks-many h = go (leb 1 c) (lt-leb c (length (cells_in s i)) h)
    where
      go : (a : Bool) → leb c (length (cells_in s i)) ≡ false → (a && leb c (length (cells_in s i))) ≡ false
      go true e = e
      go false e = refl

  -- no line feed, or too few cells
  pub lacks-feed : length s ≤ i + length (line_at s i) → 1 ≤ c → has_cell s i c ≡ false
  lacks-feed h o = lacks-many (rw (le-ltb (i + length (line_at s i)) (length s) h) o)

  pub lacks-cell : length (pieces 44 (line_at s i)) < c → has_cell s i c ≡ false
  lacks-cell h = lacks-many (go (ltb (i + length (line_at s i)) (length s)))
    where
      go : (z : Bool) → length (cond z (pieces 44 (line_at s i)) []) < c
      go true = h
      go false = omega (arith, h)

  -- the cell that is there
  pub record CellThere : Type 0 where
    pub has : has_cell s i c ≡ true
    pub cells : cells_in s i ≡ pieces 44 (line_at s i)
    pub fed : i + length (line_at s i) < length s
    pub stop : Stop 44 s (cell_span s i (c - 1)).start (i + length (line_at s i))
    pub text : cell_at 44 s (cell_span s i (c - 1)).start ≡ text_of s i c
    pub room : (cell_span s i (c - 1)).start + (cell_span s i (c - 1)).len ≤ length s

  pub cell-there : i + length (line_at s i) < length s → 1 ≤ c → c ≤ length (pieces 44 (line_at s i)) → CellThere
  unfolding has_cell
  cell-there h o m = record {
    has = rw (le-leb 1 c o, cells_are) (le-leb c (length (pieces 44 (line_at s i))) m);
    cells = cells_are;
    fed = h;
    stop = stop_moved line-ends at.inside;
    text = at.text ∙ ap (λ (ts : List (List ℕ)). get_or ts (c - 1) []) (sym cells_are);
    room = omega (arith, at.room, h);
  }
    where
      cells_are : cells_in s i ≡ pieces 44 (line_at s i)
      cells_are = rw (lt-ltb (i + length (line_at s i)) (length s) h)

      line-ends : Stop 44 s i (i + length (line_at s i))
      line-ends = ends-stop (record { room = h; far = refl })

      at : SpanAt s i (i + length (line_at s i)) (c - 1)
      at = span_at_lem (c - 1) s i (i + length (line_at s i)) line-ends (omega (arith, o, m))

  pub has_there : has_cell s i c ≡ true → CellThere
  unfolding has_cell
  has_there e = go (ltb (i + length (line_at s i)) (length s)) refl (both_true (leb 1 c) (leb c (length (cells_in s i))) e)
    where
      go : (z : Bool) → ltb (i + length (line_at s i)) (length s) ≡ z → (leb 1 c ≡ true) × (leb c (length (cond z (pieces 44 (line_at s i)) [])) ≡ true) → CellThere
      go true q b = cell-there (ltb-true (i + length (line_at s i)) (length s) q) (leb-true 1 c b.0) (leb-true c (length (pieces 44 (line_at s i))) b.1)
      go false q b = absurd (omega (arith, leb-true 1 c b.0, leb-true c 0 b.1))

-- ---- a cell looked for: one after the first starts behind the file's start
later-start : (i : ℕ) (ts : List (List ℕ)) (k : ℕ) → k < length ts → 0 < k → 0 < (span_in i ts k).start
unfolding span_in starts
later-start i [] k h z = absurd (not-suc-le-zero h)
later-start i (t ∷ ts) zero h z = absurd (omega arith)
later-start i (t ∷ ts) (suc k) h z = rw (lt-ltb (suc k) (suc (length ts)) h) (omega arith)

past-start : (i : ℕ) (ts : List (List ℕ)) (k : ℕ) → length ts ≤ k → (span_in i ts k).start ≡ 0
unfolding span_in
past-start i ts k h = rw (le-ltb k (length ts) h)

start_in-line : (i c : ℕ) (xs : List ℕ) (k : ℕ) → k < length (pieces c xs) → (i ≤ (span_in i (pieces c xs) k).start) × ((span_in i (pieces c xs) k).start ≤ i + length xs)
unfolding span_in
start_in-line i c xs k h =
    let e = total-starts (map length (pieces c xs)) k (rw (length-map (pieces c xs) length) h) in
    rw (lt-ltb k (length (pieces c xs)) h) (omega arith, omega (arith, e, total-pieces c xs))

module _ (s : List ℕ) (i c : ℕ) (o : 1 ≤ c) (p : Span) (d : p ≡ cell_span s i (c - 1)) where
  start_is : p.start ≡ (cell_span s i (c - 1)).start
  start_is = ap (λ (x : Span). x.start) d

  pub span_lacks : (ltb 1 c && eqb p.start 0) ≡ true → length (pieces 44 (line_at s i)) < c
  span_lacks t = go (leb c (length (pieces 44 (line_at s i)))) refl (both_true (ltb 1 c) (eqb p.start 0) t)
    where
      go : (b : Bool) → leb c (length (pieces 44 (line_at s i))) ≡ b → (ltb 1 c ≡ true) × (eqb p.start 0 ≡ true) → length (pieces 44 (line_at s i)) < c
      go true q t =
          let m = leb-true c (length (pieces 44 (line_at s i))) q in
          let l = later-start i (pieces 44 (line_at s i)) (c - 1) (omega (arith, m, o)) (omega (arith, ltb-true 1 c t.0)) in
          absurd (omega (arith, l, eqb-true p.start 0 t.1, start_is))
      go false q t = leb-false c (length (pieces 44 (line_at s i))) q

  pub span_has : (ltb 1 c && eqb p.start 0) ≡ false → c ≤ length (pieces 44 (line_at s i))
  span_has t = go (leb c (length (pieces 44 (line_at s i)))) refl
    where
      go : (b : Bool) → leb c (length (pieces 44 (line_at s i))) ≡ b → c ≤ length (pieces 44 (line_at s i))
      go true q = leb-true c (length (pieces 44 (line_at s i))) q
      go false q =
          let m = leb-false c (length (pieces 44 (line_at s i))) q in
          let z : p.start ≡ 0 = start_is ∙ past-start i (pieces 44 (line_at s i)) (c - 1) (omega (arith, m)) in
          let both : (ltb 1 c && eqb p.start 0) ≡ true = rw (lt-ltb 1 c (omega (arith, m)), eq-eqb p.start 0 z) in
          absurd (true≢false (sym both ∙ t))

  -- its line feed is that of the line
  pub span-feed : c ≤ length (pieces 44 (line_at s i)) → p.start + length (line_at s p.start) ≡ i + length (line_at s i)
  span-feed m =
      let w = start_in-line i 44 (line_at s i) (c - 1) (omega (arith, m, o)) in
      let e : i + (p.start - i) ≡ p.start = omega (arith, start_is, w.0) in
      ap (λ (j : ℕ). j + length (line_at s j)) (sym e) ∙ line-within s (p.start - i) i (omega (arith, start_is, w.0, w.1))
