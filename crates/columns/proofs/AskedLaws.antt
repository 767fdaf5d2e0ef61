-- What is asked of the names line, cell by cell.
use Prim.Native.Nat.{ℕ, zero, suc, ◌+◌, ◌-◌, ◌≤◌, ◌<◌}
use mathlib.Core.Path.{◌≡◌, refl, sym, ap, ◌∙◌}
use mathlib.Core.List.{List, [], ◌∷◌, map}
use mathlib.Core.Logic.{◌⊎◌, inl, inr}
use mathlib.Core.Bool.{Bool, true, false, cond, ◌&&◌, ◌||◌, true≢false}
use native.Mathlib.Numerals.{add-one}
use native.Mathlib.Omega.{arith}
use lib.ListN.{length, get_or, take}
use lib.Dec.{eqb, leb, ltb}
use borrow.Author.Tests.{eqb-true, eqb-false, leb-true, leb-false}
use Rattle.line_bytes.specs.declared.Span.{Span}
use Rattle.line_bytes.specs.Bytes.{equal}
use Rattle.line_bytes.specs.Cells.{later_pieces, pieces, line_at, cell_at, cell_end}
use Rattle.line_bytes.specs.Spaces.{trim_front, trim_end, trim}
use Rattle.line_bytes.specs.Names.{parameter_length}
use Rattle.line_bytes.proofs.CellLaws.{cell_end_from}
use Rattle.line_bytes.proofs.SpaceLaws.{span-bytes}
use Rattle.format.specs.Faults.{member, place_in}
use Rattle.format.specs.Columns.{is_flag, parameter_of, names_of, kind_of_name, flag_from}
use Rattle.format.specs.Inner.Names.{text_in}
use Rattle.format.specs.Inner.Grid.{cell_span}
use Rattle.format.proofs.GridWalkLaws.{end_past, span_own, span-next, span-ended, span-fed}
use Rattle.columns.specs.Inner.Columns.{is_last}
use Rattle.format.specs.NamesLine.{name_in_line, kind_in_line, column_in_line, flag_in_line}
use Rattle.columns.specs.Inner.NamesLine.{is_named, is_flag_of, first_from, is_wanted}
use Rattle.columns.proofs.NamesLineLaws.{end-within, cell-text, cells-last, cells-more}

-- ---- the first column that is wanted: the walk over the cells, which is at the cell at i, column k
abbrev pub Looked : List ℕ → ℕ → (List ℕ → Bool) → ℕ → ℕ → Type 0
Looked s at p i k = first_from 1 p (names_of (line_at s at)) ≡ first_from k p (names_of (line_at s i))

pub look-first : (s : List ℕ) (at : ℕ) (p : List ℕ → Bool) → Looked s at p at 1
look-first s at p = refl

module _ (s : List ℕ) (i q : ℕ) (eq : q ≡ cell_end 44 s i) where
  pub look-room : is_last s q ≡ false → (i ≤ q) × (q < length s)
  look-room l = (omega (arith, eq, cell_end_from 44 s i), (cells-more s i q eq l).0)

  module _ (at : ℕ) (p : List ℕ → Bool) (k : ℕ) (w : Looked s at p i k) (t : List ℕ) (et : t ≡ text_in s i q) (b : Bool) (eb : b ≡ p t) where
    look-here : first_from 1 p (names_of (line_at s at)) ≡ cond b k (first_from (k + 1) p (map trim (later_pieces 44 (line_at s i))))
    unfolding first_from
    look-here =
        w
        ∙ ap (λ (z : Bool). cond z k (first_from (k + 1) p (map trim (later_pieces 44 (line_at s i))))) (sym (eb ∙ ap p (et ∙ cell-text s i q eq)))

    pub look-found : b ≡ true → k ≡ first_from 1 p (names_of (line_at s at))
    look-found z = sym (look-here ∙ rw z)

    rest : List (List ℕ) → List (List ℕ)
    rest [] = []
    rest (u ∷ us) = us

    pub look_none : b ≡ false → is_last s q ≡ true → 0 ≡ first_from 1 p (names_of (line_at s at))
    unfolding first_from rest
    look_none z l =
        let e : later_pieces 44 (line_at s i) ≡ [] = ap rest (cells-last s i q eq l) in
        sym (look-here ∙ rw z (ap (λ (us : List (List ℕ)). first_from (k + 1) p (map trim us)) e))

    pub look-next : b ≡ false → is_last s q ≡ false → Looked s at p (q + 1) (k + 1)
    unfolding rest
    look-next z l =
        let e : later_pieces 44 (line_at s i) ≡ pieces 44 (line_at s (q + 1)) = ap rest (cells-more s i q eq l).1 in
        look-here ∙ rw z (ap (λ (us : List (List ℕ)). first_from (k + 1) p (map trim us)) e)

-- ---- what is wanted
module _ (y n : List ℕ) where
  pub flag-of : (p : ℕ) → p ≡ parameter_length y → (b : Bool) → b ≡ equal (take p y) n → (ltb 0 p && b) ≡ is_flag_of n y
  unfolding is_flag_of
  flag-of p d b h = rw (h, d)

  pub wanted-name : (f : Bool) → f ≡ false → (b : Bool) → b ≡ equal y n → b ≡ is_wanted f n y
  unfolding is_wanted
  wanted-name f e b h = rw e h

  pub wanted-flag : (f : Bool) → f ≡ true → (p : ℕ) → p ≡ parameter_length y → (b : Bool) → b ≡ equal (take p y) n → (ltb 0 p && b) ≡ is_wanted f n y
  unfolding is_wanted
  wanted-flag f e p d b h = rw (e, h, d)

first-flag : (k : ℕ) (n : List ℕ) (ys : List (List ℕ)) → first_from k (is_flag_of n) ys ≡ flag_from k n ys
unfolding first_from flag_from is_flag_of
first-flag k n [] = refl
first-flag k n (y ∷ ys) = ap (cond (is_flag y && equal (parameter_of y) n) k) (first-flag (k + 1) n ys)

first-name : (k : ℕ) (n : List ℕ) (ys : List (List ℕ)) → first_from k (is_named n) ys ≡ cond (member n ys) (place_in n ys + k) 0
unfolding first_from is_named member place_in
first-name k n [] = refl
first-name k n (y ∷ ys) = go (equal y n) (member n ys) (first-name (k + 1) n ys)
  where
    go : (a b : Bool) → first_from (k + 1) (is_named n) ys ≡ cond b (place_in n ys + (k + 1)) 0
        → cond a k (first_from (k + 1) (is_named n) ys) ≡ cond (a || b) (cond a 0 (suc (place_in n ys)) + k) 0
    go true b h = omega arith
    go false true h = h ∙ omega arith
    go false false h = h

pub column_looked : (x n : List ℕ) (r : ℕ) → r ≡ first_from 1 (is_named n) (names_of x) → r ≡ column_in_line x n
unfolding column_in_line
column_looked x n r e = e ∙ first-name 1 n (names_of x)

pub flag_looked : (x : List ℕ) (c : ℕ) (n : List ℕ) → n ≡ name_in_line x c → (r : ℕ) → r ≡ first_from 1 (is_flag_of n) (names_of x) → r ≡ flag_in_line x c
unfolding flag_in_line
flag_looked x c n d r e = e ∙ first-flag 1 n (names_of x) ∙ ap (λ (m : List ℕ). flag_from 1 m (names_of x)) d

-- ---- the place of a cell, by the cells before it
module _ (s : List ℕ) (k i : ℕ) where
  pub span_last : is_last s (cell_end 44 s i) ≡ true → cell_span s i (suc k) ≡ record { start = 0; len = 0 }
  unfolding is_last
  span_last h = rw (← add-one k) (go (leb (length s) (cell_end 44 s i)) (eqb (get_or s (cell_end 44 s i) 0) 10) refl refl h)
    where
      go : (a b : Bool) → leb (length s) (cell_end 44 s i) ≡ a → eqb (get_or s (cell_end 44 s i) 0) 10 ≡ b → (a || b) ≡ true → cell_span s i (k + 1) ≡ record { start = 0; len = 0 }
      go true b u v h = span-ended s i k (leb-true (length s) (cell_end 44 s i) u)
      go false true u v h = span-fed s i k (eqb-true (get_or s (cell_end 44 s i) 0) 10 v)
      go false false u v h = absurd (true≢false (sym h))

  pub span-later : is_last s (cell_end 44 s i) ≡ false → cell_span s i (suc k) ≡ cell_span s (cell_end 44 s i + 1) k
  unfolding is_last
  span-later h = rw (← add-one k) (go (leb (length s) (cell_end 44 s i)) (eqb (get_or s (cell_end 44 s i) 0) 10) refl refl h)
    where
      go : (a b : Bool) → leb (length s) (cell_end 44 s i) ≡ a → eqb (get_or s (cell_end 44 s i) 0) 10 ≡ b → (a || b) ≡ false → cell_span s i (k + 1) ≡ cell_span s (cell_end 44 s i + 1) k
      go true b u v h = absurd (true≢false h)
      go false true u v h = absurd (true≢false h)
      go false false u v h = span-next s i k (leb-false (length s) (cell_end 44 s i) u) (eqb-false (get_or s (cell_end 44 s i) 0) 10 v)

-- ---- the name of a column
module _ (s : List ℕ) where
  nothing-there : text_in s 0 0 ≡ []
  unfolding trim trim_front trim_end
  nothing-there = span-bytes s 0 0 (omega arith) (omega arith)

  -- the text at the place of a cell, and how far it goes
  pub span-text : (k i : ℕ) → text_in s (cell_span s i k).start ((cell_span s i k).start + (cell_span s i k).len) ≡ get_or (names_of (line_at s i)) k []
  span-text zero i =
      let e = span_own s i (cell_end 44 s i) refl in
      let n : i + (cell_end 44 s i - i) ≡ cell_end 44 s i = omega (arith, cell_end_from 44 s i) in
      ap (λ (p : Span). text_in s p.start (p.start + p.len)) e ∙ ap (text_in s i) n ∙ cell-text s i (cell_end 44 s i) refl
  span-text (suc k) i = go (is_last s (cell_end 44 s i)) refl (λ j. span-text k j)
    where
      at-end : (ts : List (List ℕ)) → pieces 44 (line_at s i) ≡ ts → cell_span s i (suc k) ≡ record { start = 0; len = 0 } → get_or (map trim ts) (suc k) [] ≡ []
          → text_in s (cell_span s i (suc k)).start ((cell_span s i (suc k)).start + (cell_span s i (suc k)).len) ≡ get_or (names_of (line_at s i)) (suc k) []
      at-end ts d e f = ap (λ (p : Span). text_in s p.start (p.start + p.len)) e ∙ nothing-there ∙ sym (ap (λ (us : List (List ℕ)). get_or (map trim us) (suc k) []) d ∙ f)

      go : (b : Bool) → is_last s (cell_end 44 s i) ≡ b
          → ((j : ℕ) → text_in s (cell_span s j k).start ((cell_span s j k).start + (cell_span s j k).len) ≡ get_or (names_of (line_at s j)) k [])
          → text_in s (cell_span s i (suc k)).start ((cell_span s i (suc k)).start + (cell_span s i (suc k)).len) ≡ get_or (names_of (line_at s i)) (suc k) []
      go true z f = at-end (cell_at 44 s i ∷ []) (cells-last s i (cell_end 44 s i) refl z) (span_last s k i z) refl
      go false z f =
          let m = cells-more s i (cell_end 44 s i) refl z in
          ap (λ (p : Span). text_in s p.start (p.start + p.len)) (span-later s k i z) ∙ f (cell_end 44 s i + 1)
          ∙ sym (ap (λ (us : List (List ℕ)). get_or (map trim us) (suc k) []) m.1)

  -- it ends within the bytes, or where the line starts
  pub span-room : (k i : ℕ) → i ≤ length s → (cell_span s i k).start + (cell_span s i k).len ≤ length s
  span-room zero i h =
      let e = span_own s i (cell_end 44 s i) refl in
      rw e (omega (arith, end-within s i h, cell_end_from 44 s i))
  span-room (suc k) i h = go (is_last s (cell_end 44 s i)) refl (λ j. span-room k j)
    where
      go : (b : Bool) → is_last s (cell_end 44 s i) ≡ b → ((j : ℕ) → j ≤ length s → (cell_span s j k).start + (cell_span s j k).len ≤ length s)
          → (cell_span s i (suc k)).start + (cell_span s i (suc k)).len ≤ length s
      go true z f = rw (span_last s k i z) (omega arith)
      go false z f = rw (span-later s k i z) (f (cell_end 44 s i + 1) (omega (arith, (cells-more s i (cell_end 44 s i) refl z).0)))

  pub span_past-end : (k i : ℕ) → length s ≤ i → (cell_span s i k).start + (cell_span s i k).len ≤ i
  span_past-end zero i h = let e = span_own s i (cell_end 44 s i) refl in rw e (omega (arith, end_past s i h))
  span_past-end (suc k) i h =
      let z : cell_span s i (suc k) ≡ record { start = 0; len = 0 } = rw (← add-one k) (span-ended s i k (omega (arith, end_past s i h))) in
      rw z (omega arith)

module _ (s : List ℕ) (at c : ℕ) where
  pub name-none : c ≡ 0 → (t : List ℕ) → t ≡ text_in s 0 0 → t ≡ name_in_line (line_at s at) c
  unfolding name_in_line
  name-none z t e = rw z (e ∙ nothing-there s)

  pub name-some : (c ≡ 0 → ⊥) → (p : Span) → p ≡ cell_span s at (c - 1) → (t : List ℕ) → t ≡ text_in s p.start (p.start + p.len) → t ≡ name_in_line (line_at s at) c
  unfolding name_in_line
  name-some z p d t e = go c z (e ∙ ap (λ (r : Span). text_in s r.start (r.start + r.len)) d ∙ span-text s (c - 1) at)
    where
      go : (m : ℕ) → (m ≡ 0 → ⊥) → t ≡ get_or (names_of (line_at s at)) (m - 1) [] → t ≡ name_in_line (line_at s at) m
      go zero z e = absurd (z refl)
      go (suc m) z e = let q : suc m - 1 ≡ m = omega arith in e ∙ ap (λ (j : ℕ). get_or (names_of (line_at s at)) j []) q

-- where the text at a cell's place ends
pub name-room : (s : List ℕ) (at k : ℕ) (p : Span) → p ≡ cell_span s at k → (p.start + p.len ≤ at) ⊎ (p.start + p.len ≤ length s)
name-room s at k p d = rw d (go (leb at (length s)) refl)
  where
    go : (z : Bool) → leb at (length s) ≡ z → ((cell_span s at k).start + (cell_span s at k).len ≤ at) ⊎ ((cell_span s at k).start + (cell_span s at k).len ≤ length s)
    go true z = inr (span-room s k at (leb-true at (length s) z))
    go false z = let h : length s ≤ at = omega (arith, leb-false at (length s) z) in inl (span_past-end s k at h)

pub kind_of-column : (x : List ℕ) (c : ℕ) (n : List ℕ) → n ≡ name_in_line x c → (k : ℕ) → k ≡ kind_of_name n → k ≡ kind_in_line x c
unfolding kind_in_line
kind_of-column x c n d k e = e ∙ ap kind_of_name d
