-- A cell and where it ends, from a place of a line on; the cells of a line one after the other.
use Prim.Native.Nat.{ℕ, zero, suc, ◌+◌, ◌-◌, ◌≤◌, ◌<◌}
use mathlib.Core.Path.{◌≡◌, refl, sym, ap, ◌∙◌}
use mathlib.Core.List.{List, [], ◌∷◌}
use mathlib.Core.Bool.{Bool, true, false, cond, ◌&&◌, ◌||◌, or-true, true≢false}
use mathlib.Core.Logic.{⊎_elim}
use native.Mathlib.Numerals.{add-one}
use native.Mathlib.Nat.{eq-or-lt_of_le}
use native.Mathlib.Omega.{arith}
use lib.ListN.{length, get_or, drop}
use lib.Seq.{drop-cons}
use lib.Dec.{eqb}
use borrow.Author.Tests.{eqb-true, eqb-false, eq-eqb, ne_eqb}
use Rattle.line_bytes.specs.Cells.{first_piece, later_pieces, pieces, line_at, cell_at, cell_end, separates}
use Rattle.line_bytes.specs.Inner.Scans.{Stop, Scan}

-- both parts of a test that is true
pub both_true : (a b : Bool) → (a && b) ≡ true → (a ≡ true) × (b ≡ true)
both_true true b e = (refl, e)
both_true false b e = absurd (true≢false (sym e))

-- ---- the bytes at which a cell parted by c ends
abbrev pub is_end : ℕ → ℕ → Bool
is_end c x = eqb x c || eqb x 10

-- no separator is above 10 but the comma
pub inside-cell : (c x : ℕ) → separates c ≡ true → 10 < x → (x ≡ 44 → ⊥) → is_end c x ≡ false
inside-cell c x e h n = rw (ne_eqb x c (go (eqb c 44) (eqb c 10) (eqb c 9) refl refl refl e), ne_eqb x 10 (λ p. omega arith))
  where
    go : (a b d : Bool) → eqb c 44 ≡ a → eqb c 10 ≡ b → eqb c 9 ≡ d → (a || b || d) ≡ true → x ≡ c → ⊥
    go true b d p q r e f = n (f ∙ eqb-true c 44 p)
    go false true d p q r e f = omega (arith, eqb-true c 10 q)
    go false false true p q r e f = omega (arith, eqb-true c 9 r)
    go false false false p q r e f = true≢false (sym e)

module _ (c x : ℕ) where
  pub end-feed : x ≡ 10 → is_end c x ≡ true
  end-feed h = rw (eq-eqb x 10 h) (or-true (eqb x c))

  pub end_neither : is_end c x ≡ false → (eqb x c ≡ false) × (eqb x 10 ≡ false)
  end_neither h = go (eqb x c) (eqb x 10) h
    where
      go : (a b : Bool) → (a || b) ≡ false → (a ≡ false) × (b ≡ false)
      go true b e = absurd (true≢false e)
      go false b e = (refl, e)

  pub end-parts : is_end c x ≡ true → (x ≡ 10 → ⊥) → x ≡ c
  end-parts h n = go (eqb x c) refl (rw (ne_eqb x 10 n) at h)
    where
      go : (a : Bool) → eqb x c ≡ a → (a || false) ≡ true → x ≡ c
      go true e h = eqb-true x c e
      go false e h = absurd (true≢false (sym h))

-- ---- one byte of the line and of the cell
module _ (s : List ℕ) (p : ℕ) (l : p < length s) where
  pub line_in_lem : eqb (get_or s p 0) 10 ≡ false → line_at s p ≡ get_or s p 0 ∷ line_at s (p + 1)
  unfolding first_piece
  line_in_lem e = rw (add-one p, drop-cons s p 0 l) (rw e)

  pub line-end : get_or s p 0 ≡ 10 → line_at s p ≡ []
  unfolding first_piece
  line-end e = rw (drop-cons s p 0 l) (rw e)

  module _ (c : ℕ) where
    pub cell_in_lem : is_end c (get_or s p 0) ≡ false → cell_at c s p ≡ get_or s p 0 ∷ cell_at c s (p + 1)
    unfolding first_piece
    cell_in_lem e = let n = end_neither c (get_or s p 0) e in ap (first_piece c) (line_in_lem n.1) ∙ rw n.0

    pub cell-end : is_end c (get_or s p 0) ≡ true → cell_at c s p ≡ []
    unfolding first_piece
    cell-end e = rw (drop-cons s p 0 l) (go (eqb (get_or s p 0) 10) (eqb (get_or s p 0) c) refl e)
      where
        go : (a b : Bool) → eqb (get_or s p 0) c ≡ b → (b || a) ≡ true
            → first_piece c (cond a [] (get_or s p 0 ∷ first_piece 10 (drop (suc p) s))) ≡ []
        go true b d e = refl
        go false true d e = rw d
        go false false d e = absurd (true≢false (sym e))

    pub cell_end_in : is_end c (get_or s p 0) ≡ false → cell_end c s p ≡ cell_end c s (p + 1)
    unfolding cell_end
    cell_end_in e = rw (cell_in_lem e) (omega arith)

    pub cell_end-end : is_end c (get_or s p 0) ≡ true → cell_end c s p ≡ p
    unfolding cell_end
    cell_end-end e = rw (cell-end e) (omega arith)

piece_again : (c : ℕ) (xs : List ℕ) → first_piece c (first_piece c xs) ≡ first_piece c xs
unfolding first_piece
piece_again c [] = refl
piece_again c (x ∷ xs) = go (eqb x c) refl (piece_again c xs)
  where
    go : (z : Bool) → eqb x c ≡ z → first_piece c (first_piece c xs) ≡ first_piece c xs
        → first_piece c (cond z [] (x ∷ first_piece c xs)) ≡ cond z [] (x ∷ first_piece c xs)
    go true e h = refl
    go false e h = rw e (rw h)

-- parted by the line feed, the rest of the line is one cell
pub cell-line : (s : List ℕ) (i : ℕ) → cell_at 10 s i ≡ line_at s i
cell-line s i = piece_again 10 (drop i s)

pub cell_end_from : (c : ℕ) (s : List ℕ) (i : ℕ) → i ≤ cell_end c s i
unfolding cell_end
cell_end_from c s i = omega arith

-- ---- a scan that goes on before a line feed
-- from another place before the same line feed
pub stop_moved : {c : ℕ} {s : List ℕ} {i j e : ℕ} → Stop c s i e → j ≤ e → Stop c s j e
stop_moved t h = record { inside = h; room = t.room; feed = t.feed; parts = t.parts }

-- the line feed stops it
pub stop-short : {c : ℕ} {s : List ℕ} {p e : ℕ} → Stop c s p e → (get_or s p 0 ≡ 10 → ⊥) → p < e
stop-short {c} {s} {p} {e} t n =
    ⊎_elim (λ (q : p ≡ e). absurd (n (rw q t.feed))) (λ (l : p < e). l) (eq-or-lt_of_le t.inside)

pub stop-inside : {c : ℕ} {s : List ℕ} {p e : ℕ} → Stop c s p e → is_end c (get_or s p 0) ≡ false → p < e
stop-inside {c} {s} {p} t d = stop-short t (eqb-false (get_or s p 0) 10 (end_neither c (get_or s p 0) d).1)

-- what holds at a cell's end, and at a place inside it if one byte further, holds wherever a cell goes on
pub to_end : {c : ℕ} {s : List ℕ} {i e : ℕ} → Stop c s i e → (P : ℕ → Type 0)
    → ((p : ℕ) → p ≤ e → p < length s → is_end c (get_or s p 0) ≡ true → P p)
    → ((p : ℕ) → p < length s → is_end c (get_or s p 0) ≡ false → P (p + 1) → P p)
    → P i
to_end {c} {s} {i} {e} t P f g = go (e - i) i (omega arith)
  where
    one : (z : Bool) (p : ℕ) → p ≤ e → is_end c (get_or s p 0) ≡ z → P (p + 1) → P p
    one true p h d x = f p h (omega arith) d
    one false p h d x = g p (omega arith) d x

    go : (k p : ℕ) → p + k ≡ e → P p
    go zero p h =
        let q : p ≡ e = omega arith in
        f p (omega arith) (omega arith) (end-feed c (get_or s p 0) (rw q t.feed))
    go (suc k) p h = one (is_end c (get_or s p 0)) p (omega arith) refl (go k (p + 1) (omega arith))

module _ {c : ℕ} {s : List ℕ} {i e : ℕ} (t : Stop c s i e) where
  pub cell_end-within : cell_end c s i ≤ e
  cell_end-within =
      to_end t (λ (p : ℕ). cell_end c s p ≤ e)
      (λ p h l d. rw (cell_end-end s p l c d) h)
      (λ p l d x. rw (cell_end_in s p l c d) x)

  -- the byte there is the separator or the line feed
  pub cell_end-ends : is_end c (get_or s (cell_end c s i) 0) ≡ true
  cell_end-ends =
      to_end t (λ (p : ℕ). is_end c (get_or s (cell_end c s p) 0) ≡ true)
      (λ p h l d. rw (cell_end-end s p l c d) d)
      (λ p l d x. rw (cell_end_in s p l c d) x)

  pub cell_end-parts : (get_or s (cell_end c s i) 0 ≡ 10 → ⊥) → get_or s (cell_end c s i) 0 ≡ c
  cell_end-parts n = end-parts c (get_or s (cell_end c s i) 0) cell_end-ends n

  -- the line from i on is one cell, or a cell and those after its separator
  pub pieces-last : get_or s (cell_end c s i) 0 ≡ 10 → pieces c (line_at s i) ≡ cell_at c s i ∷ []
  unfolding later_pieces
  pieces-last f = ap (λ (r : List (List ℕ)). cell_at c s i ∷ r) (to_end t P at-end before f)
    where
      P : ℕ → Type 0
      P p = get_or s (cell_end c s p) 0 ≡ 10 → later_pieces c (line_at s p) ≡ []

      at-end : (p : ℕ) → p ≤ e → p < length s → is_end c (get_or s p 0) ≡ true → P p
      at-end p h l d f = rw (line-end s p l (rw (cell_end-end s p l c d) at f))

      before : (p : ℕ) → p < length s → is_end c (get_or s p 0) ≡ false → P (p + 1) → P p
      before p l d x f =
          let n = end_neither c (get_or s p 0) d in
          rw (line_in_lem s p l n.1) (rw n.0 (x (rw (cell_end_in s p l c d) at f)))

  pub pieces_more : (c ≡ 10 → ⊥) → get_or s (cell_end c s i) 0 ≡ c → pieces c (line_at s i) ≡ cell_at c s i ∷ pieces c (line_at s (cell_end c s i + 1))
  unfolding later_pieces
  pieces_more n f = ap (λ (r : List (List ℕ)). cell_at c s i ∷ r) (to_end t P at-end before f)
    where
      P : ℕ → Type 0
      P p = get_or s (cell_end c s p) 0 ≡ c → later_pieces c (line_at s p) ≡ pieces c (line_at s (cell_end c s p + 1))

      at-end : (p : ℕ) → p ≤ e → p < length s → is_end c (get_or s p 0) ≡ true → P p
      at-end p h l d f =
          let q : get_or s p 0 ≡ c = rw (cell_end-end s p l c d) at f in
          rw (cell_end-end s p l c d, line_in_lem s p l (ne_eqb (get_or s p 0) 10 (λ x. n (sym q ∙ x)))) (rw (eq-eqb (get_or s p 0) c q))

      before : (p : ℕ) → p < length s → is_end c (get_or s p 0) ≡ false → P (p + 1) → P p
      before p l d x f =
          let m = end_neither c (get_or s p 0) d in
          rw (cell_end_in s p l c d, line_in_lem s p l m.1) (rw m.0 (x (rw (cell_end_in s p l c d) at f)))

-- ---- the cells of a line counted byte by byte
module _ (c : ℕ) (s : List ℕ) (p : ℕ) (l : p < length s) where
  pub count-end : get_or s p 0 ≡ 10 → length (pieces c (line_at s p)) ≡ 1
  unfolding first_piece later_pieces
  count-end f = rw (line-end s p l f)

  pub count-step : (get_or s p 0 ≡ 10 → ⊥) → length (pieces c (line_at s p)) ≡ cond (eqb (get_or s p 0) c) 1 0 + length (pieces c (line_at s (p + 1)))
  unfolding later_pieces
  count-step n = rw (line_in_lem s p l (ne_eqb (get_or s p 0) 10 n)) (go (eqb (get_or s p 0) c))
    where
      go : (z : Bool) → suc (length (cond z (pieces c (line_at s (p + 1))) (later_pieces c (line_at s (p + 1))))) ≡ cond z 1 0 + length (pieces c (line_at s (p + 1)))
      go true = omega arith
      go false = omega arith

-- ---- a run of bytes that pass a test
-- what holds after it holds before it, if it does for one byte
pub scan_undo : {t : ℕ → Bool} {s : List ℕ} {i q : ℕ} (P : ℕ → Type 0)
    → ((j : ℕ) → j < length s → t (get_or s j 0) ≡ true → P (j + 1) → P j)
    → Scan t s i q → P q → P i
scan_undo P f Scan.still x = x
scan_undo P f (Scan.more {q} r h e) x = scan_undo P f r (f q h e x)
