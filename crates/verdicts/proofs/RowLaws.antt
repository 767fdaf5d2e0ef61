-- The cells of a line, judged one after the other.
use Prim.Native.Nat.{ℕ, ◌+◌, ◌-◌, ◌≤◌, ◌<◌}
use mathlib.Core.Path.{◌≡◌, refl, sym, ap, subst, ◌∙◌}
use mathlib.Core.List.{List, [], ◌∷◌}
use mathlib.Core.Bool.{Bool, true, false, cond, ◌&&◌, ◌||◌}
use native.Mathlib.Numerals.{add-one}
use native.Mathlib.Omega.{arith}
use lib.ListN.{length, get_or, set, drop, drop_of_length-le, length-set}
use lib.Seq.{drop-cons}
use lib.Dec.{eqb}
use mir.Val.{bool_byte}
use borrow.Author.Tests.{eq-eqb, ne_eqb, eqb-true, eqb-false}
use Rattle.verdicts.specs.declared.Judged.{Judged}
use Rattle.verdicts.specs.declared.Keys.{Keys}
use Rattle.verdicts.specs.declared.CellsRead.{CellsRead}
use Rattle.line_bytes.specs.Cells.{cell_at, cell_end, pieces, line_at, later_pieces}
use Rattle.verdicts.specs.Verdicts.{Verdict, blank, wrong, out_of_range, good, number_of, is_good, size_of}
use Rattle.verdicts.specs.Kinds.{kind_of}
use Rattle.verdicts.specs.Judge.{judge, judged_of, stops_at, judged_at}
use Rattle.verdicts.specs.Rows.{missing_in, noted, no_keys, ended_at, no_cells, is_last, cells_from, cells_at}
use Rattle.verdicts.specs.Inner.Notes.{share}
use Rattle.line_bytes.specs.Inner.Scans.{Stop}
use Rattle.line_bytes.proofs.CellLaws.{cell_end-parts, pieces-last, pieces_more}
use Rattle.verdicts.proofs.JudgeLaws.{judged-number, judged_at_lem, judged-good}

-- ---- what a good cell adds to the missing readings, by the code's tests
pub share_by : (k : ℕ) (j : Judged) → bool_byte (eqb k 0 && j.minus && eqb j.size 999000000) ≡ share k j
unfolding share
share_by k j = go (eqb k 0) j.minus (eqb j.size 999000000)
  where
    go : (x y z : Bool) → bool_byte (x && y && z) ≡ cond (x && (y && z)) 1 0
    go true true true = refl
    go true true false = refl
    go true false z = refl
    go false y z = refl

-- it is one at most
pub share_most : (x k : ℕ) (j : Judged) → x ≡ share k j → x ≤ 1
unfolding share
share_most x k j e = rw e (go (eqb k 0 && (j.minus && eqb j.size 999000000)))
  where
    go : (z : Bool) → cond z 1 0 ≤ 1
    go true = omega arith
    go false = omega arith

-- ---- one cell
module _ (n k : ℕ) (v : Verdict) (j : Judged) (e : j ≡ judged_of n v) where
  number_is : j.number ≡ number_of v
  number_is = ap (λ (x : Judged). x.number) e ∙ judged-number n v

  at_is : j.at ≡ n
  at_is = ap (λ (x : Judged). x.at) e ∙ judged_at_lem n v

  good_by : (v : Verdict) → number_of v ≡ 0 → is_good v ≡ true
  good_by blank h = absurd (omega arith)
  good_by wrong h = absurd (omega arith)
  good_by out_of_range h = absurd (omega arith)
  good_by (good m x d) h = refl

  bad_by : (v : Verdict) → (number_of v ≡ 0 → ⊥) → is_good v ≡ false
  bad_by blank h = refl
  bad_by wrong h = refl
  bad_by out_of_range h = refl
  bad_by (good m x d) h = absurd (h refl)

  good_is : j.number ≡ 0 → is_good v ≡ true
  good_is h = good_by v (sym number_is ∙ h)

  bad_is : (j.number ≡ 0 → ⊥) → is_good v ≡ false
  bad_is h = bad_by v (λ z. h (number_is ∙ z))

  verdict_is : j.number ≡ 0 → v ≡ good j.minus j.size j.decimals
  verdict_is h = subst (λ (x : Judged). v ≡ good x.minus x.size x.decimals) (sym e) (judged-good n v (ap (λ (x : Judged). x.number) (sym e) ∙ h))

  missing_is : j.number ≡ 0 → missing_in k v ≡ share k j
  unfolding missing_in share
  missing_is h = rw (verdict_is h)

  size_is : j.number ≡ 0 → size_of v ≡ j.size
  size_is h = rw (verdict_is h)

-- ---- the list of cells from there
module _ (i at g m : ℕ) (w : Keys) (k : ℕ) (ks : List ℕ) (t : List ℕ) (ts : List (List ℕ)) (j : Judged) (e : j ≡ judged_of (at + length t) (judge (kind_of k) t)) where
  from-refused : (j.number ≡ 0 → ⊥) → cells_from i at g m w (k ∷ ks) (t ∷ ts) ≡ ended_at at g m w j
  unfolding cells_from
  from-refused h = rw (bad_is (at + length t) k (judge (kind_of k) t) j e h) (ap (ended_at at g m w) (sym e))

  module _ (h : j.number ≡ 0) (m' : ℕ) (em : m' ≡ m + share k j) (w' : Keys) (ew : w' ≡ noted k at j.at j.size w) where
    keys_is : noted k at (at + length t) (size_of (judge (kind_of k) t)) w ≡ w'
    keys_is = ap (λ (q : ℕ). noted k at q (size_of (judge (kind_of k) t)) w) (sym (at_is (at + length t) k (judge (kind_of k) t) j e))
        ∙ ap (λ (x : ℕ). noted k at j.at x w) (size_is (at + length t) k (judge (kind_of k) t) j e h) ∙ sym ew

    count_is : m + missing_in k (judge (kind_of k) t) ≡ m'
    count_is = ap (λ (x : ℕ). m + x) (missing_is (at + length t) k (judge (kind_of k) t) j e h) ∙ sym em

    from-ended : is_last ks ts ≡ true → cells_from i at g m w (k ∷ ks) (t ∷ ts) ≡ ended_at at (g + 1) m' w' j
    unfolding cells_from
    from-ended l = rw (good_is (at + length t) k (judge (kind_of k) t) j e h, l) (
        ap (λ (x : ℕ). ended_at at (g + 1) x (noted k at (at + length t) (size_of (judge (kind_of k) t)) w) (judged_of (at + length t) (judge (kind_of k) t))) count_is
        ∙ ap (λ (x : Keys). ended_at at (g + 1) m' x (judged_of (at + length t) (judge (kind_of k) t))) keys_is
        ∙ ap (ended_at at (g + 1) m' w') (sym e))

    from_on : is_last ks ts ≡ false → cells_from i at g m w (k ∷ ks) (t ∷ ts) ≡ cells_from i (j.at + 1) (g + 1) m' w' ks ts
    unfolding cells_from
    from_on l = rw (good_is (at + length t) k (judge (kind_of k) t) j e h, l) (
        ap (λ (x : ℕ). cells_from i (at + length t + 1) (g + 1) x (noted k at (at + length t) (size_of (judge (kind_of k) t)) w) ks ts) count_is
        ∙ ap (λ (x : Keys). cells_from i (at + length t + 1) (g + 1) m' x ks ts) keys_is
        ∙ ap (λ (x : ℕ). cells_from i (x + 1) (g + 1) m' w' ks ts) (sym (at_is (at + length t) k (judge (kind_of k) t) j e)))

-- ---- in a line of s
module _ (i : ℕ) (kinds s : List ℕ) (c : ℕ) where
  -- what is left to judge
  abbrev pub left : ℕ → ℕ → ℕ → Keys → CellsRead
  left at k m w = cells_from i at k m w (drop k kinds) (pieces c (line_at s at))

  pub left-none : (at k m : ℕ) (w : Keys) → length kinds ≤ k → left at k m w ≡ no_cells i
  unfolding cells_from
  left-none at k m w h = rw (drop_of_length-le kinds h)

  module _ (at k m : ℕ) (w : Keys) (e : ℕ) (t : Stop c s at e) (h : k < length kinds) (j : Judged) (ej : j ≡ judged_of (cell_end c s at) (judge (kind_of (get_or kinds k 0)) (cell_at c s at))) where
    kinds-on : drop k kinds ≡ get_or kinds k 0 ∷ drop (k + 1) kinds
    kinds-on = rw (add-one k) (drop-cons kinds k 0 h)

    pub ends_at : j.at ≡ cell_end c s at
    ends_at = at_is (cell_end c s at) 0 (judge (kind_of (get_or kinds k 0)) (cell_at c s at)) j ej

    judged-there : j ≡ judged_of (at + length (cell_at c s at)) (judge (kind_of (get_or kinds k 0)) (cell_at c s at))
    unfolding cell_end
    judged-there = ej

    refused : (j.number ≡ 0 → ⊥) → left at k m w ≡ ended_at at k m w j
    refused z = ap (λ (ks : List ℕ). cells_from i at k m w ks (pieces c (line_at s at))) kinds-on
        ∙ from-refused i at k m w (get_or kinds k 0) (drop (k + 1) kinds) (cell_at c s at) (later_pieces c (line_at s at)) j judged-there z

    -- t is what the whole line gives, x what the code returns, with the keys v
    pub left-refused : (j.number ≡ 0 → ⊥) → (t x : CellsRead) (v : Keys) → t ≡ left at k m w → x ≡ ended_at at k m v j → v ≡ w → x ≡ t
    left-refused z t x v p h e = h ∙ ap (λ (u : Keys). ended_at at k m u j) e ∙ sym (p ∙ refused z)

    module _ (z : j.number ≡ 0) (m' : ℕ) (em : m' ≡ m + share (get_or kinds k 0) j) (w' : Keys) (ew : w' ≡ noted (get_or kinds k 0) at j.at j.size w) where
      -- the cells, first and others
      split : (ks : List ℕ) (ts : List (List ℕ)) → drop (k + 1) kinds ≡ ks → pieces c (line_at s at) ≡ cell_at c s at ∷ ts → is_last ks ts ≡ true → left at k m w ≡ ended_at at (k + 1) m' w' j
      split ks ts ek et l = ap (λ (x : List ℕ). cells_from i at k m w x (pieces c (line_at s at))) (kinds-on ∙ ap (λ (x : List ℕ). get_or kinds k 0 ∷ x) ek)
          ∙ ap (cells_from i at k m w (get_or kinds k 0 ∷ ks)) et
          ∙ from-ended i at k m w (get_or kinds k 0) ks (cell_at c s at) ts j judged-there z m' em w' ew l

      last-list : (ks : List ℕ) → is_last ks [] ≡ true
      last-list [] = refl
      last-list (x ∷ ks) = refl

      pub left-feed : get_or s j.at 0 ≡ 10 → left at k m w ≡ ended_at at (k + 1) m' w' j
      left-feed f = split (drop (k + 1) kinds) [] refl (pieces-last t (subst (λ (q : ℕ). get_or s q 0 ≡ 10) ends_at f)) (last-list (drop (k + 1) kinds))

      pub left-last : k + 1 ≡ length kinds → left at k m w ≡ ended_at at (k + 1) m' w' j
      left-last f = let l : length kinds ≤ k + 1 = omega arith in split [] (later_pieces c (line_at s at)) (drop_of_length-le kinds l) refl refl

      more-list : (ks : List ℕ) (ts : List (List ℕ)) → 0 < length ks → 0 < length ts → is_last ks ts ≡ false
      more-list [] ts p q = absurd (omega arith)
      more-list (x ∷ ks) [] p q = absurd (omega arith)
      more-list (x ∷ ks) (y ∷ ts) p q = refl

      pub left-on : (get_or s j.at 0 ≡ 10 → ⊥) → (k + 1 ≡ length kinds → ⊥) → left at k m w ≡ left (j.at + 1) (k + 1) m' w'
      left-on f n =
          let fn : get_or s (cell_end c s at) 0 ≡ 10 → ⊥ = λ z. f (subst (λ (q : ℕ). get_or s q 0 ≡ 10) (sym ends_at) z) in
          let p : get_or s (cell_end c s at) 0 ≡ c = cell_end-parts t fn in
          let more : pieces c (line_at s at) ≡ cell_at c s at ∷ pieces c (line_at s (cell_end c s at + 1)) = pieces_more t (λ z. fn (p ∙ z)) p in
          ap (λ (x : List ℕ). cells_from i at k m w x (pieces c (line_at s at))) kinds-on
          ∙ ap (cells_from i at k m w (get_or kinds k 0 ∷ drop (k + 1) kinds)) more
          ∙ from_on i at k m w (get_or kinds k 0) (drop (k + 1) kinds) (cell_at c s at) (pieces c (line_at s (cell_end c s at + 1))) j judged-there z m' em w' ew
          (more-list (drop (k + 1) kinds) (pieces c (line_at s (cell_end c s at + 1))) (kinds_left n) (omega arith))
          ∙ ap (λ (q : ℕ). cells_from i (j.at + 1) (k + 1) m' w' (drop (k + 1) kinds) (pieces c (line_at s (q + 1)))) (sym ends_at)
        where
          kinds_left : (k + 1 ≡ length kinds → ⊥) → 0 < length (drop (k + 1) kinds)
          kinds_left n = rw (lib.ListN.length-drop (k + 1) kinds) (omega arith)

      -- by the code's test
      ended : (eqb (get_or s j.at 0) 10 || eqb (k + 1) (length kinds)) ≡ true → left at k m w ≡ ended_at at (k + 1) m' w' j
      ended f = go (eqb (get_or s j.at 0) 10) refl f
        where
          go : (b : Bool) → eqb (get_or s j.at 0) 10 ≡ b → (b || eqb (k + 1) (length kinds)) ≡ true → left at k m w ≡ ended_at at (k + 1) m' w' j
          go true p f = left-feed (eqb-true _ _ p)
          go false p f = left-last (eqb-true _ _ f)

      pub left_ended : (eqb (get_or s j.at 0) 10 || eqb (k + 1) (length kinds)) ≡ true → (t x : CellsRead) (v : Keys) → t ≡ left at k m w → x ≡ ended_at at (k + 1) m' v j → v ≡ w' → x ≡ t
      left_ended f t x v p h e = h ∙ ap (λ (u : Keys). ended_at at (k + 1) m' u j) e ∙ sym (p ∙ ended f)

      pub left_goes : (eqb (get_or s j.at 0) 10 || eqb (k + 1) (length kinds)) ≡ false → (get_or s j.at 0 ≡ 10 → ⊥) × (left at k m w ≡ left (j.at + 1) (k + 1) m' w')
      left_goes f = go (eqb (get_or s j.at 0) 10) refl f
        where
          go : (b : Bool) → eqb (get_or s j.at 0) 10 ≡ b → (b || eqb (k + 1) (length kinds)) ≡ false → (get_or s j.at 0 ≡ 10 → ⊥) × (left at k m w ≡ left (j.at + 1) (k + 1) m' w')
          go true p f = let z : ◌≡◌ {A = ℕ} 0 1 = cc in absurd (omega arith)
          go false p f = (eqb-false _ _ p, left-on (eqb-false _ _ p) (eqb-false _ _ f))

-- ---- one cell by itself
pub one_cell : (k c : ℕ) (s : List ℕ) (i e : ℕ) (r : CellsRead) → r ≡ cells_at (k ∷ []) c s i e
    → ◌≡◌ {A = Judged} (record { at = r.at; number = r.number; minus = r.minus; size = r.size; decimals = r.decimals }) (judged_at k c s i e)
unfolding cells_at judged_at cell_end cells_from
one_cell k c s i e r h = rw h (go (stops_at c s i e) (is_good (judge (kind_of k) (cell_at c s i))))
  where
    v : Verdict
    v = judge (kind_of k) (cell_at c s i)

    n : ℕ
    n = i + length (cell_at c s i)

    of : CellsRead → Judged
    of r = record { at = r.at; number = r.number; minus = r.minus; size = r.size; decimals = r.decimals }

    go : (b g : Bool) → of (cond b (cond g (ended_at i (0 + 1) (0 + missing_in k v) (noted k i n (size_of v) no_keys) (judged_of n v)) (ended_at i 0 0 no_keys (judged_of n v))) (no_cells i)) ≡ cond b (judged_of n v) (judged_of i wrong)
    go true true = refl
    go true false = refl
    go false g = refl
