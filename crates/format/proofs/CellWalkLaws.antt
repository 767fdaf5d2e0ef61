-- Where a line ends and where a cell stands, byte by byte and block by block.
use Prim.Native.Nat.{ℕ, zero, suc, ◌+◌, ◌-◌, ◌≤◌, ◌<◌}
use mathlib.Core.Path.{◌≡◌, refl, sym, ap, subst, ◌∙◌}
use mathlib.Core.List.{List}
use mathlib.Core.Bool.{Bool, true, false, cond, ◌||◌, true≢false}
use native.Mathlib.Nat.{add-zero}
use native.Mathlib.Omega.{arith}
use lib.ListN.{length, get_or, take, drop}
use lib.Dec.{eqb, ltb}
use borrow.Author.Tests.{eqb-true, eqb-false, ne_eqb, ltb-true, ltb-false}
use Rattle.line_bytes.specs.Cells.{line_at, cell_end}
use Rattle.line_bytes.proofs.CellLaws.{cell_end_in, cell_end-end}
use Rattle.format.specs.Grid.{nowhere}
use Rattle.format.specs.Inner.Grid.{cell_span, count_of}
use Rattle.format.proofs.GridWalkLaws.{line_on, count_none, count_byte, count-first, end_past, span-ended, span-fed, span-next}

-- ---- a block with none of some byte
-- its first byte is another one, and the rest has none either
none_first : (b : ℕ) (s : List ℕ) (i m : ℕ) → i < length s → count_of b (take (suc m) (drop i s)) ≡ 0
    → (get_or s i 0 ≡ b → ⊥) × (count_of b (take m (drop (i + 1) s)) ≡ 0)
none_first b s i m h z = go (eqb (get_or s i 0) b) refl (sym (count-first b s i m h) ∙ z)
  where
    go : (t : Bool) → eqb (get_or s i 0) b ≡ t → cond t 1 0 + count_of b (take m (drop (i + 1) s)) ≡ 0
        → (get_or s i 0 ≡ b → ⊥) × (count_of b (take m (drop (i + 1) s)) ≡ 0)
    go true e f = absurd (omega arith)
    go false e f = (eqb-false (get_or s i 0) b e, omega arith)

-- one byte more of a block, found with no line feed so far
pub none_more : (s : List ℕ) (i k : ℕ) (feed : Bool) → i + k < length s → (feed ≡ false → count_of 10 (take k (drop i s)) ≡ 0)
    → (feed || eqb (get_or s (i + k) 0) 10) ≡ false → count_of 10 (take (k + 1) (drop i s)) ≡ 0
none_more s i k true h f e = absurd (true≢false e)
none_more s i k false h f e = count_byte 10 s i k h ∙ rw (f refl, e)

-- a line goes on over a block with no line feed
pub line-block : (s : List ℕ) (m i : ℕ) → i + m ≤ length s → count_of 10 (take m (drop i s)) ≡ 0 → i + length (line_at s i) ≡ i + m + length (line_at s (i + m))
line-block s zero i h z = ap (λ (j : ℕ). j + length (line_at s j)) (sym (add-zero i))
line-block s (suc m) i h z =
    let l : i < length s = omega arith in
    let f = none_first 10 s i m l z in
    let e : i + 1 + m ≡ i + suc m = omega arith in
    line_on s i l f.0 ∙ line-block s m (i + 1) (omega arith) f.1 ∙ ap (λ (j : ℕ). j + length (line_at s j)) e

-- ---- the place of a later cell, by the byte at i
module _ (s : List ℕ) where
  -- it hangs on where the cell that goes on there ends
  span_by-end : (i j k : ℕ) → cell_end 44 s i ≡ cell_end 44 s j → cell_span s i (k + 1) ≡ cell_span s j (k + 1)
  span_by-end i j k e = go (ltb (cell_end 44 s i) (length s)) (eqb (get_or s (cell_end 44 s i) 0) 10) refl refl
    where
      go : (a b : Bool) → ltb (cell_end 44 s i) (length s) ≡ a → eqb (get_or s (cell_end 44 s i) 0) 10 ≡ b → cell_span s i (k + 1) ≡ cell_span s j (k + 1)
      go false b p d = let h = ltb-false (cell_end 44 s i) (length s) p in span-ended s i k h ∙ sym (span-ended s j k (subst (λ (x : ℕ). length s ≤ x) e h))
      go true true p d = let h = eqb-true (get_or s (cell_end 44 s i) 0) 10 d in span-fed s i k h ∙ sym (span-fed s j k (subst (λ (x : ℕ). get_or s x 0 ≡ 10) e h))
      go true false p d =
          let h = ltb-true (cell_end 44 s i) (length s) p in
          let n = eqb-false (get_or s (cell_end 44 s i) 0) 10 d in
          span-next s i k h n
          ∙ ap (λ (x : ℕ). cell_span s (x + 1) k) e
          ∙ sym (span-next s j k (subst (λ (x : ℕ). x < length s) e h) (subst (λ (x : ℕ). get_or s x 0 ≡ 10 → ⊥) e n))

  module _ (i : ℕ) where
    pub cell_past : (k : ℕ) → length s ≤ i → 1 ≤ k → cell_span s i k ≡ nowhere
    cell_past k h o = let f : k ≡ k - 1 + 1 = omega arith in ap (cell_span s i) f ∙ span-ended s i (k - 1) (subst (λ (x : ℕ). length s ≤ x) (sym (end_past s i h)) h)

    module _ (l : i < length s) where
      pub cell-fed : (k : ℕ) → get_or s i 0 ≡ 10 → 1 ≤ k → cell_span s i k ≡ nowhere
      cell-fed k e o =
          let f : k ≡ k - 1 + 1 = omega arith in
          let q : cell_end 44 s i ≡ i = cell_end-end s i l 44 (rw e) in
          ap (cell_span s i) f ∙ span-fed s i (k - 1) (subst (λ (x : ℕ). get_or s x 0 ≡ 10) (sym q) e)

      pub cell-comma : (k : ℕ) → get_or s i 0 ≡ 44 → 1 ≤ k → cell_span s i k ≡ cell_span s (i + 1) (k - 1)
      cell-comma k e o =
          let f : k ≡ k - 1 + 1 = omega arith in
          let q : cell_end 44 s i ≡ i = cell_end-end s i l 44 (rw e) in
          ap (cell_span s i) f
          ∙ span-next s i (k - 1) (subst (λ (x : ℕ). x < length s) (sym q) l) (subst (λ (x : ℕ). get_or s x 0 ≡ 10 → ⊥) (sym q) (λ z. omega (arith, e, z)))
          ∙ ap (λ (x : ℕ). cell_span s (x + 1) (k - 1)) q

      pub cell_other : (k : ℕ) → (get_or s i 0 ≡ 10 → ⊥) → (get_or s i 0 ≡ 44 → ⊥) → 1 ≤ k → cell_span s i k ≡ cell_span s (i + 1) k
      cell_other k n m o =
          let f : k ≡ k - 1 + 1 = omega arith in
          let q : cell_end 44 s i ≡ cell_end 44 s (i + 1) = cell_end_in s i l 44 (rw (ne_eqb _ _ n, ne_eqb _ _ m)) in
          ap (cell_span s i) f ∙ span_by-end i (i + 1) (k - 1) q ∙ ap (cell_span s (i + 1)) (sym f)

  -- a block with no line feed and fewer commas than are to go
  pub cell-block : (m i k n : ℕ) → i + m ≤ length s → count_of 10 (take m (drop i s)) ≡ 0 → n ≡ count_of 44 (take m (drop i s)) → n < k
      → cell_span s i k ≡ cell_span s (i + m) (k - n)
  cell-block zero i k n h z e l =
      let a : i ≡ i + 0 = omega arith in
      let b : k ≡ k - n = omega (arith, e, count_none 44 (drop i s)) in
      ap (λ (j : ℕ). cell_span s j k) a ∙ ap (cell_span s (i + 0)) b
  cell-block (suc m) i k n h z e l = go (eqb (get_or s i 0) 44) refl (e ∙ count-first 44 s i m r) (cell-block m (i + 1))
    where
      r : i < length s
      r = omega arith

      f : (get_or s i 0 ≡ 10 → ⊥) × (count_of 10 (take m (drop (i + 1) s)) ≡ 0)
      f = none_first 10 s i m r z

      d : i + 1 + m ≡ i + suc m
      d = omega arith

      c : ℕ
      c = count_of 44 (take m (drop (i + 1) s))

      go : (t : Bool) → eqb (get_or s i 0) 44 ≡ t → n ≡ cond t 1 0 + c
          → ((k n : ℕ) → i + 1 + m ≤ length s → count_of 10 (take m (drop (i + 1) s)) ≡ 0 → n ≡ c → n < k → cell_span s (i + 1) k ≡ cell_span s (i + 1 + m) (k - n))
          → cell_span s i k ≡ cell_span s (i + suc m) (k - n)
      go true p q again =
          let w : (k - 1) - c ≡ k - n = omega arith in
          cell-comma i r k (eqb-true (get_or s i 0) 44 p) (omega arith)
          ∙ again (k - 1) c (omega arith) f.1 refl (omega arith)
          ∙ ap (λ (j : ℕ). cell_span s j ((k - 1) - c)) d
          ∙ ap (cell_span s (i + suc m)) w
      go false p q again =
          cell_other i r k f.0 (eqb-false (get_or s i 0) 44 p) (omega arith) ∙ again k n (omega arith) f.1 (omega arith) l ∙ ap (λ (j : ℕ). cell_span s j (k - n)) d
