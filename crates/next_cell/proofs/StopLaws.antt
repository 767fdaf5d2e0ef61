-- Where a cell ends, the spaces at its front, and the cell from there.
use Prim.Native.Nat.{ℕ, zero, suc, ◌+◌, ◌-◌, ◌≤◌, ◌<◌}
use mathlib.Core.Path.{◌≡◌, refl, ap, ◌∙◌}
use mathlib.Core.List.{List}
use mathlib.Core.Bool.{Bool, true, false, ◌||◌, true≢false}
use native.Mathlib.Nat.{add_assoc}
use native.Mathlib.Omega.{arith}
use lib.ListN.{length, get_or, drop, length-drop}
use lib.Seq.{slice}
use lib.Dec.{eqb, ltb}
use borrow.Author.Tests.{ltb-true, ltb-false}
use Rattle.line_bytes.specs.declared.Span.{Span}
use Rattle.line_bytes.specs.Cells.{line_at, cell_end}
use Rattle.line_bytes.specs.Spaces.{trim_front, trim_span}
use Rattle.line_bytes.proofs.CellLaws.{cell_end_in}
use Rattle.line_bytes.proofs.SpaceLaws.{trim_end-stop, trim_front-stop, trim_front-step, span-within}
use Rattle.format.proofs.RunLaws.{piece_in}
use Rattle.next_cell.specs.declared.CellAfter.{CellAfter}
use Rattle.next_cell.specs.After.{cell_after}
use Rattle.next_cell.specs.Inner.Spaces.{Spaces}

module _ (s : List ℕ) where
  -- ---- bytes looked at all at once: a cell that none of them ends goes on behind them
  pub goes_on_lem : (i k : ℕ) (ends : Bool) → i + k < length s → (ends ≡ false → cell_end 44 s i ≡ cell_end 44 s (i + k))
      → (ends || eqb (get_or s (i + k) 0) 44) || eqb (get_or s (i + k) 0) 10 ≡ false → cell_end 44 s i ≡ cell_end 44 s (i + (k + 1))
  goes_on_lem i k true l g e = absurd (true≢false e)
  goes_on_lem i k false l g e = g refl ∙ cell_end_in s (i + k) l 44 e ∙ ap (cell_end 44 s) (add_assoc i k 1)

  -- ---- bytes that are all spaces
  pub spaces-none : (a : ℕ) → Spaces s a a
  spaces-none a k l h = absurd (omega arith)

  pub spaces-on : (a b c : ℕ) → Spaces s a b → Spaces s b c → Spaces s a c
  spaces-on a b c x y k l h = go (ltb k b) refl
    where
      go : (z : Bool) → ltb k b ≡ z → get_or s k 0 ≡ 32
      go true q = x k l (ltb-true k b q)
      go false q = y k (ltb-false k b q) h

  pub spaces_one : (a : ℕ) → get_or s a 0 ≡ 32 → Spaces s a (a + 1)
  spaces_one a x k l h = let q : k ≡ a = omega arith in rw q x

  pub spaces_two : (a : ℕ) → get_or s a 0 ≡ 32 → get_or s (a + 1) 0 ≡ 32 → Spaces s a (a + 2)
  spaces_two a x y = spaces-on a (a + 1) (a + 2) (spaces_one a x) (λ k l h. spaces_one (a + 1) y k l (omega arith))

  pub spaces_four : (a : ℕ) → get_or s a 0 ≡ 32 → get_or s (a + 1) 0 ≡ 32 → get_or s (a + 2) 0 ≡ 32 → get_or s (a + 3) 0 ≡ 32 → Spaces s a (a + 4)
  spaces_four a x y z w =
      let q : a + 2 + 1 ≡ a + 3 = omega arith in
      spaces-on a (a + 2) (a + 4) (spaces_two a x y) (λ k l h. spaces_two (a + 2) z (rw q w) k l (omega arith))

  -- they stop before a byte that is none
  pub spaces-before : (a b e : ℕ) → Spaces s a b → a < e → (get_or s (e - 1) 0 ≡ 32 → ⊥) → b < e
  spaces-before a b e x h f = go (ltb b e) refl
    where
      go : (z : Bool) → ltb b e ≡ z → b < e
      go true q = ltb-true b e q
      go false q = absurd (f (x (e - 1) (omega arith) (omega (arith, ltb-false b e q))))

  -- trimming the front passes them and stops at a byte that is none
  pub front_past : (i p e : ℕ) → i ≤ p → p < e → e ≤ length s → Spaces s i p → (get_or s p 0 ≡ 32 → ⊥) → trim_front (slice i e s) ≡ slice p e s
  front_past i p e h k l x f = go (p - i) i (omega arith) x
    where
      go : (n j : ℕ) → j + n ≡ p → Spaces s j p → trim_front (slice j e s) ≡ slice p e s
      go zero j q x = let r : j ≡ p = omega arith in rw r (trim_front-stop s p e k l f)
      go (suc n) j q x =
          trim_front-step s j e (omega arith) l (x j (omega arith) (omega arith))
          ∙ go n (j + 1) (omega arith) (λ m a b. x m (omega arith) b)

  -- ---- the cell at i, which ends at e
  module _ (i e : ℕ) (q : e ≡ cell_end 44 s i) where
    -- a cell that has bytes ends within the bytes
    pub end-inside : i < e → e ≤ length s
    unfolding cell_end
    end-inside h = omega (arith, piece_in 44 (line_at s i), piece_in 10 (drop i s), length-drop i s)

    pub after_any : (x : Span) → x ≡ trim_span s i e → ◌≡◌ {A = CellAfter} (record { place = x; stop = e }) (cell_after s i)
    after_any x p = rw (← q) (ap (λ (y : Span). record { place = y; stop = e }) p)

    -- one whose last byte is no space
    pub after_solid : (p : ℕ) → i ≤ p → p < e → (get_or s (e - 1) 0 ≡ 32 → ⊥) → trim_front (slice i e s) ≡ slice p e s → ◌≡◌ {A = CellAfter} (record { place = record { start = p; len = e - p }; stop = e }) (cell_after s i)
    after_solid p h k f t =
        let l = end-inside (omega arith) in
        after_any _ (span-within s i e (omega arith) l e p (omega arith) h (omega arith) (trim_end-stop s i e (omega arith) l f) t)
