-- A row and a column that are there, by the code's test.
use Prim.Native.Nat.{ℕ, ◌≤◌}
use mathlib.Core.Path.{◌≡◌, refl}
use mathlib.Core.Bool.{Bool, true, false, cond, ◌&&◌, ◌||◌}
use native.Mathlib.Omega.{arith}
use lib.ListN.{length}
use lib.Dec.{leb, ltb}
use borrow.Author.Tests.{lt-leb, le-leb, ltb-true, ltb-false}
use Rattle.format.specs.Places.{Table, accepted}
use Rattle.format.specs.Answers.{found, missed, asked_by}

-- ---- the code's test
abbrev pub outside : ℕ → ℕ → ℕ → ℕ → Bool
outside r n c m = ltb r 1 || ltb n r || ltb c 1 || ltb m c

pub record Inside (r n c m : ℕ) : Type 0 where
  pub row : 1 ≤ r
  pub rows : r ≤ n
  pub column : 1 ≤ c
  pub columns : c ≤ m

module _ (r n c m : ℕ) where
  pub inside_by : outside r n c m ≡ false → Inside r n c m
  inside_by e = go (ltb r 1) (ltb n r) (ltb c 1) (ltb m c) refl refl refl refl e
    where
      go : (p q u v : Bool) → ltb r 1 ≡ p → ltb n r ≡ q → ltb c 1 ≡ u → ltb m c ≡ v → (p || q || u || v) ≡ false → Inside r n c m
      go false false false false a b d f e = record { row = ltb-false r 1 a; rows = ltb-false n r b; column = ltb-false c 1 d; columns = ltb-false m c f }
      go true q u v a b d f e = let z : ◌≡◌ {A = ℕ} 0 1 = cc in absurd (omega arith)
      go false true u v a b d f e = let z : ◌≡◌ {A = ℕ} 0 1 = cc in absurd (omega arith)
      go false false true v a b d f e = let z : ◌≡◌ {A = ℕ} 0 1 = cc in absurd (omega arith)
      go false false false true a b d f e = let z : ◌≡◌ {A = ℕ} 0 1 = cc in absurd (omega arith)

module _ (r n c : ℕ) (t : Table) where
  pub asked-inside : Inside r n c (length t.names) → asked_by r c (accepted t n) ≡ found t
  asked-inside h = rw (le-leb 1 r h.row, le-leb r n h.rows, le-leb 1 c h.column, le-leb c (length t.names) h.columns)

  pub asked-outside : outside r n c (length t.names) ≡ true → asked_by r c (accepted t n) ≡ missed 21 0 0
  asked-outside e = go (ltb r 1) (ltb n r) (ltb c 1) (ltb (length t.names) c) refl refl refl refl e
    where
      none : (p q u v : Bool) → (p && q && (u && v)) ≡ false → cond (p && q && (u && v)) (found t) (missed 21 0 0) ≡ missed 21 0 0
      none p q u v e = rw e

      one : (p q u v : Bool) → p ≡ false → (p && q && (u && v)) ≡ false
      one p q u v e = rw e

      two : (p q u v : Bool) → q ≡ false → (p && q && (u && v)) ≡ false
      two true q u v e = rw e
      two false q u v e = refl

      three : (p q u v : Bool) → u ≡ false → (p && q && (u && v)) ≡ false
      three true true u v e = rw e
      three true false u v e = refl
      three false q u v e = refl

      four : (p q u v : Bool) → v ≡ false → (p && q && (u && v)) ≡ false
      four true true true v e = e
      four true true false v e = refl
      four true false u v e = refl
      four false q u v e = refl

      m : ℕ
      m = length t.names

      go : (p q u v : Bool) → ltb r 1 ≡ p → ltb n r ≡ q → ltb c 1 ≡ u → ltb (length t.names) c ≡ v → (p || q || u || v) ≡ true → asked_by r c (accepted t n) ≡ missed 21 0 0
      go true q u v a b d f e = none (leb 1 r) (leb r n) (leb 1 c) (leb c m) (one (leb 1 r) (leb r n) (leb 1 c) (leb c m) (lt-leb 1 r (ltb-true r 1 a)))
      go false true u v a b d f e = none (leb 1 r) (leb r n) (leb 1 c) (leb c m) (two (leb 1 r) (leb r n) (leb 1 c) (leb c m) (lt-leb r n (ltb-true n r b)))
      go false false true v a b d f e = none (leb 1 r) (leb r n) (leb 1 c) (leb c m) (three (leb 1 r) (leb r n) (leb 1 c) (leb c m) (lt-leb 1 c (ltb-true c 1 d)))
      go false false false true a b d f e = none (leb 1 r) (leb r n) (leb 1 c) (leb c m) (four (leb 1 r) (leb r n) (leb 1 c) (leb c m) (lt-leb c m (ltb-true m c f)))
      go false false false false a b d f e = let z : ◌≡◌ {A = ℕ} 0 1 = cc in absurd (omega arith)
