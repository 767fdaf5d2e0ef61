-- The columns of a measurement's cells: a flag column is the flag column of one column only. So a cell belongs to one measurement and is one of its cells
-- (cell-once), and none is a cell that a profile's key or record is read from.
use Prim.Native.Nat.{ℕ, zero, suc, ◌-◌, ◌<◌}
use mathlib.Core.Path.{◌≡◌, refl, sym, ap, ◌∙◌}
use mathlib.Core.Bool.{Bool, true, false, cond}
use mathlib.Core.List.{[]}
use native.Mathlib.Omega.{arith}
use lib.ListN.{length, get_or}
use Rattle.line_bytes.specs.Names.{begins_ctd}
use Rattle.format.specs.Columns.{parameter_of, kinds_of}
use Rattle.format.specs.Places.{Table}
use Rattle.format.specs.Answers.{kind_at}
use Rattle.format.specs.Located.{name_at}
use Rattle.format.proofs.UniqueLaws.{Unique}
use Rattle.laws.proofs.FlagColumnLaws.{FlagOf}

-- a measured column is no flag column
flag-kind : (b : Bool) → (◌≡◌ {A = ℕ} (cond b 5 4) 0 → ⊥) × (cond b 5 4 < 6)
flag-kind true = ((λ e. omega arith), omega arith)
flag-kind false = ((λ e. omega arith), omega arith)

measured-no_flag : (t : Table) (c d j : ℕ) → kind_at t c ≡ 0 → FlagOf t d j → c - 1 ≡ j - 1 → ⊥
measured-no_flag t c d j m f e = (flag-kind (begins_ctd (name_at t d))).0 (sym f.kind ∙ ap (λ (k : ℕ). get_or (kinds_of t.names) k 0) (sym e) ∙ m)

-- two columns have two flag columns
flags-apart : (t : Table) (c d j k : ℕ) → Unique t.names → c - 1 < length t.names → d - 1 < length t.names → FlagOf t c j → FlagOf t d k → j - 1 ≡ k - 1 → c - 1 ≡ d - 1
flags-apart t c d j k u h l f g e = u (c - 1) (d - 1) h l (sym f.of ∙ ap (λ (i : ℕ). parameter_of (get_or t.names i [])) e ∙ g.of)

-- ---- a measured column of the line
pub record Measured (t : Table) (c : ℕ) : Type 0 where
  pub in-line : c - 1 < length t.names
  pub kind : kind_at t c ≡ 0

-- the cells of a measurement by their roles: 0 its value, 1 its flag; there are so many
abbrev pub roles : ℕ
roles = 2

-- j is the column of the cell of that role
abbrev pub CellOf : Table → ℕ → ℕ → ℕ → Type 0
CellOf t c zero j = c - 1 ≡ j - 1
CellOf t c (suc zero) j = FlagOf t c j
CellOf t c (suc (suc k)) j = ⊥

module _ (t : Table) (u : Unique t.names) (c d : ℕ) (m : Measured t c) (n : Measured t d) where
  -- a cell belongs to one measurement, and is one of its cells
  pub cell-once : (k l i j : ℕ) → CellOf t c k i → CellOf t d l j → i - 1 ≡ j - 1 → (c - 1 ≡ d - 1) × (k ≡ l)
  cell-once zero zero i j x y e = (x ∙ e ∙ sym y, refl)
  cell-once zero (suc zero) i j x y e = absurd (measured-no_flag t c d j m.kind y (x ∙ e))
  cell-once (suc zero) zero i j x y e = absurd (measured-no_flag t d c i n.kind x (y ∙ sym e))
  cell-once (suc zero) (suc zero) i j x y e = (flags-apart t c d i j u m.in-line n.in-line x y e, refl)
  cell-once (suc (suc k)) l i j x y e = absurd x
  cell-once zero (suc (suc l)) i j x y e = absurd y
  cell-once (suc zero) (suc (suc l)) i j x y e = absurd y

-- its kind is that of a measured or a flag column, below those of the station names
pub cell-low : (t : Table) (c : ℕ) → Measured t c → (k j : ℕ) → CellOf t c k j → kind_at t j < 6
cell-low t c m zero j x = let q : kind_at t j ≡ kind_at t c = ap (λ (i : ℕ). get_or (kinds_of t.names) i 0) (sym x) in omega (arith, m.kind, q)
cell-low t c m (suc zero) j x = omega (arith, x.kind, (flag-kind (begins_ctd (name_at t c))).1)
cell-low t c m (suc (suc k)) j x = absurd x
