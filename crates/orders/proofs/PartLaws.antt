-- The parts of what a correction puts: each entry is the cell of its role of the correction's measurement. So parts of different roles, or of different
-- measurements, are put into different cells.
use Prim.Native.Nat.{ℕ, ◌-◌, ◌≤◌, ◌<◌}
use mathlib.Core.Path.{◌≡◌, refl}
use mathlib.Core.Bool.{Bool, true, false, cond}
use mathlib.Core.List.{List, [], ◌∷◌}
use mathlib.Core.Logic.{◌⊎◌, inl, inr}
use native.Mathlib.Omega.{arith}
use Rattle.format.specs.Places.{Table, Outcome, accepted, refused, outcome_of}
use Rattle.format.specs.Profiles.{grid}
use Rattle.format.specs.Located.{flag_column, has_flag}
use Rattle.laws.proofs.FlagColumnLaws.{flag_of}
use Rattle.laws.proofs.JoinLaws.{All}
use Rattle.numbers.specs.Texts.{flag_text}
use Rattle.orders.specs.declared.Answer.{Answer}
use Rattle.orders.specs.declared.Answer.TheVariants.{Applied, Refused}
use Rattle.orders.specs.declared.Order.{Order}
use Rattle.orders.specs.Corrections.{Entry, entry, value_entry, flag_entries, entries_of}
use Rattle.orders.proofs.GeometryLaws.{Shape, shape}
use Rattle.orders.proofs.PutLaws.{Put, Apart, AllApart, Distinct}
use Rattle.orders.proofs.PlanLaws.{line_of, decide_in, put_of, writes_to, writes, if_applied, Part, plan_by}
use Rattle.format.proofs.UniqueLaws.{accepted_unique}
use Rattle.orders.proofs.ColumnLaws.{Measured, roles, CellOf, cell-once}
use Rattle.orders.proofs.FitLaws.{Asked, applied-asked}
use Rattle.orders.proofs.KeepsLaws.{part_of}

-- an entry is for the cell of a role from a on, below b, of the measurement in column c
pub record Cell (t : Table) (c a b : ℕ) (e : Entry) : Type 0 where
  pub role : ℕ
  pub low : a ≤ role
  pub high : role < b
  pub of : CellOf t c role e.column

all_ranges : (t : Table) (c a b a' b' : ℕ) (es : List Entry) → a' ≤ a → b ≤ b' → All (Cell t c a b) es → All (Cell t c a' b') es
all_ranges t c a b a' b' [] l h x = tt
all_ranges t c a b a' b' (e ∷ es) l h x =
    (record { role = x.0.role; low = omega (arith, x.0.low); high = omega (arith, x.0.high); of = x.0.of }, all_ranges t c a b a' b' es l h x.1)

-- ---- the parts: value and flag
abbrev pub value_part : Part
value_part t o = value_entry o ∷ flag_entries t o

module _ (t : Table) (o : Order) (m : Measured t o.column) where
  value-cells : All (Cell t o.column 0 1) (value_entry o ∷ [])
  value-cells = (record { role = 0; low = omega arith; high = omega arith; of = refl }, tt)

  flag-cells : All (Cell t o.column 1 2) (flag_entries t o)
  flag-cells = go (has_flag t o.column) refl
    where
      go : (b : Bool) → has_flag t o.column ≡ b → All (Cell t o.column 1 2) (cond b (entry (flag_column t o.column) (flag_text o.flag) ∷ []) [])
      go true h = (record { role = 1; low = omega arith; high = omega arith; of = flag_of t o.column m.in-line h }, tt)
      go false h = tt

  pub part-cells : All (Cell t o.column 0 2) (value_part t o)
  part-cells = (
    record { role = 0; low = omega arith; high = omega arith; of = refl },
    all_ranges t o.column 1 2 0 2 (flag_entries t o) (omega arith) (omega arith) flag-cells,
  )

  pub all-cells : All (Cell t o.column 0 roles) (entries_of t o)
  all-cells = part-cells

-- ---- entries of other cells are put apart
abbrev Away : ℕ → ℕ → ℕ → ℕ → Type 0
Away a b a' b' = (b ≤ a') ⊎ (b' ≤ a)

away_roles : (a b a' b' k l : ℕ) → Away a b a' b' → a ≤ k → k < b → a' ≤ l → l < b' → k ≡ l → ⊥
away_roles a b a' b' k l (inl h) p q r s e = omega arith
away_roles a b a' b' k l (inr h) p q r s e = omega arith

module _ (f : List ℕ) (t : Table) (n : ℕ) (e : outcome_of f ≡ accepted t n) (sh : Shape) (l k c d : ℕ) (m : Measured t c) (q : Measured t d) (a b a' b' : ℕ)
    (away : l ≡ k → c - 1 ≡ d - 1 → Away a b a' b') where
  one_apart : (x y : Entry) → Cell t c a b x → Cell t d a' b' y → Apart (put_of sh l x) (put_of sh k y)
  one_apart x y v w z =
      let s = cell-once t (accepted_unique f t n e) c d m q v.role w.role x.column y.column v.of w.of z.1 in
      away_roles a b a' b' v.role w.role (away z.0 s.0) v.low v.high w.low w.high s.1

  row_apart : (x : Entry) (ys : List Entry) → Cell t c a b x → All (Cell t d a' b') ys → All (Apart (put_of sh l x)) (writes_to sh k ys)
  unfolding writes_to
  row_apart x [] v w = tt
  row_apart x (y ∷ ys) v w = (one_apart x y v w.0, row_apart x ys v w.1)

  pub cells-apart : (xs ys : List Entry) → All (Cell t c a b) xs → All (Cell t d a' b') ys → AllApart (writes_to sh l xs) (writes_to sh k ys)
  unfolding writes_to
  cells-apart [] ys v w = tt
  cells-apart (x ∷ xs) ys v w = (row_apart x ys v.0 w, cells-apart xs ys v.1 w)

-- ---- parts of two corrections of any file
all-apart-none : (ws : List Put) → AllApart ws []
all-apart-none [] = tt
all-apart-none (w ∷ ws) = (tt, all-apart-none ws)

abbrev pub Cells : Part → Order → ℕ → ℕ → Type 0
Cells es o a b = (t : Table) → Measured t o.column → All (Cell t o.column a b) (es t o)

pub parts-apart : (es ds : Part) (f : List ℕ) (o q : Order) (a b a' b' : ℕ) → Cells es o a b → Cells ds q a' b' → (o.row ≡ q.row → o.column ≡ q.column → Away a b a' b')
    → AllApart (part_of es f o) (part_of ds f q)
unfolding plan_by
parts-apart es ds f o q a b a' b' x y away = by (outcome_of f) refl
  where
    sh : Shape
    sh = shape (grid f)

    by : (p : Outcome) → outcome_of f ≡ p → AllApart (plan_by es p sh o) (plan_by ds p sh q)
    by (refused i j k) e = tt
    by (accepted t n) e = go (decide_in t n sh o) refl (decide_in t n sh q) refl
      where
        both : Asked t n sh o → Asked t n sh q → AllApart (writes es (accepted t n) sh o) (writes ds (accepted t n) sh q)
        both v w =
            cells-apart f t n e sh (line_of t o) (line_of t q) o.column q.column v.measured w.measured a b a' b'
            (λ l c. away (omega (arith, v.row, w.row, l)) (omega (arith, v.col, w.col, c)))
            (es t o) (ds t q) (x t v.measured) (y t w.measured)

        go : (i : Answer) → decide_in t n sh o ≡ i → (j : Answer) → decide_in t n sh q ≡ j → AllApart (if_applied i (writes es (accepted t n) sh o)) (if_applied j (writes ds (accepted t n) sh q))
        go (Refused i j k) r y s = tt
        go Applied r (Refused i j k) s = all-apart-none (writes es (accepted t n) sh o)
        go Applied r Applied s = both (applied-asked t n sh o r) (applied-asked t n sh q s)

-- ---- the entries of one correction are put into different cells
module _ (f : List ℕ) (t : Table) (n : ℕ) (e : outcome_of f ≡ accepted t n) (sh : Shape) (l : ℕ) (o : Order) (m : Measured t o.column) where
  one-flag : Distinct (writes_to sh l (flag_entries t o))
  unfolding writes_to
  one-flag = go (has_flag t o.column)
    where
      go : (b : Bool) → Distinct (writes_to sh l (cond b (entry (flag_column t o.column) (flag_text o.flag) ∷ []) []))
      go true = (tt, tt)
      go false = tt

  pub entries_distinct : Distinct (writes_to sh l (entries_of t o))
  unfolding writes_to
  entries_distinct = (
    (cells-apart f t n e sh l l o.column o.column m m 0 1 1 2 (λ x y. inl (omega arith)) (value_entry o ∷ []) (flag_entries t o) (value-cells t o m) (flag-cells t o m)).0,
    one-flag,
  )

pub plan_distinct : (f : List ℕ) (o : Order) → Distinct (part_of entries_of f o)
unfolding plan_by
plan_distinct f o = by (outcome_of f) refl
  where
    sh : Shape
    sh = shape (grid f)

    by : (p : Outcome) → outcome_of f ≡ p → Distinct (plan_by entries_of p sh o)
    by (refused x y z) e = tt
    by (accepted t n) e = go (decide_in t n sh o) refl
      where
        go : (x : Answer) → decide_in t n sh o ≡ x → Distinct (if_applied x (writes entries_of (accepted t n) sh o))
        go (Refused i j k) d = tt
        go Applied d = entries_distinct f t n e sh (line_of t o) o (applied-asked t n sh o d).measured
