-- One correction: the answer and the bytes left, from what the reading part says of the measurement's cells.
use Prim.Native.Nat.{ℕ, ◌+◌, ◌-◌, ◌≤◌}
use mathlib.Core.Path.{◌≡◌, refl, sym, ap, subst, ◌∙◌}
use mathlib.Core.List.{List, [], ◌∷◌, map}
use mathlib.Core.Bool.{Bool, true, false, cond, not, ◌||◌}
use native.Mathlib.Omega.{arith}
use lib.ListN.{length, drop, replicate, length-append, length-take, length-drop, length-map}
use lib.Dec.{ltb}
use Rattle.std.specs.Prelude.{Option, Some, None, IfSome, Err}
use Rattle.std.specs.Bool.{then_some}
use Rattle.line_bytes.specs.declared.Span.{Span}
use Rattle.line_bytes.specs.Names.{begins_ctd}
use Rattle.format.specs.declared.Located.{Located}
use Rattle.format.specs.declared.Refusal.{Refusal}
use Rattle.format.specs.Grid.{nowhere}
use Rattle.format.specs.Columns.{kind_of_name}
use Rattle.format.specs.Places.{Table, Outcome, accepted, refused, outcome_of}
use Rattle.format.specs.Profiles.{grid}
use Rattle.format.specs.Answers.{is_there, found, missed, asked_by, asked_of, cell_place}
use Rattle.format.specs.Located.{name_at, flag_column, has_flag, flag_place, located_by, located_of}
use Rattle.laws.proofs.FlagColumnLaws.{flag_of}
use Rattle.laws.proofs.AskedLaws.{row-many}
use Rattle.laws.proofs.FirstBrokenLaws.{checks-first}
use Rattle.numbers.specs.Texts.{number_text, flag_text, at_right}
use Rattle.numbers.specs.Patches.{text_at}
use Rattle.numbers.specs.Inner.Puts.{InCell}
use Rattle.numbers.proofs.TextLaws.{number-some}
use Rattle.format.proofs.InsideLaws.{Inside as There}
use Rattle.laws.proofs.AskedLaws.{there-inside}
use Rattle.orders.specs.declared.Answer.TheVariants.{Applied, Refused}
use Rattle.correction.specs.declared.writing.CellPlaces.{CellPlaces}
use Rattle.orders.specs.declared.Order.{Order}
use Rattle.orders.specs.Corrections.{entry, no_such_cell, bad_flag, any_longer, text_too_long, test, tests_of, own_text, answer_by, answer_of, Fill, fill, fill_at, fills_by, fills_of, filled, corrected_of}
use Rattle.correction.specs.Inner.Writing.{Writes, flag_fills, fills_at}
use Rattle.correction.specs.Inner.Deciding.{first_broken, tests_at, Applies, Decides}
use Rattle.orders.proofs.FlagLaws.{flag_in_lem}
use Rattle.orders.proofs.GeometryLaws.{shape, begin, width_at, width-cell, Inside, inside_of}
use Rattle.orders.proofs.TestLaws.{first-here, first-later}
use Rattle.correction.proofs.FirstBrokenLaws.{by_number, first-broken}
use Rattle.orders.proofs.PlanLaws.{span-inside, place_shape, text-place, line_of, answer_view, decide}
use Rattle.orders.proofs.FitLaws.{Asked, applied-asked, goods}

-- ---- the file's refusal or 21; or the row and column are there
pub record Here (f : List ℕ) (o : Order) (x : Located) : Type 0 where
  pub table : Table
  pub rows : ℕ
  pub accepts : outcome_of f ≡ accepted table rows
  pub there : is_there table rows o.row o.column ≡ true
  pub is : x ≡ located_by f o.row o.column (found table)

module _ (f : List ℕ) (o : Order) (x : Located) (e : x ≡ located_of f o.row o.column) where
  abbrev Is : Outcome → Type 0
  Is p = x ≡ located_by f o.row o.column (asked_by o.row o.column p)

  pub answer-refused : (x.number ≡ 0 → ⊥) → answer_of f o ≡ Refused x.number x.line x.column
  unfolding answer_of located_of asked_of
  answer-refused z = go (outcome_of f) e
    where
      by : (t : Table) (n : ℕ) (b : Bool) → is_there t n o.row o.column ≡ b → x ≡ located_by f o.row o.column (cond b (found t) (missed 21 0 0)) → answer_by f o (accepted t n) ≡ Refused x.number x.line x.column
      by t n true h q = absurd (z (ap (λ (y : Located). y.number) q))
      by t n false h q = first-here (test 21 (no_such_cell t n o)) (drop 1 (tests_of t n (own_text t f o) o)) (ap not h) ∙ sym (ap (λ (y : Located). Refused y.number y.line y.column) q)

      go : (p : Outcome) → Is p → answer_by f o p ≡ Refused x.number x.line x.column
      go (refused a b c) q = sym (ap (λ (y : Located). Refused y.number y.line y.column) q)
      go (accepted t n) q = by t n (is_there t n o.row o.column) refl q

  pub located_here : x.number ≡ 0 → Here f o x
  unfolding located_of asked_of
  located_here z = go (outcome_of f) refl e
    where
      by : (t : Table) (n : ℕ) → outcome_of f ≡ accepted t n → (b : Bool) → is_there t n o.row o.column ≡ b → x ≡ located_by f o.row o.column (cond b (found t) (missed 21 0 0)) → Here f o x
      by t n a true h q = record { table = t; rows = n; accepts = a; there = h; is = q }
      by t n a false h q = let k : x.number ≡ 21 = ap (λ (y : Located). y.number) q in absurd (omega (arith, k, z))

      go : (p : Outcome) → outcome_of f ≡ p → Is p → Here f o x
      go (refused a b c) h q =
          let k : x.number ≡ a = ap (λ (y : Located). y.number) q in
          absurd (omega (arith, k, z, (checks-first.numbers f a b c ((checks-first.refuses f a b c).0 h)).0))
      go (accepted t n) h q = by t n h (is_there t n o.row o.column) refl q

-- ---- a cell of a row that is there: its place is as wide as the cell, and lies in the file
module _ (f : List ℕ) (t : Table) (n r c : ℕ) (e : outcome_of f ≡ accepted t n) (low : 1 ≤ r) (high : r ≤ n) (some : 1 ≤ c) (most : c ≤ length t.names) where
  abbrev line : ℕ
  line = t.line + (r - 1)

  inside : Inside (shape (grid f)) line (c - 1)
  inside = inside_of (grid f) line (c - 1) (omega (arith, row-many f t n e r low high, length-map t.names kind_of_name))

  place : cell_place t f r c ≡ record { start = begin (shape (grid f)) line (c - 1); len = width_at (shape (grid f)) line (c - 1) }
  place = place_shape t f r c ∙ span-inside (shape (grid f)) line (c - 1) inside

  place_width : (cell_place t f r c).len ≡ width_at (shape (grid f)) line (c - 1)
  place_width = ap (λ (p : Span). p.len) place

  place-long : length (text_at f (cell_place t f r c)) ≡ (cell_place t f r c).len
  place-long =
      ap (λ (p : Span). length (text_at f p)) (place_shape t f r c) ∙ ap length (text-place f line (c - 1))
      ∙ sym (width-cell (grid f) line (c - 1)) ∙ sym place_width

  place-cell : (t' : List ℕ) → 1 ≤ length t' → length t' ≤ width_at (shape (grid f)) line (c - 1) → InCell f (cell_place t f r c) t'
  place-cell t' h k =
      let l = simp (length-take, length-drop) at place-long in
      record { fits = omega (arith, place_width); inside = omega (arith, l, place_width) }

-- a cell that one byte is set in is not empty
at_right-some : (w x : ℕ) → length (at_right w (x ∷ [])) ≡ w → 1 ≤ w
unfolding at_right
at_right-some w x e = omega (arith, length-append (replicate (w - 1) 32) (x ∷ []), e)

-- the places of the cells to write
abbrev places_of : Located → CellPlaces
places_of x = record { value = x.value; flag = then_some x.flagged x.flag }

-- ---- the answer and the writes, where row and column are there
module _ (f : List ℕ) (o : Order) (x : Located) (h : Here f o x) where
  abbrev t : Table
  t = h.table

  abbrev column : ℕ
  column = o.column

  in_table_lem : There o.row h.rows o.column (length t.names)
  in_table_lem = there-inside t h.rows o.row o.column h.there

  -- 25, by the place of the value's cell
  too_wide : text_too_long t (own_text t f o) o ≡ ltb (cell_place t f o.row column).len (length (number_text o.millionths o.decimals))
  unfolding any_longer
  too_wide =
      or_false (ltb (length (own_text t f o column)) (length (number_text o.millionths o.decimals)))
      ∙ ap (λ (k : ℕ). ltb k (length (number_text o.millionths o.decimals)))
      (place-long f t h.rows o.row column h.accepts in_table_lem.row in_table_lem.rows in_table_lem.column in_table_lem.columns)
    where
      or_false : (b : Bool) → (b || false) ≡ b
      or_false true = refl
      or_false false = refl

  tests-here : first_broken (drop 1 (tests_of t h.rows (own_text t f o) o)) ≡ first_broken (tests_at x o)
  unfolding bad_flag
  tests-here = rw too_wide (sym (ap (λ (y : Located). first_broken (tests_at y o)) h.is))

  answer-here : answer_of f o ≡ by_number (first_broken (tests_at x o))
  unfolding answer_of
  answer-here =
      let later = drop 1 (tests_of t h.rows (own_text t f o) o) in
      ap (answer_by f o) h.accepts
      ∙ first-later (test 21 (no_such_cell t h.rows o)) later (ap not h.there)
      ∙ first-broken later
      ∙ ap by_number tests-here

  fills-here : fills_of f o ≡ fills_at (places_of x) o
  fills-here =
      ap (fills_by f o) h.accepts
      ∙ ap (λ (xs : List Fill). fill (cell_place t f o.row column) (number_text o.millionths o.decimals) ∷ xs) (flags (has_flag t column))
      ∙ sym (ap (λ (y : Located). fills_at (places_of y) o) h.is)
    where
      flags : (b : Bool) → map (fill_at t f o.row) (cond b (entry (flag_column t column) (flag_text o.flag) ∷ []) [])
          ≡ flag_fills (then_some b (cond b (cell_place t f o.row (flag_column t column)) nowhere)) o.flag
      flags true = refl
      flags false = refl

  module _ (applied : answer_of f o ≡ Applied) where
    asks : Asked t h.rows (shape (grid f)) o
    asks =
        applied-asked t h.rows (shape (grid f)) o
        (sym (ap (λ (p : Outcome). decide p (shape (grid f)) o) h.accepts) ∙ sym (answer_view f o) ∙ applied)

    flag_width : has_flag t column ≡ true → 1 ≤ width_at (shape (grid f)) (line_of t o) (flag_column t column - 1)
    flag_width b =
        let w = width_at (shape (grid f)) (line_of t o) (flag_column t column - 1) in
        let g = rw b at (goods f t h.rows o h.accepts asks) in
        at_right-some w (48 + o.flag) g.1.0.long

    flag_cell : has_flag t column ≡ true → (o.flag ≤ 9) × InCell f (flag_place t f o.row column) (flag_text o.flag)
    flag_cell b =
        let w = flag_of t column asks.measured.in-line b in (
          (flag_in_lem (begins_ctd (name_at t column)) o.flag (asks.flag b)).1,
          rw b (place-cell f t h.rows o.row (flag_column t column) h.accepts in_table_lem.row in_table_lem.rows w.some w.most (flag_text o.flag) (omega arith) (flag_width b)),
        )

    writes-table : Writes f (places_of (located_by f o.row column (found t))) o
    writes-table = record {
      few = asks.value.number.few;
      number =
          place-cell f t h.rows o.row column h.accepts in_table_lem.row in_table_lem.rows in_table_lem.column in_table_lem.columns _
          (number-some o.millionths o.decimals) asks.value.fits;
      digit = if_flagged (has_flag t column) (flag_place t f o.row column) _ flag_cell;
    }
      where
        if_flagged : (b : Bool) (q : Span) (P : Span → Type 0) → (b ≡ true → P q) → IfSome (then_some b q) P
        if_flagged true q P k = k refl
        if_flagged false q P k = tt

    writes-here : Writes f (places_of x) o
    writes-here = subst (λ (y : Located). Writes f (places_of y) o) (sym h.is) writes-table

-- ---- the bytes left
corrected-kept : (f : List ℕ) (o : Order) (a b c : ℕ) → answer_of f o ≡ Refused a b c → f ≡ corrected_of f o
unfolding corrected_of
corrected-kept f o a b c e = rw e

corrected-filled : (f : List ℕ) (o : Order) → answer_of f o ≡ Applied → filled (fills_of f o) f ≡ corrected_of f o
unfolding corrected_of
corrected-filled f o e = rw e

-- ---- the returns of decide: the refusal of locate, the number k of the first test that holds, or the places
module _ {f : List ℕ} {o : Order} {x : Located} (h : Here f o x) where
  pub decides-broken : {k : ℕ} → Some k ≡ first_broken (tests_at x o) → answer_of f o ≡ Refused k 0 0
  decides-broken b = answer-here f o x h ∙ ap by_number (sym b)

  pub decides-here : None ≡ first_broken (tests_at x o) → (q : Option Span) → q ≡ then_some x.flagged x.flag → Applies f o (record { value = x.value; flag = q })
  decides-here b q e = rw e (record {
    answer = applied;
    writes = writes-here f o x h applied;
    fills = sym (ap (λ (xs : List Fill). filled xs f) (fills-here f o x h)) ∙ corrected-filled f o applied;
  })
    where
      applied : answer_of f o ≡ Applied
      applied = answer-here f o x h ∙ ap by_number (sym b)

-- ---- the returns of correct
pub correct-refused : (f : List ℕ) (o : Order) {e : Refusal} → Decides f o (Err e) → (Refused e.number e.line e.column ≡ answer_of f o) × (f ≡ corrected_of f o)
correct-refused f o h = (sym h, corrected-kept f o _ _ _ h)

pub correct-applied : {f g : List ℕ} {o : Order} {p : CellPlaces} → Applies f o p → g ≡ filled (fills_at p o) f → (Applied ≡ answer_of f o) × (g ≡ corrected_of f o)
correct-applied h q = (sym h.answer, q ∙ h.fills)
