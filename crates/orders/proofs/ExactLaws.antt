-- A correction is refused exactly where a test holds, and otherwise its cells are filled just as said and no other byte changes.
use Prim.Native.Nat.{ℕ, ◌+◌, ◌-◌}
use mathlib.Core.Path.{◌≡◌, refl, sym, ap, ◌∙◌, subst}
use mathlib.Core.Bool.{Bool, true, false, cond}
use mathlib.Core.List.{List, [], ◌∷◌, map}
use lib.ListN.{get_or}
use Rattle.line_bytes.specs.declared.Span.{Span}
use Rattle.format.specs.Grid.{nowhere}
use Rattle.format.specs.Places.{Table, Outcome, accepted, refused, outcome_of}
use Rattle.format.specs.Profiles.{grid}
use Rattle.format.specs.Answers.{cell_place}
use Rattle.format.specs.Located.{flag_column, has_flag, measurement_cells, cells_by, cells_of}
use Rattle.laws.proofs.JoinLaws.{All}
use Rattle.laws.proofs.UngridLaws.{ungrid-grid}
use Rattle.numbers.specs.Texts.{flag_text, at_right}
use Rattle.numbers.specs.Patches.{text_at}
use Rattle.orders.specs.declared.Answer.{Answer}
use Rattle.orders.specs.declared.Answer.TheVariants.{Applied, Refused}
use Rattle.orders.specs.declared.Order.{Order}
use Rattle.orders.specs.Corrections.{Entry, entry, entries_of, tests_of, own_text, answer_by, answer_of, Fill, fill_at, fills_by, fills_of, filled, filled_text, left_by, corrected_of}
use Rattle.orders.specs.Demand3.{IsFirst, MayApply, Exactly, Within, InNone}
use Rattle.orders.proofs.TestLaws.{not-applied, first_that_lem, none-holds, none-applied}
use Rattle.orders.proofs.GeometryLaws.{Grid, Shape, shape}
use Rattle.orders.proofs.PutLaws.{Fit, Stands, Outside}
use Rattle.orders.proofs.PlanLaws.{span_at, span-inside, place_shape, text-place, decide_in, decide, answer_view, writes_to, writes, if_applied, plan_by, plan, corrected_view}
use Rattle.orders.proofs.KeepsLaws.{plan_of, keeps, done}
use Rattle.orders.proofs.PartLaws.{plan_distinct}

-- ---- refused by the first test that holds
module _ (f : List ℕ) (o : Order) where
  answer_by_lem : (p : Outcome) → outcome_of f ≡ p → answer_of f o ≡ answer_by f o p
  unfolding answer_of
  answer_by_lem p e = ap (answer_by f o) e

  may_apply : answer_of f o ≡ Applied → MayApply f o
  may_apply a = go (outcome_of f) refl
    where
      go : (p : Outcome) → outcome_of f ≡ p → MayApply f o
      go (refused x y z) e = absurd (not-applied x y z (sym (answer_by_lem (refused x y z) e) ∙ a))
      go (accepted t n) e = record {
        table = t;
        rows = n;
        accepts = e;
        passes = none-holds (tests_of t n (own_text t f o) o) (sym (answer_by_lem (accepted t n) e) ∙ a);
      }

  applies : MayApply f o → answer_of f o ≡ Applied
  applies m = answer_by_lem (accepted m.table m.rows) m.accepts ∙ none-applied (tests_of m.table m.rows (own_text m.table f o) o) m.passes

  first-test : (t : Table) (n : ℕ) → outcome_of f ≡ accepted t n → IsFirst (tests_of t n (own_text t f o) o) (answer_of f o)
  first-test t n e = subst (IsFirst (tests_of t n (own_text t f o) o)) (sym (answer_by_lem (accepted t n) e)) (first_that_lem (tests_of t n (own_text t f o) o))

  pub refused-same : (a b c : ℕ) → answer_of f o ≡ Refused a b c → corrected_of f o ≡ f
  unfolding corrected_of
  refused-same a b c e = ap (λ (x : Answer). left_by x (filled (fills_of f o) f) f) e

-- ---- the cells filled
fills_by_lem : (g f : List ℕ) (t : Table) (r : ℕ) (es : List Entry) → shape (grid g) ≡ shape (grid f) → All (Fit (shape (grid f))) (writes_to (shape (grid f)) (t.line + (r - 1)) es)
    → Stands (grid g) (writes_to (shape (grid f)) (t.line + (r - 1)) es) → map (λ (x : Fill). text_at g x.place) (map (fill_at t f r) es) ≡ map filled_text (map (fill_at t f r) es)
unfolding writes_to
fills_by_lem g f t r [] e a s = refl
fills_by_lem g f t r (x ∷ es) e a s =
    let l : ℕ = t.line + (r - 1) in
    let c : ℕ = x.column - 1 in
    let p : cell_place t f r x.column ≡ span_at (shape (grid f)) l c = place_shape t f r x.column in
    let one : text_at g (cell_place t f r x.column) ≡ at_right (cell_place t f r x.column).len x.text =
    ap (text_at g) p ∙ ap (λ (sh : Shape). text_at g (span_at sh l c)) (sym e) ∙ text-place g l c ∙ s.0
    ∙ ap (λ (p : Span). at_right p.len x.text) (sym (p ∙ span-inside (shape (grid f)) l c a.0.inside)) in
    let more = fills_by_lem g f t r es e a.1 s.1 in
    λ i. one i ∷ more i

module _ (f : List ℕ) (o : Order) where
  fills : answer_of f o ≡ Applied → map (λ (x : Fill). text_at (corrected_of f o) x.place) (fills_of f o) ≡ map filled_text (fills_of f o)
  unfolding plan_by
  fills a =
      go (outcome_of f) (sym (answer_view f o) ∙ a) (keeps f o).fit
      (subst (λ (g : Grid). Stands g (plan_of f o)) (sym (keeps f o).cells) ((done f o (keeps f o).fit).stands (plan_distinct f o)))
    where
      sh : Shape
      sh = shape (grid f)

      go : (p : Outcome) → decide p sh o ≡ Applied → All (Fit sh) (plan p sh o) → Stands (grid (corrected_of f o)) (plan p sh o)
          → map (λ (x : Fill). text_at (corrected_of f o) x.place) (fills_by f o p) ≡ map filled_text (fills_by f o p)
      go (refused x y z) d a s = absurd (not-applied x y z d)
      go (accepted t n) d a s =
          fills_by_lem (corrected_of f o) f t o.row (entries_of t o) (keeps f o).wide
          (subst (λ (x : Answer). All (Fit sh) (if_applied x (writes entries_of (accepted t n) sh o))) d a)
          (subst (λ (x : Answer). Stands (grid (corrected_of f o)) (if_applied x (writes entries_of (accepted t n) sh o))) d s)

  cells-filled : map (λ (x : Fill). x.place) (fills_of f o) ≡ cells_of f o.row o.column
  unfolding measurement_cells
  cells-filled = go (outcome_of f)
    where
      flags : (t : Table) (b : Bool) → map (λ (x : Fill). x.place) (map (fill_at t f o.row) (cond b (entry (flag_column t o.column) (flag_text o.flag) ∷ []) []))
          ≡ cond b (cond b (cell_place t f o.row (flag_column t o.column)) nowhere ∷ []) []
      flags t true = refl
      flags t false = refl

      go : (p : Outcome) → map (λ (x : Fill). x.place) (fills_by f o p) ≡ cells_by f o.row o.column p
      go (refused x y z) = refl
      go (accepted t n) = ap (λ (ps : List Span). cell_place t f o.row o.column ∷ ps) (flags t (has_flag t o.column))

  pub exactly : Exactly f o
  exactly = record {
    only = may_apply f o;
    always = applies f o;
    file = λ a b c e. answer_by_lem f o (refused a b c) e;
    first = first-test f o;
    unchanged = refused-same f o;
    cells = cells-filled;
    fills = fills;
  }

-- ---- the bytes outside the cells
abbrev Out : Table → List ℕ → ℕ → ℕ → Entry → Type 0
Out t f r i e = Within (cell_place t f r e.column) i → ⊥

out_puts : (t : Table) (f : List ℕ) (r i : ℕ) (es : List Entry) → All (Fit (shape (grid f))) (writes_to (shape (grid f)) (t.line + (r - 1)) es) → All (Out t f r i) es
    → All (Outside (shape (grid f)) i) (writes_to (shape (grid f)) (t.line + (r - 1)) es)
unfolding writes_to
out_puts t f r i [] a h = tt
out_puts t f r i (e ∷ es) a h =
    (subst (λ (p : Span). Within p i → ⊥) (place_shape t f r e.column ∙ span-inside (shape (grid f)) (t.line + (r - 1)) (e.column - 1) a.0.inside) h.0, out_puts t f r i es a.1 h.1)

entries_out : (t : Table) (f : List ℕ) (o : Order) (i : ℕ) → InNone (measurement_cells t f o.row o.column) i → All (Out t f o.row i) (entries_of t o)
unfolding measurement_cells
entries_out t f o i h = (h.0, flags (flag_text o.flag) (has_flag t o.column) h.1)
  where
    flags : (x : List ℕ) (b : Bool) → InNone (cond b (cond b (cell_place t f o.row (flag_column t o.column)) nowhere ∷ []) []) i → All (Out t f o.row i) (cond b (entry (flag_column t o.column) x ∷ []) [])
    flags x true h = h
    flags x false h = tt

pub one_outside : (f : List ℕ) (o : Order) (i z : ℕ) → InNone (cells_of f o.row o.column) i → get_or (corrected_of f o) i z ≡ get_or f i z
unfolding plan_by
one_outside f o i z h =
    ap (λ (x : List ℕ). get_or x i z) (corrected_view f o (keeps f o).fit)
    ∙ (done f o (keeps f o).fit).outside i z (go (outcome_of f) (keeps f o).fit h)
    ∙ ap (λ (x : List ℕ). get_or x i z) (ungrid-grid f)
  where
    sh : Shape
    sh = shape (grid f)

    go : (p : Outcome) → All (Fit sh) (plan p sh o) → InNone (cells_by f o.row o.column p) i → All (Outside sh i) (plan p sh o)
    go (refused x y w) a h = tt
    go (accepted t n) a h = at (decide_in t n sh o) a
      where
        at : (x : Answer) → All (Fit sh) (if_applied x (writes entries_of (accepted t n) sh o)) → All (Outside sh i) (if_applied x (writes entries_of (accepted t n) sh o))
        at (Refused x y w) a = tt
        at Applied a = out_puts t f o.row i (entries_of t o) a (entries_out t f o i h)
