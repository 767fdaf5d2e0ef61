-- Two corrections: of different measurements, either order leaves the same bytes; of one measurement, the later alone, as it sets all that the earlier set.
use Prim.Native.Nat.{ℕ, ◌-◌}
use mathlib.Core.Path.{◌≡◌, sym, ap, ◌∙◌, subst}
use mathlib.Core.Bool.{Bool, true, false, cond}
use mathlib.Core.List.{List, [], ◌∷◌}
use mathlib.Core.Logic.{◌⊎◌, inl, inr}
use native.Mathlib.Omega.{arith}
use Rattle.format.specs.Places.{Table, Outcome, accepted, refused, outcome_of}
use Rattle.laws.specs.Inner.Writes.{ungrid}
use Rattle.format.specs.Profiles.{grid}
use Rattle.format.specs.Located.{flag_column, has_flag}
use Rattle.laws.proofs.JoinLaws.{All}
use Rattle.numbers.specs.Texts.{flag_text}
use Rattle.orders.specs.declared.Answer.TheVariants.{Applied}
use Rattle.orders.specs.declared.Order.{Order}
use Rattle.orders.specs.Corrections.{Entry, entry, flag_entries, entries_of, answer_of, corrected_of}
use Rattle.orders.proofs.GeometryLaws.{Grid, Shape, shape}
use Rattle.orders.proofs.PutLaws.{Put, puts, AllApart, puts_comm}
use Rattle.orders.proofs.TestLaws.{not-applied}
use Rattle.orders.proofs.CoverLaws.{Hit, puts_covered}
use Rattle.orders.proofs.PlanLaws.{line_of, decide, answer_view, put_of, writes_to, all-writes, plan_by, plan, corrected_view}
use Rattle.orders.proofs.ColumnLaws.{roles}
use Rattle.orders.proofs.KeepsLaws.{plan_of, keeps, part-kept}
use Rattle.orders.proofs.PartLaws.{all-cells, parts-apart}

abbrev pub Differ : Order → Order → Type 0
Differ o q = (o.row ≡ q.row) × (o.column ≡ q.column) → ⊥

pub plans-apart : (f : List ℕ) (o q : Order) → Differ o q → AllApart (plan_of f o) (plan_of f q)
plans-apart f o q df = parts-apart entries_of entries_of f o q 0 roles 0 roles (λ t m. all-cells t o m) (λ t m. all-cells t q m) (λ r c. absurd (df (r, c)))

-- ---- each cell that an earlier correction of the measurement set is set again
abbrev Met : Entry → List Entry → Type 0
Met e [] = ⊥
Met e (d ∷ ds) = (e.column ≡ d.column) ⊎ Met e ds

hit_put : (sh : Shape) (l k : ℕ) (e : Entry) (ds : List Entry) → l ≡ k → Met e ds → Hit (put_of sh l e) (writes_to sh k ds)
unfolding writes_to
hit_put sh l k e [] q h = absurd h
hit_put sh l k e (d ∷ ds) q (inl h) = inl (q, ap (λ (c : ℕ). c - 1) h)
hit_put sh l k e (d ∷ ds) q (inr h) = inr (hit_put sh l k e ds q h)

all_met : (P Q : Entry → Type 0) (es : List Entry) → ((e : Entry) → P e → Q e) → All P es → All Q es
all_met P Q [] h a = tt
all_met P Q (e ∷ es) h a = (h e a.0, all_met P Q es h a.1)

module _ (t : Table) (o q : Order) (c : o.column ≡ q.column) where
  flags_met : All (λ (e : Entry). Met e (flag_entries t q)) (flag_entries t o)
  flags_met = subst (λ (b : Bool). All (λ (e : Entry). Met e (flag_entries t q)) (cond b (entry (flag_column t o.column) (flag_text o.flag) ∷ []) [])) (ap (has_flag t) (sym c)) (go (has_flag t q.column))
    where
      go : (b : Bool) → All (λ (e : Entry). Met e (cond b (entry (flag_column t q.column) (flag_text q.flag) ∷ []) [])) (cond b (entry (flag_column t o.column) (flag_text o.flag) ∷ []) [])
      go true = (inl (ap (flag_column t) c), tt)
      go false = tt

  all_again : All (λ (e : Entry). Met e (entries_of t q)) (entries_of t o)
  all_again = (
    inl c,
    all_met (λ (e : Entry). Met e (flag_entries t q)) (λ (e : Entry). Met e (entries_of t q)) (flag_entries t o) (λ e h. inr h) flags_met,
  )

covers : (p : Outcome) (sh : Shape) (o q : Order) → o.row ≡ q.row → o.column ≡ q.column → decide p sh o ≡ Applied → decide p sh q ≡ Applied → All (λ w. Hit w (plan p sh q)) (plan p sh o)
unfolding plan_by
covers (refused x y z) sh o q r c a b = absurd (not-applied x y z a)
covers (accepted t n) sh o q r c a b =
    let l : line_of t o ≡ line_of t q = omega arith in
    rw (a, b)
    (all-writes (λ (e : Entry). Met e (entries_of t q)) (λ w. Hit w (writes_to sh (line_of t q) (entries_of t q))) sh (line_of t o) (entries_of t o)
    (λ e h. hit_put sh (line_of t o) (line_of t q) e (entries_of t q) l h) (all_again t o q c))

-- ---- one after the other
two : (f : List ℕ) (o q : Order) → corrected_of (corrected_of f o) q ≡ ungrid (puts (puts (grid f) (plan_of f o)) (plan_of f q))
two f o q =
    corrected_view (corrected_of f o) q (keeps (corrected_of f o) q).fit
    ∙ ap (λ (ws : List Put). ungrid (puts (grid (corrected_of f o)) ws)) (part-kept entries_of f o q)
    ∙ ap (λ (g : Grid). ungrid (puts g (plan_of f q))) (keeps f o).cells

pub either_order : (f : List ℕ) (o q : Order) → Differ o q → corrected_of (corrected_of f o) q ≡ corrected_of (corrected_of f q) o
either_order f o q df = two f o q ∙ ap ungrid (puts_comm (plan_of f o) (plan_of f q) (grid f) (plans-apart f o q df)) ∙ sym (two f q o)

pub later_alone : (f : List ℕ) (o q : Order) → o.row ≡ q.row → o.column ≡ q.column → answer_of f o ≡ Applied → answer_of f q ≡ Applied → corrected_of (corrected_of f o) q ≡ corrected_of f q
later_alone f o q r c a b =
    two f o q
    ∙ ap ungrid (puts_covered (plan_of f o) (plan_of f q) (grid f) (covers (outcome_of f) (shape (grid f)) o q r c (sym (answer_view f o) ∙ a) (sym (answer_view f q) ∙ b)))
    ∙ sym (corrected_view f q (keeps f q).fit)
