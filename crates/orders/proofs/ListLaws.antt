-- A list of corrections: each answer is exact, the file stays what it is, a measurement reads as the last correction applied to it ordered, and the bytes
-- outside the cells of such measurements are the old ones.
use Prim.Native.Nat.{ℕ}
use mathlib.Core.Path.{◌≡◌, refl, sym, ap, ◌∙◌, subst}
use mathlib.Core.Bool.{Bool, true, false, cond, ◌&&◌, true≢false, and-eq-true_iff}
use mathlib.Core.Option.{Option, none, some}
use mathlib.Core.List.{List, [], ◌∷◌}
use native.Mathlib.Omega.{arith}
use lib.ListN.{get_or}
use lib.Dec.{eqb}
use borrow.Author.Tests.{eqb-true, eq-eqb}
use Rattle.line_bytes.specs.declared.Span.{Span}
use Rattle.format.specs.Located.{cells_of}
use Rattle.orders.specs.declared.Answer.{Answer}
use Rattle.orders.specs.declared.Answer.TheVariants.{Applied, Refused}
use Rattle.orders.specs.declared.Order.{Order}
use Rattle.orders.specs.Corrections.{entries_of, answer_of, corrected_of}
use Rattle.laws.proofs.MissingLaws.{missing-counted}
use Rattle.orders.specs.Demand3.{Measurement, measurement_of, corrected_all, answers_to, EachExactly, names, if_applied, or_else, last_that, any, last_to, ReadsAs, InNone, Kept, AfterList}
use Rattle.orders.proofs.PutLaws.{AllApart}
use Rattle.orders.proofs.PlanLaws.{Part}
use Rattle.orders.proofs.ColumnLaws.{roles}
use Rattle.orders.proofs.KeepsLaws.{part_of, plan_of, places-kept}
use Rattle.orders.proofs.PartLaws.{value_part, part-cells, all-cells, parts-apart}
use Rattle.orders.proofs.ReadLaws.{Set, set_reads, set_now, set_on}
use Rattle.orders.proofs.RecordLaws.{kept}
use Rattle.orders.proofs.ExactLaws.{refused-same, exactly, one_outside}

each_exactly : (os : List Order) (f : List ℕ) → EachExactly f os (answers_to f os)
unfolding answers_to
each_exactly [] f = tt
each_exactly (o ∷ os) f = (refl, exactly f o, each_exactly os (corrected_of f o))

-- ---- the file stays what it is
kept-none : (f : List ℕ) → Kept f f
kept-none f = record { outcome = refl; number = refl; line = refl; column = refl; kind = refl; columns = refl; rows = refl; profiles = refl; missing = missing-counted f; records = λ k. refl; long = refl }

kept_more : {f g h : List ℕ} → Kept f g → Kept g h → Kept f h
kept_more a b = record {
  outcome = b.outcome ∙ a.outcome;
  number = b.number ∙ a.number;
  line = b.line ∙ a.line;
  column = b.column ∙ a.column;
  kind = b.kind ∙ a.kind;
  columns = b.columns ∙ a.columns;
  rows = b.rows ∙ a.rows;
  profiles = b.profiles ∙ a.profiles;
  missing = b.missing;
  records = λ k. b.records k ∙ a.records k;
  long = b.long ∙ a.long;
}

kept-all : (os : List Order) (f : List ℕ) → Kept f (corrected_all f os)
unfolding corrected_all
kept-all [] f = kept-none f
kept-all (o ∷ os) f = kept_more (kept f o) (kept-all os (corrected_of f o))

-- ---- the last correction of a sort applied to a measurement
some-none : (o : Order) → some o ≡ none → ⊥
some-none o e = let z : ◌≡◌ {A = ℕ} 0 1 = cc in omega arith

else-none : (x y : Option Order) → or_else x y ≡ none → (x ≡ none) × (y ≡ none)
else-none none y e = (refl, e)
else-none (some o) y e = absurd (some-none o e)

unnamed : (b : Bool) (q : Order) → cond b (some q) none ≡ none → b ≡ false
unnamed true q e = absurd (some-none q e)
unnamed false q e = refl

-- ---- who is named: each correction its own measurement, and no correction changes that
names_own : (f : List ℕ) (o : Order) → names f o (measurement_of f o) ≡ true
names_own f o = rw (eq-eqb o.row o.row refl, eq-eqb o.column o.column refl)

names_is : (f : List ℕ) (o : Order) (m : Measurement) → names f o m ≡ true → m ≡ measurement_of f o
names_is f o m e =
    let w = (and-eq-true_iff (eqb o.row m.row) (eqb o.column m.column)).0 e in
    let a : m.row ≡ o.row = sym (eqb-true o.row m.row w.0) in
    let c : m.column ≡ o.column = sym (eqb-true o.column m.column w.1) in
    λ i. record { row = a i; column = c i }

names-other : (f : List ℕ) (o q : Order) → names f q (measurement_of f o) ≡ false → o.row ≡ q.row → o.column ≡ q.column → ⊥
names-other f o q e r c = true≢false (sym (rw (eq-eqb q.row o.row (sym r), eq-eqb q.column o.column (sym c))) ∙ e)

measurement-kept : (f : List ℕ) (q o : Order) → measurement_of f o ≡ measurement_of (corrected_of f q) o
measurement-kept f q o = refl

-- a part es of what a correction puts, and the sort p of corrections that put such a part; any other correction leaves it
module _ (es : Part) (p : Order → Bool) (now : (f : List ℕ) (o : Order) → answer_of f o ≡ Applied → Set es (corrected_of f o) o)
    (apart : (f : List ℕ) (o q : Order) → (p q && names f q (measurement_of f o)) ≡ false → AllApart (part_of es f o) (plan_of f q)) where
  passes : (f : List ℕ) (o q : Order) (m : Measurement) → m ≡ measurement_of f o → if_applied (answer_of f q) (p q && names f q m) q ≡ none → Set es f o → Set es (corrected_of f q) o
  passes f o q m w e s = go (answer_of f q) refl e
    where
      go : (a : Answer) → answer_of f q ≡ a → if_applied a (p q && names f q m) q ≡ none → Set es (corrected_of f q) o
      go (Refused x y z) r e = subst (λ (g : List ℕ). Set es g o) (sym (refused-same f q x y z r)) s
      go Applied r e = set_on es f o q (apart f o q (ap (λ (x : Measurement). p q && names f q x) (sym w) ∙ unnamed (p q && names f q m) q e)) s

  stays : (os : List Order) (f : List ℕ) (o : Order) (m : Measurement) → m ≡ measurement_of f o → last_that p f os m ≡ none → Set es f o → Set es (corrected_all f os) o × (m ≡ measurement_of (corrected_all f os) o)
  unfolding corrected_all last_that
  stays [] f o m w e s = (s, w)
  stays (q ∷ os) f o m w e s =
      let n = else-none (last_that p (corrected_of f q) os m) (if_applied (answer_of f q) (p q && names f q m) q) e in
      stays os (corrected_of f q) o m (w ∙ measurement-kept f q o) n.0 (passes f o q m w n.1 s)

  record LastSet (f : List ℕ) (m : Measurement) (o : Order) : Type 0 where
    is : m ≡ measurement_of f o
    sort : p o ≡ true
    set : Set es f o

  -- q itself is the last one to m, in a list where none after it is
  here-set : (os : List Order) (f : List ℕ) (q : Order) (m : Measurement) (o : Order) → last_that p (corrected_of f q) os m ≡ none → if_applied (answer_of f q) (p q && names f q m) q ≡ some o
      → LastSet (corrected_all (corrected_of f q) os) m o
  here-set os f q m o l e = at (answer_of f q) refl e
    where
      hit : answer_of f q ≡ Applied → (b : Bool) → (p q && names f q m) ≡ b → cond b (some q) none ≡ some o → LastSet (corrected_all (corrected_of f q) os) m o
      hit r false t e = absurd (some-none o (sym e))
      hit r true t e =
          let v = (and-eq-true_iff (p q) (names f q m)).0 t in
          let is = names_is f q m v.1 in
          let same : q ≡ o = cc in
          let k = stays os (corrected_of f q) q m (is ∙ measurement-kept f q q) l (now f q r) in
          subst (LastSet (corrected_all (corrected_of f q) os) m) same (record { is = k.1; sort = v.0; set = k.0 })

      at : (a : Answer) → answer_of f q ≡ a → if_applied a (p q && names f q m) q ≡ some o → LastSet (corrected_all (corrected_of f q) os) m o
      at (Refused x y z) r e = absurd (some-none o (sym e))
      at Applied r e = hit r (p q && names f q m) refl e

  last_set : (os : List Order) (f : List ℕ) (m : Measurement) (o : Order) → last_that p f os m ≡ some o → LastSet (corrected_all f os) m o
  unfolding corrected_all last_that
  last_set [] f m o e = absurd (some-none o (sym e))
  last_set (q ∷ os) f m o e = go (last_that p (corrected_of f q) os m) refl e (last_set os (corrected_of f q) m o)
    where
      go : (l : Option Order) → last_that p (corrected_of f q) os m ≡ l → or_else l (if_applied (answer_of f q) (p q && names f q m) q) ≡ some o
          → (last_that p (corrected_of f q) os m ≡ some o → LastSet (corrected_all (corrected_of f q) os) m o) → LastSet (corrected_all (corrected_of f q) os) m o
      go (some x) r e ih = ih (r ∙ e)
      go none r e ih = here-set os f q m o r e

-- ---- value and flag are left by a correction that does not name the measurement
value-apart : (f : List ℕ) (o q : Order) → names f q (measurement_of f o) ≡ false → AllApart (part_of value_part f o) (plan_of f q)
value-apart f o q e = parts-apart value_part entries_of f o q 0 2 0 roles (λ t m. part-cells t o m) (λ t m. all-cells t q m) (λ r c. absurd (names-other f o q e r c))

reads-last : (f : List ℕ) (os : List Order) (m : Measurement) (o : Order) → last_to f os m ≡ some o → ReadsAs (corrected_all f os) m o
reads-last f os m o e =
    let w = last_set value_part any (set_now value_part (λ P t o a. a)) value-apart os f m o e in
    subst (λ (x : Measurement). ReadsAs (corrected_all f os) x o) (sym w.is) (set_reads (corrected_all f os) o w.set)

-- ---- the bytes outside
-- the offset i lies in none of the cells of the measurements to which the list has a last correction of a sort
abbrev Spared : (Order → Bool) → (List ℕ → ℕ → ℕ → List Span) → List ℕ → List Order → ℕ → Type 0
Spared p cells f os i = (m : Measurement) (o : Order) → last_that p f os m ≡ some o → InNone (cells f m.row m.column) i

module _ (p : Order → Bool) (cells : List ℕ → ℕ → ℕ → List Span) (f : List ℕ) (q : Order) (os : List Order) (i : ℕ) (h : Spared p cells f (q ∷ os) i) where
  -- so in none of those of the first, if it is of the sort and applied
  spared-first : answer_of f q ≡ Applied → p q ≡ true → InNone (cells f q.row q.column) i
  unfolding last_that
  spared-first a g = named (last_that p (corrected_of f q) os own) refl
    where
      own : Measurement
      own = measurement_of f q

      named : (l : Option Order) → last_that p (corrected_of f q) os own ≡ l → InNone (cells f own.row own.column) i
      named none r =
          h own q
          (ap (λ (x : Option Order). or_else x (if_applied (answer_of f q) (p q && names f q own) q)) r
          ∙ ap (λ (x : Answer). if_applied x (p q && names f q own) q) a
          ∙ ap (λ (b : Bool). cond (b && names f q own) (some q) none) g
          ∙ ap (λ (b : Bool). cond b (some q) none) (names_own f q))
      named (some o) r = h own o (ap (λ (x : Option Order). or_else x (if_applied (answer_of f q) (p q && names f q own) q)) r)

  -- and in none for the rest of the list, where the cells stay
  spared_rest : ((r c : ℕ) → cells (corrected_of f q) r c ≡ cells f r c) → Spared p cells (corrected_of f q) os i
  unfolding last_that
  spared_rest k m o e =
      subst (λ (ps : List Span). InNone ps i) (sym (k m.row m.column))
      (h m o (ap (λ (x : Option Order). or_else x (if_applied (answer_of f q) (p q && names f q m) q)) e))

outside-all : (os : List Order) (f : List ℕ) (i z : ℕ) → Spared any cells_of f os i → get_or (corrected_all f os) i z ≡ get_or f i z
unfolding corrected_all
outside-all [] f i z h = refl
outside-all (q ∷ os) f i z h = outside-all os (corrected_of f q) i z (spared_rest any cells_of f q os i h (places-kept f q)) ∙ first (answer_of f q) refl
  where
    first : (a : Answer) → answer_of f q ≡ a → get_or (corrected_of f q) i z ≡ get_or f i z
    first (Refused x y w) e = ap (λ (g : List ℕ). get_or g i z) (refused-same f q x y w e)
    first Applied e = one_outside f q i z (spared-first any cells_of f q os i h e refl)

pub after_list : (f : List ℕ) (os : List Order) → AfterList f os
after_list f os = record {
  answers = each_exactly os f;
  kept = kept-all os f;
  reads = reads-last f os;
  outside = outside-all os f;
}
