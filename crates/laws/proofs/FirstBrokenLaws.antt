-- The check refuses with the first broken rule of the file, and accepts where none is broken.
use Prim.Native.Nat.{ℕ, zero, suc, ◌+◌, ◌-◌, ◌≤◌, ◌<◌}
use mathlib.Core.Path.{◌≡◌, refl, sym, ap, subst, ◌∙◌}
use mathlib.Core.List.{List, [], ◌∷◌}
use mathlib.Core.Bool.{Bool, true, false, cond}
use native.Mathlib.Nat.{add-zero}
use native.Mathlib.Omega.{arith}
use lib.ListN.{length, get_or, take}
use lib.Dec.{leb, ltb}
use borrow.Author.Tests.{lt-ltb, le-ltb, ltb-true, ltb-false}
use Rattle.line_bytes.specs.Cells.{pieces}
use Rattle.format.specs.Faults.{Fault, clean, breaks, ◌then◌, first_of, unless}
use Rattle.format.specs.LineRules.{unended_rules}
use Rattle.format.specs.Headers.{Header, header_of, headers_said}
use Rattle.format.specs.Columns.{Sort, bottle, ctd}
use Rattle.format.specs.Rows.{is_end_data}
use Rattle.format.specs.Places.{Table, Place, first, comments, headers, names, units, rows, after, stopped, is_comment, rules_at, last_piece_rules, end_rules, due_headers, after_top, next_place, stop_at, Outcome, accepted, refused, outcome_at, last, run, outcome_of}
use Rattle.format.specs.declared.FileKind.TheVariants.{Unknown}
use Rattle.format.specs.declared.Checked.{Checked}
use Rattle.format.specs.Answers.{kind_by, checked_by, checked_of}
use Rattle.laws.specs.RuleOrder.{walk, lines_in, place_before, rules_of}
use Rattle.laws.specs.Promises.{Kept, Broken, FirstBroken, AllKept, ChecksFirst}
use Rattle.format.proofs.RuleLaws.{Going, cut_rules}
use Rattle.format.proofs.RunLaws.{run-stopped}
use Rattle.laws.proofs.RuleOrderLaws.{first-kept, kept-first, first_broken, broken-first}
use Rattle.format.proofs.NumberLaws.{Numbered, number_range}
use Rattle.laws.proofs.RuleNumberLaws.{number_of_lem}

-- ---- a place that is no refusal leads to another
due_going : (due : ℕ) (hs : List Header) → Going (due_headers due hs)
due_going zero hs = tt
due_going (suc due) hs = tt

next_going : (l : ℕ) (p : Place) (x : List ℕ) → Going p → Going (next_place l p x)
unfolding next_place
next_going l first x g = tt
next_going l (comments s) x g = go (is_comment x) s
  where
    go : (b : Bool) (s : Sort) → Going (cond b (comments s) (after_top s x))
    go true s = tt
    go false bottle = tt
    go false ctd = due_going (headers_said x - 1) (header_of x ∷ [])
next_going l (headers due hs) x g = due_going (due - 1) _
next_going l (names s hs) x g = tt
next_going l (units s hs ns) x g = tt
next_going l (rows t n) x g = go (is_end_data x)
  where
    go : (b : Bool) → Going (cond b (after t n) (rows t (n + 1)))
    go true = tt
    go false = tt
next_going l (after t n) x g = tt
next_going l (stopped a b c) x g = g

-- ---- the rules of the line that comes j lines after line l, which stands at a place
rules_from : ℕ → Place → List (List ℕ) → ℕ → List Fault
rules_from l p [] j = []
rules_from l p (x ∷ []) zero = end_rules p x
rules_from l p (x ∷ []) (suc j) = []
rules_from l p (x ∷ (y ∷ ys)) zero = rules_at p x
rules_from l p (x ∷ (y ∷ ys)) (suc j) = rules_from (l + 1) (next_place l p x) (y ∷ ys) j

rules_from_lem : (ps : List (List ℕ)) (l : ℕ) (p : Place) (j : ℕ) → j < length ps
    → cond (ltb (suc j) (length ps)) (rules_at (walk l p (take j ps)) (get_or ps j [])) (end_rules (walk l p (take j ps)) (get_or ps j [])) ≡ rules_from l p ps j
unfolding rules_from walk
rules_from_lem [] l p j h = absurd (omega arith)
rules_from_lem (x ∷ []) l p zero h = refl
rules_from_lem (x ∷ []) l p (suc j) h = absurd (omega arith)
rules_from_lem (x ∷ (y ∷ ys)) l p zero h = rw (lt-ltb 1 (suc (suc (length ys))) (omega arith))
rules_from_lem (x ∷ (y ∷ ys)) l p (suc j) h = go (ltb (suc j) (suc (length ys))) refl (rules_from_lem (y ∷ ys) (l + 1) (next_place l p x) j (omega arith))
  where
    a : List Fault
    a = rules_at (walk (l + 1) (next_place l p x) (take j (y ∷ ys))) (get_or (y ∷ ys) j [])

    b : List Fault
    b = end_rules (walk (l + 1) (next_place l p x) (take j (y ∷ ys))) (get_or (y ∷ ys) j [])

    go : (z : Bool) → ltb (suc j) (suc (length ys)) ≡ z → cond z a b ≡ rules_from (l + 1) (next_place l p x) (y ∷ ys) j
        → cond (ltb (suc (suc j)) (suc (suc (length ys)))) a b ≡ rules_from (l + 1) (next_place l p x) (y ∷ ys) j
    go true q e = rw (lt-ltb (suc (suc j)) (suc (suc (length ys))) (omega (arith, ltb-true (suc j) (suc (length ys)) q))) e
    go false q e = rw (le-ltb (suc (suc j)) (suc (suc (length ys))) (omega (arith, ltb-false (suc j) (suc (length ys)) q))) e

rules_of_lem : (f : List ℕ) (j : ℕ) → j < lines_in f → rules_of f (suc j) ≡ rules_from 1 first (pieces 10 f) j
unfolding rules_of place_before
rules_of_lem f j h =
    let w : suc j - 1 ≡ j = omega arith in
    rw w (rules_from_lem (pieces 10 f) 1 first j h)

-- ---- what a run says of the lines from line l at a place
record Stops (l : ℕ) (p : Place) (ps : List (List ℕ)) (n k c : ℕ) : Type 0 where
  at : ℕ
  line : k ≡ l + at
  inside : at < length ps
  earlier : (j : ℕ) → j < at → first_of (rules_from l p ps j) ≡ clean
  here : first_of (rules_from l p ps at) ≡ breaks n c

record Ends (l : ℕ) (p : Place) (ps : List (List ℕ)) (t : Table) (n : ℕ) : Type 0 where
  kept : (j : ℕ) → j < length ps → first_of (rules_from l p ps j) ≡ clean
  place : walk l p (take (length ps - 1) ps) ≡ after t n

abbrev Ran : ℕ → Place → List (List ℕ) → Outcome → Type 0
Ran l p ps (accepted t n) = Ends l p ps t n
Ran l p ps (refused n k c) = Stops l p ps n k c

-- the last line, which is cut short or not there
module _ (l : ℕ) (p : Place) (x : List ℕ) where
  last-stops : (n c : ℕ) → first_of (end_rules p x) ≡ breaks n c → Stops l p (x ∷ []) n l c
  unfolding rules_from
  last-stops n c e = record { at = 0; line = sym (add-zero l); inside = omega arith; earlier = λ j h. absurd (omega arith); here = e }

ran-end : (l : ℕ) (p : Place) → Going p → Ran l p ([] ∷ []) (last l p [])
unfolding end_rules last_piece_rules rules_from first_of walk
ran-end l first g = last-stops l first [] 14 1 refl
ran-end l (comments s) g = last-stops l (comments s) [] 14 1 refl
ran-end l (headers due hs) g = last-stops l (headers due hs) [] 14 1 refl
ran-end l (names s hs) g = last-stops l (names s hs) [] 14 1 refl
ran-end l (units s hs ns) g = last-stops l (units s hs ns) [] 14 1 refl
ran-end l (rows t n) g = last-stops l (rows t n) [] 14 1 refl
ran-end l (after t n) g = record { kept = λ j h. one j h; place = refl }
  where
    one : (j : ℕ) → j < 1 → first_of (rules_from l (after t n) ([] ∷ []) j) ≡ clean
    one zero h = refl
    one (suc j) h = absurd (omega arith)
ran-end l (stopped a b c) g = absurd g

ran_cut : (l : ℕ) (p : Place) (x : ℕ) (xs : List ℕ) → Going p → Ran l p ((x ∷ xs) ∷ []) (last l p (x ∷ xs))
unfolding unended_rules first_of
ran_cut l p x xs g = subst (λ (rs : List Fault). Ran l p ((x ∷ xs) ∷ []) (outcome_at (stop_at l (first_of rs) p))) (sym e) (go (leb (length (x ∷ xs)) 8192) refl)
  where
    e : end_rules p (x ∷ xs) ≡ unended_rules (x ∷ xs)
    e = cut_rules p x xs g

    go : (b : Bool) → leb (length (x ∷ xs)) 8192 ≡ b → Ran l p ((x ∷ xs) ∷ []) (outcome_at (stop_at l (unless b 1 8193 then breaks 2 (length (x ∷ xs) + 1)) p))
    go true q = last-stops l p (x ∷ xs) 2 (length (x ∷ xs) + 1) (ap first_of e ∙ rw q)
    go false q = last-stops l p (x ∷ xs) 1 8193 (ap first_of e ∙ rw q)

-- a line that breaks a rule, or keeps them
line-stops : (l : ℕ) (p : Place) (x y : List ℕ) (ys : List (List ℕ)) (n c : ℕ) → first_of (rules_at p x) ≡ breaks n c → Stops l p (x ∷ (y ∷ ys)) n l c
unfolding rules_from
line-stops l p x y ys n c e = record { at = 0; line = sym (add-zero l); inside = omega arith; earlier = λ j h. absurd (omega arith); here = e }

ran_on : (l : ℕ) (p : Place) (x y : List ℕ) (ys : List (List ℕ)) → first_of (rules_at p x) ≡ clean → (o : Outcome) → Ran (l + 1) (next_place l p x) (y ∷ ys) o → Ran l p (x ∷ (y ∷ ys)) o
unfolding rules_from walk
ran_on l p x y ys e (accepted t n) r = record { kept = one; place = place_is }
  where
    one : (j : ℕ) → j < length (x ∷ (y ∷ ys)) → first_of (rules_from l p (x ∷ (y ∷ ys)) j) ≡ clean
    one zero h = e
    one (suc j) h = r.kept j (omega arith)

    place_is : walk l p (take (length (x ∷ (y ∷ ys)) - 1) (x ∷ (y ∷ ys))) ≡ after t n
    place_is =
        let w : length (x ∷ (y ∷ ys)) - 1 ≡ suc (length (y ∷ ys) - 1) = omega arith in
        ap (λ (k : ℕ). walk l p (take k (x ∷ (y ∷ ys)))) w ∙ r.place
ran_on l p x y ys e (refused n k c) r = record { at = suc r.at; line = omega (arith, r.line); inside = omega (arith, r.inside); earlier = one; here = r.here }
  where
    one : (j : ℕ) → j < suc r.at → first_of (rules_from l p (x ∷ (y ∷ ys)) j) ≡ clean
    one zero h = e
    one (suc j) h = r.earlier j (omega arith)

ran : (ps : List (List ℕ)) (l : ℕ) (p : Place) → 0 < length ps → Going p → Ran l p ps (run l p ps)
unfolding run
ran [] l p h g = absurd (omega arith)
ran ([] ∷ []) l p h g = ran-end l p g
ran ((x ∷ xs) ∷ []) l p h g = ran_cut l p x xs g
ran (x ∷ (y ∷ ys)) l p h g =
    go (first_of (rules_at p x)) refl (ran (y ∷ ys) (l + 1) (next_place l p x) (omega arith) (next_going l p x g))
  where
    go : (r : Fault) → first_of (rules_at p x) ≡ r → Ran (l + 1) (next_place l p x) (y ∷ ys) (run (l + 1) (next_place l p x) (y ∷ ys))
        → Ran l p (x ∷ (y ∷ ys)) (run (l + 1) (stop_at l r (next_place l p x)) (y ∷ ys))
    go clean e ih = ran_on l p x y ys e (run (l + 1) (next_place l p x) (y ∷ ys)) ih
    go (breaks n c) e ih = subst (Ran l p (x ∷ (y ∷ ys))) (sym (run-stopped (l + 1) n l c (y ∷ ys))) (line-stops l p x y ys n c e)

-- ---- the check
module _ (f : List ℕ) where
  line_rules_lem : (l : ℕ) → 1 ≤ l → l ≤ lines_in f → rules_of f l ≡ rules_from 1 first (pieces 10 f) (l - 1)
  line_rules_lem l a b =
      let w : l ≡ suc (l - 1) = omega arith in
      ap (rules_of f) w ∙ rules_of_lem f (l - 1) (omega arith)

  refuses-first : (n l c : ℕ) → outcome_of f ≡ refused n l c → FirstBroken f n l c
  unfolding outcome_of
  refuses-first n l c e =
      let s = subst (Ran 1 first (pieces 10 f)) e (ran (pieces 10 f) 1 first (omega arith) tt) in
      let low : 1 ≤ l = omega (arith, s.line) in
      let high : l ≤ lines_in f = omega (arith, s.line, s.inside) in
      let w : l - 1 ≡ s.at = omega (arith, s.line) in
      record {
        low = low;
        high = high;
        earlier = λ k a b. kept-first (rules_of f k) (ap first_of (line_rules_lem k a (omega arith)) ∙ s.earlier (k - 1) (omega (arith, w)));
        here = broken-first (rules_of f l) n c (ap first_of (line_rules_lem l low high ∙ ap (rules_from 1 first (pieces 10 f)) w) ∙ s.here);
      }

  module _ (t : Table) (n : ℕ) (e : outcome_of f ≡ accepted t n) where
    ends-all : Ends 1 first (pieces 10 f) t n
    unfolding outcome_of
    ends-all = subst (Ran 1 first (pieces 10 f)) e (ran (pieces 10 f) 1 first (omega arith) tt)

    accepts-all : AllKept f
    accepts-all l a b = kept-first (rules_of f l) (ap first_of (line_rules_lem l a b) ∙ ends-all.kept (l - 1) (omega arith))

    accepts-place : place_before f (lines_in f) ≡ after t n
    unfolding place_before
    accepts-place = ends-all.place

  -- a line cannot keep its rules and break one
  kept_broken : (l n c : ℕ) → Kept (rules_of f l) → Broken (rules_of f l) n c → ⊥
  kept_broken l n c k b =
      let e : clean ≡ breaks n c = sym (first-kept (rules_of f l) k) ∙ first_broken (rules_of f l) n c b in
      let z : ◌≡◌ {A = ℕ} 0 1 = cc in
      omega arith

  -- two first broken rules are one
  first-same : (n l c m k d : ℕ) → FirstBroken f n l c → FirstBroken f m k d → refused n l c ≡ refused m k d
  first-same n l c m k d a b = go (ltb l k) (ltb k l) refl refl
    where
      same : l ≡ k → refused n l c ≡ refused m k d
      same q =
          let e : breaks n c ≡ breaks m d = sym (first_broken (rules_of f l) n c a.here) ∙ ap (λ (x : ℕ). first_of (rules_of f x)) q ∙ first_broken (rules_of f k) m d b.here in
          let p : n ≡ m = cc in
          let r : c ≡ d = cc in
          rw (p, q, r)

      go : (x y : Bool) → ltb l k ≡ x → ltb k l ≡ y → refused n l c ≡ refused m k d
      go true y p q = absurd (kept_broken l n c (b.earlier l a.low (ltb-true l k p)) a.here)
      go false true p q = absurd (kept_broken k m d (a.earlier k b.low (ltb-true k l q)) b.here)
      go false false p q = same (omega (arith, ltb-false l k p, ltb-false k l q))

  first-refuses : (n l c : ℕ) → FirstBroken f n l c → outcome_of f ≡ refused n l c
  first-refuses n l c b = by (outcome_of f) refl
    where
      by : (o : Outcome) → outcome_of f ≡ o → o ≡ refused n l c
      by (accepted t m) e = absurd (kept_broken l n c (accepts-all t m e l b.low b.high) b.here)
      by (refused m k d) e = first-same m k d n l c (refuses-first m k d e) b

  first-number : (n l c : ℕ) → FirstBroken f n l c → (1 ≤ n) × (n ≤ 20)
  first-number n l c b = number_range n c (subst Numbered (first_broken (rules_of f l) n c b.here) (number_of_lem f l))

  refusal-shown : ((checked_of f).number ≡ 0 → ⊥) → FirstBroken f (checked_of f).number (checked_of f).line (checked_of f).column
  unfolding checked_of
  refusal-shown h = by (outcome_of f) refl h
    where
      by : (o : Outcome) → outcome_of f ≡ o → ((checked_by f o).number ≡ 0 → ⊥) → FirstBroken f (checked_by f o).number (checked_by f o).line (checked_by f o).column
      by (accepted t n) e h = absurd (h refl)
      by (refused n l c) e h = refuses-first n l c e

  number-kept : (checked_of f).number ≡ 0 → AllKept f
  unfolding checked_of
  number-kept h = by (outcome_of f) refl h
    where
      by : (o : Outcome) → outcome_of f ≡ o → (checked_by f o).number ≡ 0 → AllKept f
      by (accepted t n) e h = accepts-all t n e
      by (refused n l c) e h = absurd (omega (arith, (first-number n l c (refuses-first n l c e)).0, h))

  kept-number : AllKept f → (checked_of f).number ≡ 0
  unfolding checked_of
  kept-number k = by (outcome_of f) refl
    where
      by : (o : Outcome) → outcome_of f ≡ o → (checked_by f o).number ≡ 0
      by (accepted t n) e = refl
      by (refused n l c) e = let b = refuses-first n l c e in absurd (kept_broken l n c (k l b.low b.high) b.here)

  -- the answer of a refused file is no accepted one's: its kind is none
  no_kind : (s : Sort) → kind_by s ≡ Unknown → ⊥
  no_kind bottle e =
      let z : ◌≡◌ {A = ℕ} 0 1 = cc in
      omega arith
  no_kind ctd e =
      let z : ◌≡◌ {A = ℕ} 0 1 = cc in
      omega arith

  answer-first : (n l c : ℕ) → checked_of f ≡ checked_by f (refused n l c) → FirstBroken f n l c
  unfolding checked_of
  answer-first n l c h = by (outcome_of f) refl h
    where
      by : (o : Outcome) → outcome_of f ≡ o → checked_by f o ≡ checked_by f (refused n l c) → FirstBroken f n l c
      by (accepted t m) e h = absurd (no_kind t.sort (ap (λ (x : Checked). x.kind) h))
      by (refused m k d) e h =
          let a : m ≡ n = ap (λ (x : Checked). x.number) h in
          let b : k ≡ l = ap (λ (x : Checked). x.line) h in
          let g : d ≡ c = ap (λ (x : Checked). x.column) h in
          refuses-first n l c (e ∙ rw (a, b, g))

  first-answer : (n l c : ℕ) → FirstBroken f n l c → checked_of f ≡ checked_by f (refused n l c)
  unfolding checked_of
  first-answer n l c b = ap (checked_by f) (first-refuses n l c b)

  kept-accepts : AllKept f → (t : Table) × (n : ℕ) × (outcome_of f ≡ accepted t n)
  kept-accepts k = by (outcome_of f) refl
    where
      by : (o : Outcome) → outcome_of f ≡ o → (t : Table) × (n : ℕ) × (outcome_of f ≡ accepted t n)
      by (accepted t n) e = (t, n, e)
      by (refused n l c) e = let b = refuses-first n l c e in absurd (kept_broken l n c (k l b.low b.high) b.here)

pub checks-first : ChecksFirst
checks-first = record {
  refuses = λ f n l c. (refuses-first f n l c, first-refuses f n l c);
  answers = λ f n l c. (answer-first f n l c, first-answer f n l c);
  shown = refusal-shown;
  numbers = first-number;
  accepts = λ f. (λ x. accepts-all f x.0 x.1 x.2, kept-accepts f);
  passes = λ f. (number-kept f, kept-number f);
  table = accepts-place;
}
