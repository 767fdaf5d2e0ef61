-- The run over the lines of a file from a place on: where nothing is left, a line with its line feed, the last line without one.
use Prim.Native.Nat.{ℕ, suc, ◌+◌, ◌-◌, ◌≤◌, ◌<◌, zero}
use mathlib.Core.Path.{◌≡◌, refl, sym, ap, ◌∙◌}
use mathlib.Core.List.{List, [], ◌∷◌}
use mathlib.Core.Bool.{Bool, true, false, cond}
use native.Mathlib.Omega.{arith}
use lib.ListN.{length, get_or, take, drop, length-drop, drop_of_length-le}
use lib.Seq.{drop-drop, get_or-drop}
use lib.Dec.{eqb, ltb, leb}
use borrow.Author.Tests.{eqb-true, ltb-true, ltb-false, leb-true}
use Rattle.line_bytes.specs.Cells.{first_piece, later_pieces, pieces, line_at}
use Rattle.line_bytes.specs.Inner.Scans.{Stop}
use Rattle.std.specs.Prelude.{Ok, Err}
use Rattle.format.specs.declared.BrokenRule.{BrokenRule}
use Rattle.format.specs.Faults.{Fault, clean, breaks, unless, first_of}
use Rattle.format.specs.LineRules.{line_too_long, line_rules, byte_rules, unended_rules}
use Rattle.format.specs.Places.{Place, stopped, rules_at, end_rules, next_place, step, refused, run}
use Rattle.format.specs.Inner.Faults.{line_fault, unended_fault}
use Rattle.format.specs.Inner.Lines.{lines_from, StartsAt, line_fault_at, line_for, line_of}
use Rattle.format.proofs.RuleLaws.{Going, fault_outcome, last_cut}
use Rattle.format.proofs.FaultLaws.{breaks-clean, then-clean}

-- after a broken rule nothing changes
pub run-stopped : (l n k c : ℕ) (ps : List (List ℕ)) → run l (stopped n k c) ps ≡ refused n k c
unfolding run rules_at end_rules next_place first_of
run-stopped l n k c [] = refl
run-stopped l n k c ([] ∷ []) = refl
run-stopped l n k c ((x ∷ xs) ∷ []) = refl
run-stopped l n k c (x ∷ (y ∷ ys)) = run-stopped (l + 1) n k c (y ∷ ys)

-- ---- the first line, and those after its line feed
pub piece_in : (c : ℕ) (xs : List ℕ) → length (first_piece c xs) ≤ length xs
unfolding first_piece
piece_in c [] = omega arith
piece_in c (x ∷ xs) = go (eqb x c) (piece_in c xs)
  where
    go : (b : Bool) → length (first_piece c xs) ≤ length xs → length (cond b [] (x ∷ first_piece c xs)) ≤ suc (length xs)
    go true h = omega arith
    go false h = omega arith

pub piece-take : (c : ℕ) (xs : List ℕ) → take (length (first_piece c xs)) xs ≡ first_piece c xs
unfolding first_piece
piece-take c [] = refl
piece-take c (x ∷ xs) = go (eqb x c) (piece-take c xs)
  where
    go : (b : Bool) → take (length (first_piece c xs)) xs ≡ first_piece c xs → take (length (cond b [] (x ∷ first_piece c xs))) (x ∷ xs) ≡ cond b [] (x ∷ first_piece c xs)
    go true h = refl
    go false h = rw h

piece-drop : (c : ℕ) (xs : List ℕ) (n : ℕ) → n ≤ length (first_piece c xs) → drop n (first_piece c xs) ≡ first_piece c (drop n xs)
unfolding first_piece
piece-drop c xs zero h = refl
piece-drop c [] (suc n) h = absurd (omega arith)
piece-drop c (x ∷ xs) (suc n) h = go (eqb x c) h (piece-drop c xs n)
  where
    go : (b : Bool) → suc n ≤ length (cond b [] (x ∷ first_piece c xs)) → (n ≤ length (first_piece c xs) → drop n (first_piece c xs) ≡ first_piece c (drop n xs))
        → drop (suc n) (cond b [] (x ∷ first_piece c xs)) ≡ first_piece c (drop n xs)
    go true h f = absurd (omega arith)
    go false h f = f (omega arith)

pieces-feed : (c : ℕ) (xs : List ℕ) → length (first_piece c xs) < length xs
    → (later_pieces c xs ≡ pieces c (drop (suc (length (first_piece c xs))) xs)) × (get_or xs (length (first_piece c xs)) 0 ≡ c)
unfolding first_piece later_pieces
pieces-feed c [] h = absurd (omega arith)
pieces-feed c (x ∷ xs) h = go (eqb x c) refl h (pieces-feed c xs)
  where
    go : (b : Bool) → eqb x c ≡ b → length (cond b [] (x ∷ first_piece c xs)) < suc (length xs)
        → (length (first_piece c xs) < length xs → (later_pieces c xs ≡ pieces c (drop (suc (length (first_piece c xs))) xs)) × (get_or xs (length (first_piece c xs)) 0 ≡ c))
        → (cond b (pieces c xs) (later_pieces c xs) ≡ pieces c (drop (length (cond b [] (x ∷ first_piece c xs))) xs))
        × (get_or (x ∷ xs) (length (cond b [] (x ∷ first_piece c xs))) 0 ≡ c)
    go true e h f = (refl, eqb-true x c e)
    go false e h f = f (omega arith)

pieces_whole : (c : ℕ) (xs : List ℕ) → length xs ≤ length (first_piece c xs) → later_pieces c xs ≡ []
unfolding first_piece later_pieces
pieces_whole c [] h = refl
pieces_whole c (x ∷ xs) h = go (eqb x c) h (pieces_whole c xs)
  where
    go : (b : Bool) → suc (length xs) ≤ length (cond b [] (x ∷ first_piece c xs)) → (length xs ≤ length (first_piece c xs) → later_pieces c xs ≡ [])
        → cond b (pieces c xs) (later_pieces c xs) ≡ []
    go true h f = absurd (omega arith)
    go false h f = f (omega arith)

-- nothing is left
pub lines_end : (s : List ℕ) (i : ℕ) → length s ≤ i → lines_from s i ≡ [] ∷ []
unfolding first_piece later_pieces
lines_end s i h = rw (drop_of_length-le s h)

module _ (s : List ℕ) (i : ℕ) where
  pub lines_more : i + length (line_at s i) < length s → lines_from s i ≡ line_at s i ∷ lines_from s (i + length (line_at s i) + 1)
  lines_more h =
      let f = pieces-feed 10 (drop i s) (rw length-drop (omega arith)) in
      let k : i + suc (length (line_at s i)) ≡ i + length (line_at s i) + 1 = omega arith in
      ap (λ (r : List (List ℕ)). line_at s i ∷ r) (f.0 ∙ rw (drop-drop, k))

  -- what is left of the line
  pub line-later : (k : ℕ) → k ≤ length (line_at s i) → line_at s (i + k) ≡ drop k (line_at s i)
  line-later k h = sym (piece-drop 10 (drop i s) k h ∙ ap (first_piece 10) (drop-drop k i s))

  -- the line feed stands there
  pub line-feed : i + length (line_at s i) < length s → get_or s (i + length (line_at s i)) 0 ≡ 10
  line-feed h = sym (get_or-drop i s (length (line_at s i)) 0) ∙ (pieces-feed 10 (drop i s) (rw length-drop (omega arith))).1

  pub lines_cut : length s ≤ i + length (line_at s i) → lines_from s i ≡ line_at s i ∷ []
  lines_cut h = ap (λ (r : List (List ℕ)). line_at s i ∷ r) (pieces_whole 10 (drop i s) (rw length-drop (omega arith)))

-- a line that has its line feed
pub run-line : (l : ℕ) (p : Place) (s : List ℕ) (i : ℕ) → i + length (line_at s i) < length s
    → run l p (lines_from s i) ≡ run (l + 1) (step l p (line_at s i)) (lines_from s (i + length (line_at s i) + 1))
unfolding run
run-line l p s i h = rw (lines_more s i h)

-- a last line that has none
run_cut : (l : ℕ) (p : Place) (x : List ℕ) → 0 < length x → Going p → run l p (x ∷ []) ≡ fault_outcome l (unended_fault x)
unfolding run
run_cut l p x h g = last_cut l p x h g

-- ---- rules 1 to 5 of a line, as `line_at` gives them
unended_broken : (x : List ℕ) → unended_fault x ≡ clean → ⊥
unfolding unended_fault unended_rules first_of
unended_broken x e = breaks-clean 2 (length x + 1) (then-clean (line_too_long x) _ e).1

-- its line feed stands at q: it keeps them; it breaks b
line_for-ok : (f : Fault) (e q : ℕ) → line_for f e ≡ Ok q → (f ≡ clean) × (q ≡ e)
line_for-ok clean e q h = (refl, cc)
line_for-ok (breaks n c) e q h = absurd cc

line_for-err : (f : Fault) (e : ℕ) (b : BrokenRule) → line_for f e ≡ Err b → f ≡ breaks b.number b.column
line_for-err clean e b h = absurd cc
line_for-err (breaks n c) e b h = let k : record { number = n; column = c } ≡ b = cc in rw (← k)

module _ (control : Bool) (s : List ℕ) (i : ℕ) where
  pub line_ok : (q : ℕ) → line_of control s i ≡ Ok q → line_fault_at control s i ≡ clean
  unfolding line_of
  line_ok q z = (line_for-ok (line_fault_at control s i) _ q z).0

  pub line_clean : (q : ℕ) → line_of control s i ≡ Ok q
      → (line_fault control (line_at s i) ≡ clean) × (i + length (line_at s i) < length s) × (q ≡ i + length (line_at s i)) × (get_or s q 0 ≡ 10)
  unfolding line_of line_fault_at
  line_clean q h = go (ltb (i + length (line_at s i)) (length s)) refl (line_for-ok (line_fault_at control s i) _ q h)
    where
      go : (b : Bool) → ltb (i + length (line_at s i)) (length s) ≡ b
          → (cond b (line_fault control (line_at s i)) (unended_fault (line_at s i)) ≡ clean) × (q ≡ i + length (line_at s i))
          → (line_fault control (line_at s i) ≡ clean) × (i + length (line_at s i) < length s) × (q ≡ i + length (line_at s i)) × (get_or s q 0 ≡ 10)
      go true e (f, d) = let k = ltb-true _ _ e in (f, k, d, rw d (line-feed s i k))
      go false e (f, d) = absurd (unended_broken (line_at s i) f)

  pub line_err : (b : BrokenRule) → line_of control s i ≡ Err b → line_fault_at control s i ≡ breaks b.number b.column
  unfolding line_of
  line_err b z = line_for-err (line_fault_at control s i) _ b z

  -- a broken rule: the run from this line on is refused there
  pub line_broken-here : (b : BrokenRule) (l : ℕ) (p : Place) → i < length s → line_of control s i ≡ Err b
      → ((n c : ℕ) → line_fault control (line_at s i) ≡ breaks n c → step l p (line_at s i) ≡ stopped n l c)
      → Going p
      → run l p (lines_from s i) ≡ refused b.number l b.column
  unfolding line_fault_at
  line_broken-here b l p h z f g = go (ltb (i + length (line_at s i)) (length s)) refl (line_err b z)
    where
      go : (a : Bool) → ltb (i + length (line_at s i)) (length s) ≡ a
          → cond a (line_fault control (line_at s i)) (unended_fault (line_at s i)) ≡ breaks b.number b.column
          → run l p (lines_from s i) ≡ refused b.number l b.column
      go true e k =
          run-line l p s i (ltb-true _ _ e)
          ∙ rw (f b.number b.column k, run-stopped (l + 1) b.number l b.column (lines_from s (i + length (line_at s i) + 1)))
      go false e k =
          let m = ltb-false _ _ e in
          rw (lines_cut s i m) (run_cut l p (line_at s i) (omega arith) g ∙ rw k)

pub line_broken : (b : BrokenRule) (l : ℕ) (p : Place) (s : List ℕ) (i : ℕ) (control : Bool) → i < length s → line_of control s i ≡ Err b
    → ((x : List ℕ) (n c : ℕ) → line_fault control x ≡ breaks n c → step l p x ≡ stopped n l c)
    → Going p
    → run l p (lines_from s i) ≡ refused b.number l b.column
line_broken b l p s i control h z f g = line_broken-here control s i b l p h z (f (line_at s i)) g

-- the line after line l is line l + 1
pub starts-next : (s : List ℕ) (l i : ℕ) → 1 ≤ l → StartsAt s l i → i + length (line_at s i) < length s → StartsAt s (l + 1) (i + length (line_at s i) + 1)
starts-next s l i o e h =
    let n : l - 1 + 1 ≡ l + 1 - 1 = omega arith in
    sym (ap (λ (ps : List (List ℕ)). drop 1 ps) (sym e ∙ lines_more s i h)) ∙ drop-drop 1 (l - 1) (pieces 10 s) ∙ ap (λ (k : ℕ). drop k (pieces 10 s)) n

-- ---- a line that keeps rules 1 to 5: its line feed stands at q
module _ (control : Bool) (s : List ℕ) (i q : ℕ) (z : line_of control s i ≡ Ok q) where
  pub line_rules_lem : line_fault control (line_at s i) ≡ clean
  line_rules_lem = (line_clean control s i q z).0

  pub line-ends : (q ≡ i + length (line_at s i)) × (q < length s)
  line-ends = let w = line_clean control s i q z in (w.2, omega (arith, w.1, w.2))

  pub line-stops : Stop 44 s i q
  line-stops =
      let w = line_clean control s i q z in
      let d = line-ends in
      record { inside = omega (arith, d.0); room = d.1; feed = w.3; parts = refl }

  pub run_on : (l : ℕ) (p t : Place) → step l p (line_at s i) ≡ t → run l p (lines_from s i) ≡ run (l + 1) t (lines_from s (q + 1))
  run_on l p t f =
      let d = line-ends in
      run-line l p s i (omega (arith, d.0, d.1)) ∙ ap (λ (x : Place). run (l + 1) x (lines_from s (i + length (line_at s i) + 1))) f
      ∙ ap (λ (j : ℕ). run (l + 1) t (lines_from s (j + 1))) (sym d.0)

  pub starts-on : (l : ℕ) → 1 ≤ l → StartsAt s l i → StartsAt s (l + 1) (q + 1)
  starts-on l k f =
      let d = line-ends in
      rw d.0 (starts-next s l i k f (omega (arith, d.0, d.1)))

-- and so where no rule is broken
pub line-whole : (control : Bool) (s : List ℕ) (i : ℕ) → line_fault_at control s i ≡ clean → line_of control s i ≡ Ok (i + length (line_at s i))
unfolding line_of
line-whole control s i e = rw e

-- a line that keeps them is short
pub line-short : (control : Bool) (x : List ℕ) → line_fault control x ≡ clean → length x ≤ 8192
unfolding line_fault line_rules byte_rules first_of
line-short control x e = go (leb (length x) 8192) refl (then-clean (line_too_long x) _ e).0
  where
    go : (b : Bool) → leb (length x) 8192 ≡ b → unless b 1 8193 ≡ clean → length x ≤ 8192
    go true h k = leb-true (length x) 8192 h
    go false h k = absurd (breaks-clean 1 8193 k)
