-- Line 1 in the check of a file: refused there, or the run goes on after it.
use Prim.Native.Nat.{ℕ, ◌+◌, ◌≤◌, ◌<◌}
use mathlib.Core.Path.{◌≡◌, refl, sym, ap, ◌∙◌}
use mathlib.Core.List.{List, [], ◌∷◌}
use mathlib.Core.Bool.{Bool, true, false, cond}
use native.Mathlib.Omega.{arith}
use lib.ListN.{length}
use lib.Dec.{eqb}
use borrow.Author.Tests.{eqb-true, eqb-false}
use Rattle.line_bytes.specs.Cells.{first_piece, later_pieces, line_at}
use Rattle.line_one.specs.declared.First.{First}
use Rattle.std.specs.Prelude.{Ok, Err}
use Rattle.format.specs.declared.BrokenRule.{BrokenRule}
use Rattle.format.specs.declared.FileKind.TheVariants.{Bottle, Ctd}
use Rattle.format.specs.Answers.{kind_by}
use Rattle.line_one.specs.Inner.First.{first_fault, first_for}
use Rattle.line_one.proofs.FirstLaws.{first-none, first_some, first-breaks, first-clean, first_full, first_next}
use Rattle.format.specs.Faults.{clean, breaks, first_of}
use Rattle.format.specs.Columns.{Sort, bottle, ctd}
use Rattle.format.specs.Places.{first, comments, is_bottle, first_line_rules, last_piece_rules, end_rules, refused, run, outcome_of}
use Rattle.format.specs.Inner.Lines.{lines_from, StartsAt, line_fault_at}
use Rattle.format.proofs.FaultLaws.{then-clean}
use Rattle.format.proofs.RuleLaws.{first_step}
use Rattle.format.proofs.RunLaws.{line_clean, line-whole, starts-next}
use Rattle.rules.proofs.LineRunLaws.{run-clean, run_broken}

-- what line 1 says of the check
pub record FirstRead (s : List ℕ) (r : First) : Type 0 where
  pub sort : Sort
  pub kind : r.kind ≡ kind_by sort
  pub inside : r.at ≤ length s
  pub on : outcome_of s ≡ run 2 (comments sort) (lines_from s r.at)
  pub counted : StartsAt s 2 r.at

outcome-none : (s : List ℕ) → length s ≡ 0 → outcome_of s ≡ refused 14 1 1
unfolding outcome_of run end_rules last_piece_rules first_of first_piece later_pieces
outcome-none [] h = refl
outcome-none (x ∷ s) h = absurd (omega arith)

outcome_broken : (s : List ℕ) (n c : ℕ) → first_fault s ≡ breaks n c → outcome_of s ≡ refused n 1 c
unfolding outcome_of
outcome_broken s n c e = go (eqb (length s) 0) refl
  where
    same : (m d : ℕ) → breaks m d ≡ breaks n c → refused m 1 d ≡ refused n 1 c
    same m d p = cc

    go : (b : Bool) → eqb (length s) 0 ≡ b → outcome_of s ≡ refused n 1 c
    go true p = let z = eqb-true (length s) 0 p in outcome-none s z ∙ same 14 1 (sym (first-none s z) ∙ e)
    go false p =
        let z = eqb-false (length s) 0 p in
        run_broken 1 first s 0 (omega (arith, z)) (first_of (first_line_rules (line_at s 0))) _ (first_step 1 (line_at s 0)) tt n c (sym (first_some s z) ∙ e)

pub first-refused : (s : List ℕ) (b : BrokenRule) → first_for s ≡ Err b → outcome_of s ≡ refused b.number 1 b.column
first-refused s b e = outcome_broken s b.number b.column (first-breaks s b e)

kind_said_is : (b : Bool) → cond b Bottle Ctd ≡ kind_by (cond b bottle ctd)
kind_said_is true = refl
kind_said_is false = refl

pub first_read : (s : List ℕ) (r : First) → first_for s ≡ Ok r → FirstRead s r
unfolding outcome_of
first_read s r e = record {
  sort = cond (is_bottle (line_at s 0)) bottle ctd;
  kind = (first_next s r e).1 ∙ kind_said_is (is_bottle (line_at s 0));
  inside = omega (arith, next, fed);
  on =
      run-clean 1 first s 0 (omega (arith, fed)) (first_of (first_line_rules (line_at s 0))) _ (first_step 1 (line_at s 0)) tt (sym (first_some s full) ∙ first-clean s r e)
      ∙ ap (λ (j : ℕ). run 2 (comments (cond (is_bottle (line_at s 0)) bottle ctd)) (lines_from s j)) (sym next);
  counted = rw next (starts-next s 1 0 (omega arith) refl fed);
}
  where
    full : length s ≡ 0 → ⊥
    full = first_full s r e

    rules : (line_fault_at true s 0 ≡ clean) × (first_of (first_line_rules (line_at s 0)) ≡ clean)
    rules = then-clean (line_fault_at true s 0) (first_of (first_line_rules (line_at s 0))) (sym (first_some s full) ∙ first-clean s r e)

    fed : 0 + length (line_at s 0) < length s
    fed = (line_clean true s 0 _ (line-whole true s 0 rules.0)).1

    next : r.at ≡ 0 + length (line_at s 0) + 1
    next = (first_next s r e).0 ∙ omega arith
