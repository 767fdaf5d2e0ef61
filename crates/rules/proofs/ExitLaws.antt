-- What was read of a line, by the call that hands its broken rule on as a refusal.
use Prim.Native.Nat.{ℕ, ◌+◌, ◌≤◌, ◌<◌}
use mathlib.Core.Path.{◌≡◌, refl, sym, ap, subst, ◌∙◌}
use mathlib.Core.List.{List}
use mathlib.Core.Bool.{Bool}
use native.Mathlib.Omega.{arith}
use lib.ListN.{length}
use Rattle.line_bytes.specs.Cells.{line_at}
use Rattle.format.specs.Faults.{clean}
use Rattle.format.specs.Places.{Place, step, run}
use Rattle.format.specs.Inner.Faults.{line_fault}
use Rattle.format.specs.Inner.Lines.{lines_from, StartsAt, line_of}
use Rattle.format.proofs.RunLaws.{line-ends, starts-on, line_rules_lem, run_on}
use Rattle.std.specs.Prelude.{Result, Ok, Err}
use Rattle.std.specs.Result.{IsErrAnd}
use Rattle.format.specs.declared.BrokenRule.{BrokenRule}
use Rattle.format.specs.declared.Refusal.{Refusal}
use Rattle.rules.specs.declared.free.LineStart.{LineStart}
use Rattle.rules.specs.Inner.Free.{on_line, after_line}

-- it goes on with x; it ends, and o returns
pub goes-on : {A : Type 0} (r : Result A BrokenRule) (q : Result A Refusal) (l : ℕ) (x : A) → q ≡ on_line r l → q ≡ Ok x → r ≡ Ok x
goes-on {A} (Ok y) q l x h z = let k : ◌≡◌ {A = Result A Refusal} (Ok y) (Ok x) = sym h ∙ z in let m : y ≡ x = cc in ap Ok m
goes-on (Err b) q l x h z = absurd cc

-- what returns where a call is refused: its refusal
pub exit : {B E : Type 0} (o : Result B E) (e : E) → IsErrAnd o (λ f. f ≡ e) → o ≡ Err e
exit (Ok y) e w = absurd w
exit (Err f) e w = ap Err w

pub ends : {A B : Type 0} (r : Result A BrokenRule) (q : Result A Refusal) (o : Result B Refusal) (l : ℕ) (e : Refusal) → q ≡ on_line r l → q ≡ Err e
    → IsErrAnd o (λ f. f ≡ e) → (b : BrokenRule) × (r ≡ Err b) × (o ≡ Err (record { number = b.number; line = l; column = b.column }))
ends (Ok y) q o l e h z w = absurd cc
ends (Err b) q o l e h z w = let k : e ≡ record { number = b.number; line = l; column = b.column } = cc in (b, refl, exit o e w ∙ ap Err k)

-- the line after one that was read, or its refusal
after-goes : (r : Result ℕ BrokenRule) (l : ℕ) (n : LineStart) → after_line r l ≡ Ok n → (q : ℕ) × (r ≡ Ok q) × (record { at = q + 1; line = l + 1 } ≡ n)
after-goes (Ok q) l n h = (q, refl, cc)
after-goes (Err b) l n h = absurd cc

pub after-ends : (r : Result ℕ BrokenRule) (l : ℕ) (e : Refusal) → after_line r l ≡ Err e
    → (b : BrokenRule) × (r ≡ Err b) × (e ≡ record { number = b.number; line = l; column = b.column })
after-ends (Ok q) l e h = absurd cc
after-ends (Err b) l e h = let k : record { number = b.number; line = l; column = b.column } ≡ e = cc in (b, refl, sym k)

-- the line l that starts at i keeps its rules, and r is the next
pub record Next (control : Bool) (s : List ℕ) (i l : ℕ) (r : LineStart) : Type 0 where
  pub inside : (i < r.at) × (r.at ≤ length s)
  pub counted : r.line ≡ l + 1
  pub starts : 1 ≤ l → StartsAt s l i → StartsAt s r.line r.at
  pub rules : line_fault control (line_at s i) ≡ clean
  pub room : i + length (line_at s i) < length s
  pub on : (p t : Place) → step l p (line_at s i) ≡ t → run l p (lines_from s i) ≡ run r.line t (lines_from s r.at)

pub next-read : (control : Bool) (s : List ℕ) (i l : ℕ) (r : LineStart) → after_line (line_of control s i) l ≡ Ok r → Next control s i l r
next-read control s i l r h = let w = after-goes (line_of control s i) l r h in subst (Next control s i l) w.2 (at_feed w.0 w.1)
  where
    at_feed : (q : ℕ) → line_of control s i ≡ Ok q → Next control s i l (record { at = q + 1; line = l + 1 })
    at_feed q z =
        let d = line-ends control s i q z in
        record {
          inside = (omega (arith, d.0), omega (arith, d.1));
          counted = refl;
          starts = λ o y. starts-on control s i q z l o y;
          rules = line_rules_lem control s i q z;
          room = omega (arith, d.0, d.1);
          on = λ p t e. run_on control s i q z l p t e;
        }
