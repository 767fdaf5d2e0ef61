-- The lines that rules 1 to 4 alone bind: one law for each end of the code's walk.
use Prim.Native.Nat.{ℕ, ◌<◌}
use mathlib.Core.Path.{◌≡◌, refl, ◌∙◌}
use mathlib.Core.List.{List}
use mathlib.Core.Bool.{true, false}
use lib.ListN.{length, get_or}
use native.Mathlib.Omega.{arith}
use borrow.Author.Tests.{ne_eqb}
use Rattle.std.specs.Prelude.{Err}
use Rattle.line_bytes.specs.Bytes.{equal}
use Rattle.line_bytes.specs.Cells.{line_at}
use Rattle.line_bytes.proofs.CellLaws.{line_in_lem}
use Rattle.format.specs.declared.BrokenRule.{BrokenRule}
use Rattle.format.specs.Faults.{breaks}
use Rattle.format.specs.Places.{Place, is_comment, stop_at, step, refused, run}
use Rattle.format.specs.Inner.Faults.{line_fault}
use Rattle.format.specs.Inner.Lines.{lines_from, line_of}
use Rattle.rules.specs.declared.free.FreeLines.{FreeLines}
use Rattle.rules.specs.declared.free.FreeLines.TheVariants.{Comments}
use Rattle.rules.specs.declared.free.LineStart.{LineStart}
use Rattle.rules.proofs.ExitLaws.{Next}
use Rattle.rules.specs.Inner.Free.{FreePlace, commented, ended}
use Rattle.format.proofs.RuleLaws.{comment-step, after-step, Going}
use Rattle.format.proofs.RunLaws.{line_broken-here}

comment-line : (s : List ℕ) (i : ℕ) → i < length s → get_or s i 0 ≡ 35 → is_comment (line_at s i) ≡ true
unfolding equal
comment-line s i h e = rw (line_in_lem s i h (ne_eqb (get_or s i 0) 10 (λ z. omega arith))) (rw e)

free_step : {w : FreeLines} {p : Place} → FreePlace w p → (l : ℕ) (x : List ℕ) → (w ≡ Comments → is_comment x ≡ true) → step l p x ≡ stop_at l (line_fault false x) p
free_step (commented {k}) l x c = comment-step l k x (c refl)
free_step (ended {t} {n}) l x c = after-step l t n x

free_going : {w : FreeLines} {p : Place} → FreePlace w p → Going p
free_going commented = tt
free_going ended = tt

module _ {w : FreeLines} {p : Place} (f : FreePlace w p) (s : List ℕ) (i : ℕ) (h : i < length s) (c : w ≡ Comments → get_or s i 0 ≡ 35) where
  pub free_broken : (b : BrokenRule) → line_of false s i ≡ Err b → (n : ℕ) → run n p (lines_from s i) ≡ refused b.number n b.column
  free_broken b e n =
      line_broken-here false s i b n p h e
      (λ (m k : ℕ) (d : line_fault false (line_at s i) ≡ breaks m k). free_step f n (line_at s i) (λ q. comment-line s i h (c q)) ∙ rw d) (free_going f)

  pub free_on : (n : ℕ) (r : LineStart) → Next false s i n r → run n p (lines_from s i) ≡ run r.line p (lines_from s r.at)
  free_on n r d = d.on p p (free_step f n (line_at s i) (λ e. comment-line s i h (c e)) ∙ rw d.rules)
