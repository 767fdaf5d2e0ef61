-- The run at a line whose place has rules of its own after rules 1 to 5.
use Prim.Native.Nat.{ℕ, ◌+◌, ◌≤◌, ◌<◌}
use mathlib.Core.Path.{◌≡◌, refl, ap, ◌∙◌}
use mathlib.Core.List.{List, []}
use mathlib.Core.Bool.{true}
use lib.ListN.{length}
use Rattle.line_bytes.specs.Cells.{line_at}
use Rattle.format.specs.Faults.{Fault, clean, breaks, ◌then◌}
use Rattle.format.specs.Places.{Place, stopped, stop_at, step, refused, last, run}
use Rattle.format.specs.Inner.Faults.{line_fault}
use Rattle.format.specs.Inner.Lines.{lines_from, line_fault_at, line_for, line_of}
use Rattle.format.proofs.RuleLaws.{Going, fault_outcome}
use Rattle.format.proofs.RunLaws.{run-stopped, run-line, lines_end, line_clean, line_broken-here, line-whole}
use Rattle.format.proofs.FaultLaws.{then-clean}

pub run-ended : (l : ℕ) (p : Place) (s : List ℕ) (i : ℕ) → length s ≤ i → run l p (lines_from s i) ≡ last l p []
unfolding run
run-ended l p s i h = ap (run l p) (lines_end s i h)

module _ (l : ℕ) (p : Place) (s : List ℕ) (i : ℕ) (h : i < length s) (g : Fault) (on : Place)
    (es : step l p (line_at s i) ≡ stop_at l (line_fault true (line_at s i) then g) on)
    (ec : Going p) where
  pub run-clean : (line_fault_at true s i then g) ≡ clean → run l p (lines_from s i) ≡ run (l + 1) on (lines_from s (i + length (line_at s i) + 1))
  run-clean e =
      let a = then-clean (line_fault_at true s i) g e in
      let b = line_clean true s i _ (line-whole true s i a.0) in
      let k : step l p (line_at s i) ≡ on = es ∙ ap (λ (f : Fault). stop_at l (f then g) on) b.0 ∙ ap (λ (f : Fault). stop_at l f on) a.1 in
      run-line l p s i b.1 ∙ ap (λ (x : Place). run (l + 1) x (lines_from s (i + length (line_at s i) + 1))) k

  pub run_broken : (n c : ℕ) → (line_fault_at true s i then g) ≡ breaks n c → run l p (lines_from s i) ≡ refused n l c
  unfolding line_of
  run_broken n c e = go (line_fault_at true s i) refl e
    where
      go : (f : Fault) → line_fault_at true s i ≡ f → (f then g) ≡ breaks n c → run l p (lines_from s i) ≡ refused n l c
      go clean a e =
          let b = line_clean true s i _ (line-whole true s i a) in
          let k : step l p (line_at s i) ≡ stopped n l c = es ∙ ap (λ (f : Fault). stop_at l (f then g) on) b.0 ∙ ap (λ (f : Fault). stop_at l f on) e in
          run-line l p s i b.1 ∙ ap (λ (x : Place). run (l + 1) x (lines_from s (i + length (line_at s i) + 1))) k
          ∙ run-stopped (l + 1) n l c (lines_from s (i + length (line_at s i) + 1))
      go (breaks m d) a e =
          line_broken-here true s i (record { number = m; column = d }) l p h (ap (λ (f : Fault). line_for f (i + length (line_at s i))) a)
          (λ n c k. es ∙ ap (λ (f : Fault). stop_at l (f then g) on) k) ec
          ∙ ap (fault_outcome l) e
