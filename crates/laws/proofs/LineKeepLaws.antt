-- The rules of a line are kept where a cell of plain bytes takes the place of another of its length.
--   join_kept : for a rule that a comma parts (bytes, CutLaws), a cell that keeps it may stand in the place of another
--   line_kept : length u ≡ length (get_or ts i []) → every is_plain u ≡ true → line_fault true (join 44 ts) ≡ clean → line_fault true (join 44 (set ts i u)) ≡ clean
use Prim.Native.Nat.{ℕ, zero, suc, ◌<◌}
use mathlib.Core.Path.{◌≡◌, refl, sym, ap, ◌∙◌}
use mathlib.Core.Bool.{Bool, true, ◌&&◌, true≢false, and-eq-true_iff}
use mathlib.Core.List.{List, [], ◌∷◌, ◌++◌, append-nil}
use native.Mathlib.Omega.{arith}
use lib.ListN.{length, get_or, set}
use Rattle.std.specs.Prelude.{Option, Some, None}
use Rattle.line_bytes.specs.Bytes.{every}
use Rattle.line_bytes.specs.Lines.{ill_formed, return_at, control_at}
use Rattle.line_bytes.specs.Inner.Lines.{is_plain}
use Rattle.line_bytes.proofs.CutLaws.{nowhere, well_cut, return_cut, control_cut}
use Rattle.line_bytes.proofs.LineLaws.{plain_well_formed, plain_no_return, plain_no_control}
use Rattle.format.specs.Faults.{clean, ◌then◌, first_of}
use Rattle.format.specs.LineRules.{found_fault, line_too_long, line_rules, byte_rules}
use Rattle.format.specs.Inner.Faults.{line_fault}
use Rattle.laws.specs.Inner.Writes.{join, join_later}
use Rattle.format.proofs.FaultLaws.{then-clean}
use Rattle.laws.proofs.JoinLaws.{join-length-set}

-- ---- a rule that a comma parts so
module _ (ok : List ℕ → Bool) (cut : (a b : List ℕ) → ok (a ++ 44 ∷ b) ≡ (ok a && ok b)) where
  pub join_kept : (ts : List (List ℕ)) (i : ℕ) (u : List ℕ) → ok (join 44 ts) ≡ true → ok u ≡ true → ok (join 44 (set ts i u)) ≡ true
  unfolding join join_later
  join_kept [] i u h k = h
  join_kept (p ∷ []) zero u h k = rw append-nil k
  join_kept (p ∷ []) (suc i) u h k = h
  join_kept (p ∷ (q ∷ ps)) zero u h k =
      let w = (and-eq-true_iff (ok p) (ok (join 44 (q ∷ ps)))).0 (sym (cut p (join 44 (q ∷ ps))) ∙ h) in
      cut u (join 44 (q ∷ ps)) ∙ rw (k, w.1)
  join_kept (p ∷ (q ∷ ps)) (suc i) u h k =
      let w = (and-eq-true_iff (ok p) (ok (join 44 (q ∷ ps)))).0 (sym (cut p (join 44 (q ∷ ps))) ∙ h) in
      ap ok (after_first i) ∙ cut p (join 44 (set (q ∷ ps) i u)) ∙ rw w.0 (join_kept (q ∷ ps) i u w.1 k)
    where
      after_first : (i : ℕ) → join 44 (p ∷ set (q ∷ ps) i u) ≡ p ++ 44 ∷ join 44 (set (q ∷ ps) i u)
      after_first zero = refl
      after_first (suc i) = refl

-- ---- the rules of a line together
found-clean : (n : ℕ) (f : Option ℕ) → found_fault n f ≡ clean → nowhere f ≡ true
found-clean n (Some i) e = let z : ◌≡◌ {A = ℕ} 0 1 = cc in absurd (omega arith)
found-clean n None e = refl

clean_found : (n : ℕ) (f : Option ℕ) → nowhere f ≡ true → found_fault n f ≡ clean
clean_found n (Some i) e = absurd (true≢false (sym e))
clean_found n None e = refl

pub line_kept : (ts : List (List ℕ)) (i : ℕ) (u : List ℕ) → i < length ts → length u ≡ length (get_or ts i []) → every is_plain u ≡ true
    → line_fault true (join 44 ts) ≡ clean → line_fault true (join 44 (set ts i u)) ≡ clean
unfolding line_fault line_rules byte_rules first_of
line_kept ts i u h e p c =
    let l = join 44 ts in
    let w = then-clean (line_too_long l) (found_fault 3 (ill_formed l) then found_fault 4 (return_at l) then found_fault 5 (control_at l) then clean) c in
    let v = then-clean (found_fault 3 (ill_formed l)) (found_fault 4 (return_at l) then found_fault 5 (control_at l) then clean) w.1 in
    let k = then-clean (found_fault 4 (return_at l)) (found_fault 5 (control_at l) then clean) v.1 in
    let j = then-clean (found_fault 5 (control_at l)) clean k.1 in
    rw (
      join-length-set 44 ts i u h e,
      w.0,
      clean_found 3 (ill_formed (join 44 (set ts i u))) (join_kept (λ x. nowhere (ill_formed x)) well_cut ts i u (found-clean 3 (ill_formed l) v.0) (ap nowhere (plain_well_formed u p))),
      clean_found 4 (return_at (join 44 (set ts i u))) (join_kept (λ x. nowhere (return_at x)) return_cut ts i u (found-clean 4 (return_at l) k.0) (ap nowhere (plain_no_return u p))),
      clean_found 5 (control_at (join 44 (set ts i u))) (join_kept (λ x. nowhere (control_at x)) control_cut ts i u (found-clean 5 (control_at l) j.0) (ap nowhere (plain_no_control u p))),
    )
