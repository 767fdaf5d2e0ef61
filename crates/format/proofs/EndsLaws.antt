-- A line whose line feed stands at e, from any of its places.
use Prim.Native.Nat.{ℕ, zero, suc, ◌+◌, ◌-◌, ◌≤◌, ◌<◌}
use mathlib.Core.Path.{◌≡◌, refl, ap, subst, ◌∙◌}
use mathlib.Core.List.{List}
use native.Mathlib.Omega.{arith}
use lib.ListN.{length, get_or}
use borrow.Author.Tests.{ne_eqb}
use Rattle.line_bytes.specs.Cells.{line_at}
use Rattle.line_bytes.specs.Inner.Scans.{Stop}
use Rattle.line_bytes.proofs.CellLaws.{line_in_lem, line-end}
use Rattle.format.specs.Inner.Lines.{Ends}
use Rattle.format.proofs.RunLaws.{line-feed}

pub ends-stop : {s : List ℕ} {i e : ℕ} → Ends s i e → Stop 44 s i e
ends-stop {s} {i} {e} t = record { inside = omega (arith, t.far); room = t.room; feed = ap (λ (p : ℕ). get_or s p 0) t.far ∙ line-feed s i (omega (arith, t.room, t.far)); parts = refl }

-- no byte before it is a line feed
pub ends-before : {s : List ℕ} {i e : ℕ} → Ends s i e → i < e → get_or s i 0 ≡ 10 → ⊥
ends-before {s} {i} {e} t h f =
    let z : length (line_at s i) ≡ 0 = ap length (line-end s i (omega (arith, t.room)) f) in
    omega (arith, t.far)

pub ends_next : {s : List ℕ} {i e : ℕ} → Ends s i e → i < e → Ends s (i + 1) e
ends_next {s} {i} {e} t h =
    let z : length (line_at s i) ≡ suc (length (line_at s (i + 1))) = ap length (line_in_lem s i (omega (arith, t.room)) (ne_eqb (get_or s i 0) 10 (ends-before t h))) in
    record { room = t.room; far = omega (arith, t.far) }

ends_on : {s : List ℕ} {i e : ℕ} (k : ℕ) → Ends s i e → i + k ≤ e → Ends s (i + k) e
ends_on {s} {i} {e} zero t h = let q : i + 0 ≡ i = omega arith in rw q t
ends_on {s} {i} {e} (suc k) t h =
    let q : i + suc k ≡ (i + k) + 1 = omega arith in
    rw q (ends_next (ends_on k t (omega arith)) (omega arith))

pub ends_moved : {s : List ℕ} {i e j : ℕ} → Ends s i e → i ≤ j → j ≤ e → Ends s j e
ends_moved {s} {i} {e} {j} t h k =
    let q : i + (j - i) ≡ j = omega arith in
    subst (λ (p : ℕ). Ends s p e) q (ends_on (j - i) t (omega arith))
