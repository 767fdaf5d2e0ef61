-- Faults: by their number, and one after the other.
use Prim.Native.Nat.{ℕ, zero, suc}
use mathlib.Core.Path.{◌≡◌, refl, sym}
use native.Mathlib.Omega.{arith}
use Rattle.format.specs.Faults.{Fault, clean, breaks, ◌then◌}
use Rattle.format.specs.Inner.Faults.{as_fault}

-- ---- faults by their number
pub breaks-clean : (n c : ℕ) → breaks n c ≡ clean → ⊥
breaks-clean n c e = let z : ◌≡◌ {A = ℕ} 0 1 = cc in omega arith

pub fault-clean : (n c : ℕ) (f : Fault) → as_fault n c ≡ f → n ≡ 0 → f ≡ clean
fault-clean zero c f e z = sym e
fault-clean (suc n) c f e z = absurd (omega arith)

pub fault-number : (n c : ℕ) → (n ≡ 0 → ⊥) → as_fault n c ≡ breaks n c
fault-number zero c z = absurd (z refl)
fault-number (suc n) c z = refl

pub fault_broken : (n c : ℕ) (f : Fault) → as_fault n c ≡ f → (n ≡ 0 → ⊥) → f ≡ breaks n c
fault_broken zero c f e z = absurd (z refl)
fault_broken (suc n) c f e z = sym e

pub then-clean : (f g : Fault) → (f then g) ≡ clean → (f ≡ clean) × (g ≡ clean)
then-clean clean g e = (refl, e)
then-clean (breaks n c) g e = absurd (breaks-clean n c e)

pub then_broken : (n c : ℕ) (f g : Fault) → (n ≡ 0 → ⊥) → as_fault n c ≡ f → as_fault n c ≡ (f then g)
then_broken zero c f g z e = absurd (z refl)
then_broken (suc n) c clean g z e = absurd (breaks-clean (suc n) c e)
then_broken (suc n) c (breaks m d) g z e = e

pub then_second : (f g k : Fault) → (f then g) ≡ clean → (f then (g then k)) ≡ k
then_second f g k e = let h = then-clean f g e in rw (h.0, h.1)
