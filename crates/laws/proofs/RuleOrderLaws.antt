-- The first broken rule of a list, in the words of the promises: it is none where all are kept, and the one that has only kept ones before it.
use Prim.Native.Nat.{ℕ}
use mathlib.Core.Path.{◌≡◌, refl, ap}
use mathlib.Core.List.{List, [], ◌∷◌}
use native.Mathlib.Omega.{arith}
use Rattle.format.specs.Faults.{Fault, clean, breaks, first_of}
use Rattle.format.proofs.RuleLaws.{first-append}
use Rattle.laws.specs.Promises.{Kept, Broken}

pub first-kept : (rs : List Fault) → Kept rs → first_of rs ≡ clean
unfolding first_of
first-kept [] h = refl
first-kept (r ∷ rs) h = rw h.0 (first-kept rs h.1)

pub kept-first : (rs : List Fault) → first_of rs ≡ clean → Kept rs
unfolding first_of
kept-first [] e = tt
kept-first (clean ∷ rs) e = (refl, kept-first rs e)
kept-first (breaks n c ∷ rs) e = let z : ◌≡◌ {A = ℕ} 0 1 = cc in absurd (omega arith)

pub first_broken : (rs : List Fault) (n c : ℕ) → Broken rs n c → first_of rs ≡ breaks n c
unfolding first_of
first_broken rs n c b = rw (b.order, first-append b.before (breaks n c ∷ b.behind), first-kept b.before b.kept)

pub broken-first : (rs : List Fault) (n c : ℕ) → first_of rs ≡ breaks n c → Broken rs n c
unfolding first_of
broken-first [] n c e = let z : ◌≡◌ {A = ℕ} 0 1 = cc in absurd (omega arith)
broken-first (clean ∷ rs) n c e =
    let w = broken-first rs n c e in
    record { before = clean ∷ w.before; behind = w.behind; order = ap (λ (r : List Fault). clean ∷ r) w.order; kept = (refl, w.kept) }
broken-first (breaks a b ∷ rs) n c e =
    let p : breaks a b ≡ breaks n c = e in
    record { before = []; behind = rs; order = ap (λ (r : Fault). r ∷ rs) p; kept = tt }
