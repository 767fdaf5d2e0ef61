-- What the functions of the calendar show at each return.
use Prim.Native.Nat.{ℕ}
use mathlib.Core.Path.{◌≡◌}
use mathlib.Core.Bool.{Bool, cond, ◌||◌}
use lib.Dec.{eqb}
use borrow.Author.Tests.{eq-eqb, ne_eqb}
use Rattle.verdicts.specs.Dates.{is_leap, month_days}

pub month_february : (y m : ℕ) (b : Bool) → m ≡ 2 → b ≡ is_leap y → cond b 29 28 ≡ month_days y m
unfolding month_days
month_february y m b p q = rw (eq-eqb m 2 p, q)

pub month-other : (y m : ℕ) (b : Bool) → (m ≡ 2 → ⊥) → b ≡ (eqb m 4 || eqb m 6 || eqb m 9 || eqb m 11) → cond b 30 31 ≡ month_days y m
unfolding month_days
month-other y m b p q = rw (ne_eqb m 2 p, q)
