-- A flag of its parameter's set: its digit is judged as that flag.
use Prim.Native.Nat.{ℕ, ◌≤◌}
use mathlib.Core.Path.{◌≡◌}
use mathlib.Core.Bool.{Bool, true, false, cond, not, ◌&&◌}
use lib.Dec.{eqb, leb}
use borrow.Author.Tests.{leb-true}
use Rattle.verdicts.specs.Verdicts.{good}
use Rattle.verdicts.specs.Kinds.{kind_of}
use Rattle.verdicts.specs.Judge.{judge, of_kind, whole_of, in_set, in_flags}
use Rattle.line_bytes.proofs.CellLaws.{both_true}
use Rattle.numbers.specs.Texts.{flag_text, at_right}
use Rattle.numbers.proofs.TextLaws.{flag-whole, flag-trim}

pub flag_in_lem : (ctd : Bool) (v : ℕ) → in_set ctd v ≡ true → (1 ≤ v) × (v ≤ 9) × (not (ctd && eqb v 8) ≡ true)
flag_in_lem ctd v h =
    let a = both_true (leb 1 v && leb v 9) (not (ctd && eqb v 8)) h in
    let b = both_true (leb 1 v) (leb v 9) a.0 in
    (leb-true 1 v b.0, leb-true v 9 b.1, a.1)

flag_range : (ctd : Bool) (v : ℕ) → in_set ctd v ≡ true → in_flags ctd (whole_of 1 (flag_text v)) ≡ good false v 0
flag_range ctd v h =
    let k = flag_in_lem ctd v h in
    rw (flag-whole v k.1) (rw h)

pub flag_judged : (ctd : Bool) (v w : ℕ) → in_set ctd v ≡ true → 1 ≤ w → judge (kind_of (cond ctd 5 4)) (at_right w (flag_text v)) ≡ good false v 0
unfolding judge kind_of of_kind
flag_judged true v w h k = rw (flag-trim w v (flag_in_lem true v h).1) (flag_range true v h)
flag_judged false v w h k = rw (flag-trim w v (flag_in_lem false v h).1) (flag_range false v h)
