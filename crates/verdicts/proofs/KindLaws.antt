-- Texts of so many digits, the flags of a set, and the kinds and their numbers.
use Prim.Native.Nat.{ℕ, zero, suc, ◌/◌, ◌%◌, ◌≤◌, ◌<◌}
use mathlib.Core.Path.{◌≡◌, refl, sym}
use mathlib.Core.List.{List}
use mathlib.Core.Bool.{Bool, true, false, cond, not, ◌&&◌, true≢false}
use native.Mathlib.Omega.{arith}
use lib.ListN.{length}
use lib.Dec.{eqb, leb}
use borrow.Author.Tests.{eq-eqb, leb-true}
use Rattle.line_bytes.specs.Bytes.{is_digit, every, numeral}
use Rattle.verdicts.specs.Kinds.{Kind, measured, latitude, longitude, depth, flag, ctd_flag, expocode, stnnbr, castno, date, time, free, code_of, kind_of}
use Rattle.verdicts.specs.Verdicts.{Verdict, wrong, out_of_range, good}
use Rattle.verdicts.specs.Dates.{is_date}
use Rattle.verdicts.specs.Judge.{in_set}
use Rattle.line_bytes.proofs.CellLaws.{both_true}

-- ---- a text of digits, by its length and by what it writes
abbrev pub sized : (ℕ → Bool) → (ℕ → Verdict) → List ℕ → Verdict
sized g f t = cond (every is_digit t && g (length t)) (f (numeral 0 t)) wrong

-- a day's number, and a time of day's
abbrev pub in_year : ℕ → Verdict
in_year n = cond (is_date n) (good false n 0) out_of_range

abbrev pub in_day : ℕ → Verdict
in_day n = cond (leb (n / 100) 23 && leb (n % 100) 59) (good false n 0) out_of_range

-- ---- the flags of a set
pub set-parts : (ctd : Bool) (v : ℕ) → in_set ctd v ≡ true → (1 ≤ v) × (v ≤ 9) × (ctd ≡ true → v ≡ 8 → ⊥)
set-parts ctd v h =
    let a = both_true (leb 1 v && leb v 9) (not (ctd && eqb v 8)) h in
    let b = both_true (leb 1 v) (leb v 9) a.0 in
    (leb-true 1 v b.0, leb-true v 9 b.1, λ c e. true≢false (sym (rw (c, eq-eqb v 8 e) at a.1)))

-- ---- the kinds and their numbers are one table read both ways
pub code-back : (k : Kind) → kind_of (code_of k) ≡ k
unfolding kind_of
code-back measured = refl
code-back latitude = refl
code-back longitude = refl
code-back depth = refl
code-back flag = refl
code-back ctd_flag = refl
code-back expocode = refl
code-back stnnbr = refl
code-back castno = refl
code-back date = refl
code-back time = refl
code-back free = refl

pub kind-back : (n : ℕ) → n < 12 → code_of (kind_of n) ≡ n
unfolding kind_of
kind-back zero h = refl
kind-back (suc zero) h = refl
kind-back (suc (suc zero)) h = refl
kind-back (suc (suc (suc zero))) h = refl
kind-back (suc (suc (suc (suc zero)))) h = refl
kind-back (suc (suc (suc (suc (suc zero))))) h = refl
kind-back (suc (suc (suc (suc (suc (suc zero)))))) h = refl
kind-back (suc (suc (suc (suc (suc (suc (suc zero))))))) h = refl
kind-back (suc (suc (suc (suc (suc (suc (suc (suc zero)))))))) h = refl
kind-back (suc (suc (suc (suc (suc (suc (suc (suc (suc zero))))))))) h = refl
kind-back (suc (suc (suc (suc (suc (suc (suc (suc (suc (suc zero)))))))))) h = refl
kind-back (suc (suc (suc (suc (suc (suc (suc (suc (suc (suc (suc zero))))))))))) h = refl
kind-back (suc (suc (suc (suc (suc (suc (suc (suc (suc (suc (suc (suc n)))))))))))) h = absurd (omega arith)
