-- Refusals 23 and 24 hold exactly where the text of the number or of the flag is not judged as what was ordered.
use Prim.Native.Nat.{ℕ, ◌+◌, ◌-◌, ◌%◌, ◌^◌, ◌<◌}
use mathlib.Core.Path.{◌≡◌, refl, sym, ap, ◌∙◌}
use mathlib.Core.Logic.{◌↔◌}
use mathlib.Core.Bool.{Bool, true, false, cond, not, false≢true}
use mathlib.Core.List.{List}
use native.Mathlib.Omega.{arith}
use lib.ListN.{length, length-map, get_or-eq_default}
use lib.Dec.{eqb, leb, ltb}
use borrow.Author.Tests.{leb-true, leb-false, lt-ltb, le-ltb, ltb-true, ltb-false, eq-eqb, ne_eqb, eqb-true, not-false}
use Rattle.line_bytes.specs.Bytes.{every}
use Rattle.line_bytes.specs.Names.{begins_ctd}
use Rattle.verdicts.specs.Verdicts.{wrong, out_of_range, good, is_good}
use Rattle.verdicts.specs.Kinds.{kind_of}
use Rattle.verdicts.specs.Judge.{judge, of_kind, whole_of, in_set, in_flags}
use Rattle.line_bytes.proofs.DigitLaws.{digit-high}
use Rattle.line_bytes.proofs.SpaceLaws.{is_solid, trim_solid}
use Rattle.format.specs.Columns.{flag_from, flags_of}
use Rattle.format.specs.Places.{Table}
use Rattle.format.specs.Located.{name_at, flag_column, has_flag}
use Rattle.laws.proofs.FlagColumnLaws.{flag_of}
use Rattle.numbers.specs.Texts.{size, flag_text, at_right}
use Rattle.numbers.proofs.DigitLaws.{every_one}
use Rattle.numbers.proofs.TextLaws.{number_exactly, flag-whole}
use Rattle.orders.specs.Corrections.{bad_number, bad_flag}
use Rattle.orders.specs.WrittenTexts.{NumberExactly, FlagExactly}
use Rattle.orders.proofs.FlagLaws.{flag_judged}
use Rattle.orders.proofs.FitLaws.{number-good}

-- ---- 23
pub numbers_exactly : NumberExactly
unfolding bad_number
numbers_exactly o = (
  (λ e. (number_exactly o.millionths o.decimals).0 (number-good o e)),
  (λ e. let w = (number_exactly o.millionths o.decimals).1 e in
      rw (le-ltb 6 o.decimals w.few, lt-ltb (size o.millionths) (10 ^ 15) w.small, eq-eqb (size o.millionths % 10 ^ (6 - o.decimals)) 0 w.exact)),
)

-- ---- 24: the digit of a flag, judged
flag-here : (ctd : Bool) (v : ℕ) → judge (kind_of (cond ctd 5 4)) (flag_text v) ≡ in_flags ctd (whole_of 1 (flag_text v))
unfolding judge kind_of of_kind
flag-here ctd v = go ctd
  where
    solid : every is_solid (flag_text v) ≡ true
    solid = every_one is_solid (48 + v) (rw (ne_eqb (48 + v) 32 (omega arith)))

    go : (ctd : Bool) → judge (kind_of (cond ctd 5 4)) (flag_text v) ≡ in_flags ctd (whole_of 1 (flag_text v))
    go true = rw (trim_solid (flag_text v) solid)
    go false = rw (trim_solid (flag_text v) solid)

-- above 9 it is none
flag-high : (v : ℕ) → 9 < v → whole_of 1 (flag_text v) ≡ wrong
unfolding whole_of every
flag-high v h = rw (digit-high (48 + v) (omega arith))

good_in : (b : Bool) (v : ℕ) → cond b (good false v 0) out_of_range ≡ good false v 0 → b ≡ true
good_in true v e = refl
good_in false v e = absurd (false≢true (ap is_good e))

flag-only : (ctd : Bool) (v : ℕ) → in_flags ctd (whole_of 1 (flag_text v)) ≡ good false v 0 → in_set ctd v ≡ true
flag-only ctd v = go (leb v 9) refl
  where
    go : (b : Bool) → leb v 9 ≡ b → in_flags ctd (whole_of 1 (flag_text v)) ≡ good false v 0 → in_set ctd v ≡ true
    go true l e = good_in (in_set ctd v) v (sym (ap (in_flags ctd) (flag-whole v (leb-true v 9 l))) ∙ e)
    go false l e = absurd (false≢true (ap is_good (sym (ap (in_flags ctd) (flag-high v (leb-false v 9 l))) ∙ e)))

flag_exactly : (ctd : Bool) (v : ℕ) → (in_set ctd v ≡ true) ↔ (judge (kind_of (cond ctd 5 4)) (flag_text v) ≡ good false v 0)
unfolding at_right
flag_exactly ctd v = (λ h. flag_judged ctd v 1 h (omega arith), λ e. flag-only ctd v (sym (flag-here ctd v) ∙ e))

-- a column that has a flag column stands in the line
has-column : (t : Table) (c : ℕ) → has_flag t c ≡ true → c - 1 < length t.names
unfolding flag_column
has-column t c h = go (ltb (c - 1) (length t.names)) refl
  where
    go : (b : Bool) → ltb (c - 1) (length t.names) ≡ b → c - 1 < length t.names
    go true e = ltb-true (c - 1) (length t.names) e
    go false e = absurd (false≢true (ap (ltb 0) (sym past) ∙ h))
      where
        past : flag_column t c ≡ 0
        past = get_or-eq_default (flags_of t.names) 0 (rw (length-map t.names (λ (n : List ℕ). flag_from 1 n t.names)) (ltb-false (c - 1) (length t.names) e))

-- the test by whether there is a flag column
test-flagged : (b ctd : Bool) (v : ℕ) → b ≡ true → (not (cond b (in_set ctd v) (eqb v 0)) ≡ false) ↔ (in_set ctd v ≡ true)
test-flagged b ctd v h = rw h (λ e. not-false (in_set ctd v) e, λ e. ap not e)

test-bare : (b ctd : Bool) (v : ℕ) → b ≡ false → (not (cond b (in_set ctd v) (eqb v 0)) ≡ false) ↔ (v ≡ 0)
test-bare b ctd v h = rw h (λ e. eqb-true v 0 (not-false (eqb v 0) e), λ e. ap not (eq-eqb v 0 e))

pub flags_exactly : FlagExactly
unfolding bad_flag
flags_exactly = record {
  flagged = λ t o h.
      let ctd = begins_ctd (name_at t o.column) in
      let test = test-flagged (has_flag t o.column) ctd o.flag h in
      let text = flag_exactly ctd o.flag in
      rw (flag_of t o.column (has-column t o.column h) h).kind (λ e. text.0 (test.0 e), λ e. test.1 (text.1 e));
  bare = λ t o h. test-bare (has_flag t o.column) (begins_ctd (name_at t o.column)) o.flag h;
}
