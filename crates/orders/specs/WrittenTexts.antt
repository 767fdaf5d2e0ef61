-- Document 01, refusals 23 and 24, by the texts that a correction writes: a number or a flag is refused exactly where its text would not be judged as
-- that number or that flag. A term of each type stands in proofs/WrittenLaws.antt.
use Rattle.std.specs.Prelude.{◌≡◌, ◌↔◌, true, false}
use Rattle.verdicts.specs.Verdicts.{good}
use Rattle.verdicts.specs.Kinds.{measured}
use Rattle.verdicts.specs.Judge.{judge}
use Rattle.format.specs.Places.{Table}
use Rattle.format.specs.Located.{flag_column, has_flag}
use Rattle.laws.specs.Promises.{column_kind}
use Rattle.numbers.specs.Texts.{size, is_below, number_text, flag_text}
use Rattle.orders.specs.declared.Order.{Order}
use Rattle.orders.specs.Corrections.{bad_number, bad_flag}

-- 23: the number's text in a measured column
abbrev pub NumberExactly : Type 0
NumberExactly = (o : Order) → (bad_number o ≡ false) ↔ (judge measured (number_text o.millionths o.decimals) ≡ good (is_below o.millionths) (size o.millionths) o.decimals)

-- 24: the flag's text in the flag column; where there is none, the flag 0 alone
pub record FlagExactly : Type 0 where
  pub flagged : (t : Table) (o : Order) → has_flag t o.column ≡ true
      → (bad_flag t o ≡ false) ↔ (judge (column_kind t (flag_column t o.column)) (flag_text o.flag) ≡ good false o.flag 0)
  pub bare : (t : Table) (o : Order) → has_flag t o.column ≡ false → (bad_flag t o ≡ false) ↔ (o.flag ≡ 0)
