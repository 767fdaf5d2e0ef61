use Rattle.numbers.proofs.TextLaws.{length_none, length_some}
use Rattle.numbers.proofs.text_length.Goals as goal

pub returns-then-decimals-gt-MOST_DECIMALS : goal.returns-then-decimals-gt-MOST_DECIMALS
returns-then-decimals-gt-MOST_DECIMALS c = let a = c.args in length_none a.minus a.size a.decimals c.if-decimals-gt-MOST_DECIMALS.true

pub returns : goal.returns
returns c =
    let a = c.args in
    length_some a.minus a.size a.decimals c.if-decimals-gt-MOST_DECIMALS.false c.sign_length.ensures.0 c.digit_count.ensures.0 (c.fraction_length.ensures.0 a.size)
