use Rattle.verdicts.proofs.SignLaws.{signed_large, signed_minus, signed_plain}
use Rattle.verdicts.proofs.signed_size.Goals as goal

pub returns-then-size-ge-TOO_LARGE : goal.returns-then-size-ge-TOO_LARGE
returns-then-size-ge-TOO_LARGE c = signed_large _ _ c.if-size-ge-TOO_LARGE.true

pub returns-then-minus : goal.returns-then-minus
returns-then-minus c = rw c.if-minus.true (signed_minus _ c.if-size-ge-TOO_LARGE.false)

pub returns-else-minus : goal.returns-else-minus
returns-else-minus c = rw c.if-minus.false (signed_plain _ c.if-size-ge-TOO_LARGE.false)
