use mathlib.Core.Path.{sym}
use Rattle.numbers.proofs.PutLaws.{put-none, room_as, put_as, sign_minus, sign-none}
use Rattle.numbers.proofs.puts.put_sign.Goals as goal

pub put_byte-requires : goal.put_byte-requires
put_byte-requires c = room_as (sym (sign_minus _ c.if-minus.true)) c.requires

pub returns-then-minus : goal.returns-then-minus
returns-then-minus c = put_as (sign_minus c.args.minus c.if-minus.true) c.put_byte.ensures

pub returns-else-minus : goal.returns-else-minus
returns-else-minus c = put_as (sign-none c.args.minus c.if-minus.false) (put-none _ _)
