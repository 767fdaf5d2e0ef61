use mathlib.Core.Path.{sym}
use native.Mathlib.Omega.{arith}
use Rattle.numbers.proofs.PutLaws.{room_as, put_as, whole_by-count}
use Rattle.numbers.proofs.puts.put_whole.Goals as goal

pub put_digits-requires : goal.put_digits-requires
put_digits-requires c = room_as (whole_by-count c.args.n _ (omega arith) c.digit_count.ensures.0) c.requires

pub returns : goal.returns
returns c = put_as (sym (whole_by-count c.args.n _ (omega arith) c.digit_count.ensures.0)) c.put_digits.ensures
