use Rattle.numbers.proofs.PutLaws.{Digits}
use Rattle.numbers.proofs.puts.put_digits.Given as goal

abbrev pub invariant-loop-at : goal.invariant-loop-at
invariant-loop-at l = Digits l.initial.file l.end l.count l.n l.start l.file l.at l.rest
