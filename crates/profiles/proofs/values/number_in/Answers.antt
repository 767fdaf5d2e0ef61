use Rattle.std.proofs.lemmas.Option.{MatchOption-at_some}
use Rattle.profiles.proofs.ValueLaws.{number-some}
use Rattle.profiles.proofs.values.number_in.Goals as goal

pub returns-in-Some : goal.returns-in-Some
returns-in-Some c = λ x w. number-some (MatchOption-at_some _ _ _ c.in-Some.is w) _ _ c.judge.ensures
