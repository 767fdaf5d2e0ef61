use mathlib.Core.Path.{◌∙◌}
use Rattle.std.proofs.lemmas.Result.{MatchResult-weaker}
use Rattle.format.proofs.OpenedLaws.{opened-refused}
use Rattle.labels.proofs.accepted.Goals as goal

pub returns : goal.returns
returns c =
    MatchResult-weaker c.accepted.result c.accepted.ensures
    (λ o p. (p.0 ∙ c.open_file.ensures, p.1))
    (λ r p. rw p.1 (opened-refused _ _ c.open_file.ensures p.0))
