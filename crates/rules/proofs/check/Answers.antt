-- The first part of what opening the file answers.
use Rattle.format.specs.declared.Opened.{Opened}
use mathlib.Core.Path.{ap, ◌∙◌}
use Rattle.format.proofs.OpenedLaws.{opened_checked}
use Rattle.rules.proofs.check.Goals as goal

pub returns : goal.returns
returns c = ap (λ (o : Opened). o.checked) c.open_file.ensures ∙ opened_checked _
