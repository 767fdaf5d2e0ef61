use mathlib.Core.Path.{◌∙◌}
use Rattle.line_bytes.specs.Names.{begins_ctd}
use Rattle.line_bytes.proofs.EqualLaws.{equal_pointwise, equal_sym}
use Rattle.line_bytes.proofs.begins_ctd.Goals as goal

pub returns : goal.returns
unfolding begins_ctd
returns c = c.starts_with.ensures.value ∙ equal_pointwise _ _ ∙ equal_sym _ _
