use Rattle.lines.proofs.LinePassLaws.{line_past}
use Rattle.lines.proofs.line_at.Goals as goal

pub returns-else-at-s : goal.returns-else-at-s
returns-else-at-s c = line_past _ _ _ c.if-at-s.false
