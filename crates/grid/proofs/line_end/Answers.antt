use mathlib.Core.Path.{sym, ◌∙◌}
use native.Mathlib.Omega.{arith}
use Rattle.format.proofs.GridWalkLaws.{line-none}
use Rattle.grid.proofs.ByteLaws.{line-found}
use Rattle.grid.proofs.line_end.Goals as goal

pub returns-then-s-i : goal.returns-then-s-i
returns-then-s-i c = sym (line-none _ _ (omega arith))

pub past_plain-wide-requires : goal.past_plain-wide-requires
past_plain-wide-requires c = (omega arith, omega arith)

pub past_plain-p-requires : goal.past_plain-p-requires
past_plain-p-requires c = (c.past_plain-wide.ensures.0, omega arith)

pub returns : goal.returns
returns c =
    line-found _ _ _ _ c.unwrap_or.ensures c.first_feed.ensures
    ∙ sym (c.past_plain-wide.ensures.1 ∙ c.past_plain-p.ensures.1)
