use borrow.Author.Rules.{rules}
use mathlib.Core.Path.{sym, ◌∙◌}
use Rattle.correction.proofs.DecideLaws.{number-few, text_longer, text-fits}
use Rattle.correction.proofs.FirstBrokenLaws.{broken-here, broken-later, broken-none}
use Rattle.correction.proofs.deciding.broken_rule.Goals as goal

pub returns-then-not-at : goal.returns-then-not-at
returns-then-not-at c = broken-here _ _ c.if-not-at.true

pub returns-then-wrong_number : goal.returns-then-wrong_number
returns-then-wrong_number c = broken-later _ _ c.if-not-at.false (broken-here _ _ (sym c.wrong_number.ensures ∙ c.if-wrong_number.true))

pub returns-then-wrong_flag : goal.returns-then-wrong_flag
returns-then-wrong_flag c = broken-later _ _ c.if-not-at.false (broken-later _ _ (sym c.wrong_number.ensures ∙ c.if-wrong_number.false) (broken-here _ _ (sym c.wrong_flag.ensures ∙ c.if-wrong_flag.true)))

pub returns-then-at-length : goal.returns-then-at-length
returns-then-at-length c =
    let o = c.args.order in
    let longer = text_longer o (search rules) _ c.size_of.ensures _ _ (number-few o _ c.wrong_number.ensures c.if-wrong_number.false) c.text_length-length.ensures c.if-at-length.true in
    broken-later _ _ c.if-not-at.false
    (broken-later _ _ (sym c.wrong_number.ensures ∙ c.if-wrong_number.false)
    (broken-later _ _ (sym c.wrong_flag.ensures ∙ c.if-wrong_flag.false)
    (broken-here _ _ longer)))

pub returns : goal.returns
returns c =
    let o = c.args.order in
    let longer = text-fits o (search rules) _ c.size_of.ensures _ _ (number-few o _ c.wrong_number.ensures c.if-wrong_number.false) c.text_length-length.ensures c.if-at-length.false in
    broken-later _ _ c.if-not-at.false
    (broken-later _ _ (sym c.wrong_number.ensures ∙ c.if-wrong_number.false)
    (broken-later _ _ (sym c.wrong_flag.ensures ∙ c.if-wrong_flag.false)
    (broken-later _ _ longer broken-none)))
