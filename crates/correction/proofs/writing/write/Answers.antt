use borrow.Author.Rules.{rules}
use Rattle.numbers.proofs.PatchLaws.{cell-after}
use Rattle.correction.proofs.WriteLaws.{number-set, flag-set, filled_both, filled-value}
use Rattle.correction.proofs.writing.write.Goals as goal

pub returns-in-Some : goal.returns-in-Some
returns-in-Some c =
    let o = c.args.order in
    let n = number-set o.millionths o.decimals c.size_of.result (search rules) c.size_of.ensures c.args.file.now c.args.places.value c.requires.few c.requires.number c.set_number.ensures in
    let d = rw c.in-Some.is at c.requires.digit in
    filled_both c.args.file.now c.args.places.value _ _ _ c.in-Some.is n
    (flag-set _ c.in-Some.flag o.flag (d.0, cell-after c.requires.number c.in-Some.flag n d.1) c.set_digit.ensures)

pub returns-in_default : goal.returns-in_default
returns-in_default c =
    let o = c.args.order in
    let n = number-set o.millionths o.decimals c.size_of.result (search rules) c.size_of.ensures c.args.file.now c.args.places.value c.requires.few c.requires.number c.set_number.ensures in
    filled-value c.args.file.now c.args.places.value _ _ _ c.in_default.is n
