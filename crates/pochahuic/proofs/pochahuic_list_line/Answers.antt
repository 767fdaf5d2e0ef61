use Rattle.pochahuic.proofs.NumberLaws.{line_answered}
use borrow.Author.Rules.{rules}
use Rattle.pochahuic.proofs.pochahuic_list_line.Goals as goal

pub returns : goal.returns
returns c =
    let w = line_answered c.read_list_line-l.result _ c.read_list_line-l.ensures _ (search rules) in
    record { value = w.0; millionths_after = w.1.0; out_after = w.1.1 }
