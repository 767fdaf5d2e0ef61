use Rattle.pochahuic.proofs.NumberLaws.{present_answered, missing_answered, refused_answered}
use borrow.Author.Rules.{rules}
use Rattle.pochahuic.proofs.pochahuic_decimal.Goals as goal

pub returns-in-Present : goal.returns-in-Present
returns-in-Present c =
    let w = present_answered _ _ c.decimal-r.ensures _ _ c.in-Present.is _ (search rules) in
    record { value = w.0; millionths_after = w.1.0; value_after = w.1.1.0; out_after = w.1.1.1 }

pub returns-in-Missing : goal.returns-in-Missing
returns-in-Missing c =
    let w = missing_answered _ _ c.decimal-r.ensures c.in-Missing.is in
    record { value = w.0; millionths_after = w.1.0; value_after = w.1.1.0; out_after = w.1.1.1 }

pub returns-in-Refused : goal.returns-in-Refused
returns-in-Refused c =
    let w = refused_answered _ _ c.decimal-r.ensures _ _ _ c.in-Refused.is in
    record { value = w.0; millionths_after = w.1.0; value_after = w.1.1.0; out_after = w.1.1.1 }
