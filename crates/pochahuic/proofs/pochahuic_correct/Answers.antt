use mir.Syntax.{w64}
use mir.ValLaws.{to_z-of_z}
use Rattle.pochahuic.proofs.NumberLaws.{order_along, applied_answered, denied_answered}
use Rattle.pochahuic.proofs.pochahuic_correct.Goals as goal

pub returns-in-Applied : goal.returns-in-Applied
returns-in-Applied c =
    let w = applied_answered _ (order_along _ _ (to_z-of_z w64 _ c.ranges.millionths) _ _) c.correct-a.ensures.value c.correct-a.ensures.file_after c.in-Applied.is in
    record { value = w.0; file_after = w.1.0; out_after = w.1.1 }

pub returns-in-Refused : goal.returns-in-Refused
returns-in-Refused c =
    let w = denied_answered _ (order_along _ _ (to_z-of_z w64 _ c.ranges.millionths) _ _) c.correct-a.ensures.value c.correct-a.ensures.file_after _ _ _ c.in-Refused.is in
    record { value = w.0; file_after = w.1.0; out_after = w.1.1 }
