use Rattle.correction.proofs.CorrectLaws.{correct-refused, correct-applied}
use Rattle.correction.proofs.correct.Goals as goal

pub returns-in-Err : goal.returns-in-Err
returns-in-Err c = let w = correct-refused _ _ c.in-Err.ensures in record { value = w.0; file_after = w.1 }

pub write-requires : goal.write-requires
write-requires c = c.in-Ok.ensures.writes

pub returns-in-Ok : goal.returns-in-Ok
returns-in-Ok c = let w = correct-applied c.in-Ok.ensures c.write.ensures in record { value = w.0; file_after = w.1 }
