-- The check's answer and the places, of a CTD file, of a bottle file and of a file that is refused.
use Rattle.rules.proofs.AnswerLaws.{answer, answer-refused, one_profile, runs_profiles}
use Rattle.rules.proofs.open_file.Goals as goal

pub returns-in-Ctd : goal.returns-in-Ctd
returns-in-Ctd c =
    let w = rw c.in-Ok.is at c.table_of.ensures in
    answer _ c.in-Ok.t w.0 w.1 1 (one_profile w.0.sort _ c.in-Ok.t.profiles w.1.kind c.in-Ctd.is)

pub returns-in_default : goal.returns-in_default
returns-in_default c =
    let w = rw c.in-Ok.is at c.table_of.ensures in
    answer _ c.in-Ok.t w.0 w.1 _ (runs_profiles w.0.sort _ c.in-Ok.t.profiles w.1.kind c.in_default.not-Ctd)

pub returns-in-Err : goal.returns-in-Err
returns-in-Err c = answer-refused _ c.in-Err.r (rw c.in-Err.is at c.table_of.ensures)
