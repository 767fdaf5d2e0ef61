-- The rows of a bottle file by its columns' kinds; a CTD file is one profile.
use mathlib.Core.Path.{sym, ◌∙◌}
use Rattle.format.proofs.OpenedLaws.{opened-table}
use Rattle.profiles.proofs.RecordLaws.{columns-stand, kinds-room, kinds-some, bottle-rows, bottle-run, ctd-run, ctd-none}
use Rattle.profiles.proofs.runs.run_in.Goals as goal

pub unwrap-c-requires : goal.unwrap-c-requires
unwrap-c-requires c = columns-stand (opened-table _ _ c.requires.0 c.requires.1) c.in-Bottle.is _ c.read_columns.ensures

pub shared_ref_as_front-run_of : goal.shared_ref_as_front-run_of
shared_ref_as_front-run_of c = kinds-room (opened-table _ _ c.requires.0 c.requires.1) c.in-Bottle.is _ (sym c.read_columns.ensures ∙ c.unwrap-c.ensures)

pub run_of-requires : goal.run_of-requires
run_of-requires c =
    let w = opened-table _ _ c.requires.0 c.requires.1 in
    let e = sym c.read_columns.ensures ∙ c.unwrap-c.ensures in
    (bottle-rows w c.in-Bottle.is _ e, kinds-some w c.in-Bottle.is _ e)

pub returns-in-Bottle : goal.returns-in-Bottle
returns-in-Bottle c = bottle-run (opened-table _ _ c.requires.0 c.requires.1) c.in-Bottle.is _ (sym c.read_columns.ensures ∙ c.unwrap-c.ensures) _ _ c.run_of.ensures

pub returns-in_default : goal.returns-in_default
returns-in_default c = ctd-run (opened-table _ _ c.requires.0 c.requires.1) c.in_default.not-Bottle _ c.if-k-eq1.true

pub returns-in_default-2 : goal.returns-in_default-2
returns-in_default-2 c = ctd-none (opened-table _ _ c.requires.0 c.requires.1) c.in_default-2.not-Bottle _ c.if-k-eq1.false
