-- The file is opened, then the rows of the profile are found.
use mathlib.Core.Path.{subst, ap, ◌∙◌}
use Rattle.std.specs.Prelude.{Option}
use Rattle.std.specs.Option.{ok_or}
use Rattle.std.proofs.lemmas.Result.{err_from_is_err_and}
use Rattle.profiles.specs.declared.runs.Run.{Run}
use Rattle.profiles.specs.Inner.Values.{RunFound}
use Rattle.profiles.proofs.RecordLaws.{profile-refused, profile-missed, profile-found}
use Rattle.profiles.proofs.runs.profile_at.Goals as goal

pub run_in-requires : goal.run_in-requires
run_in-requires c =
    let q = c.in_ok-o.ensures in
    (q.0 ∙ c.open_file.ensures, q.1)

pub returns-in_err-o : goal.returns-in_err-o
returns-in_err-o c =
    let p = err_from_is_err_and c.from_residual.result c.from_residual.ensures.1 in
    let q = c.in_err-o.ensures in
    rw (p.1, p.2, q.1) (profile-refused _ _ _ c.open_file.ensures q.0)

pub returns-in_err-r : goal.returns-in_err-r
returns-in_err-r c =
    let p = err_from_is_err_and c.from_residual-in_err-r.result c.from_residual-in_err-r.ensures.1 in
    let q = c.in_ok-o.ensures in
    rw (p.1, p.2)
    (profile-missed _ _ _ (q.0 ∙ c.open_file.ensures) q.1 _ _ c.run_in.ensures (c.in_err-r.ensures.value ∙ ap (ok_or c.run_in.result) c.nowhere.ensures))

pub returns : goal.returns
returns c =
    let q = c.in_ok-o.ensures in
    let f = subst (λ (r : Option Run). RunFound c.args.s.now c.in_ok-o.o.checked.rows c.args.k r) c.in_ok-r.ensures.ok_part c.run_in.ensures in
    profile-found _ _ _ (q.0 ∙ c.open_file.ensures) q.1 _ f _ c.line_start.ensures
