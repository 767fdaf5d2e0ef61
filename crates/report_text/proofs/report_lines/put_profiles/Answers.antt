use mathlib.Core.Path.{◌≡◌, refl, ap, ◌∙◌}
use native.Mathlib.Omega.{arith}
use Rattle.pages.specs.Pages.{lay}
use Rattle.report_text.specs.Report.{profile_lines}
use Rattle.pages.proofs.PageLaws.{text-room, put-after}
use Rattle.report_text.proofs.ReportLaws.{lay_along, profiles-more}
use Rattle.report_text.proofs.report_lines.put_profiles.Goals as goal

pub loop-k-init : goal.loop-k-init
unfolding profile_lines lay
loop-k-init c = (refl, refl)

pub loop-k-preserved : goal.loop-k-preserved
loop-k-preserved c =
    let e = put-after _ _ _ _ _ _ _ _ c.loop-k.invariant.1 c.put_profile-at.ensures in
    (text-room _ _ _ _ _ c.put_profile-at.ensures ∙ c.loop-k.invariant.0, e ∙ ap (lay _) (profiles-more _ c.loop-k.k))

pub returns : goal.returns
returns c =
    let l = c.loop-k in
    let e : l.k ≡ c.args.n = omega arith in
    lay_along _ _ _ _ (ap (profile_lines _) e) l.invariant.1
