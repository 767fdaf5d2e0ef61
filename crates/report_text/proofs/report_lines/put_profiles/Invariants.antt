use mathlib.Core.Path.{◌≡◌}
use lib.ListN.{length}
use Rattle.pages.specs.Pages.{page, lay}
use Rattle.report_text.specs.Report.{profile_lines}
use Rattle.report_text.proofs.report_lines.put_profiles.Given as goal

abbrev pub invariant-loop-k : goal.invariant-loop-k
invariant-loop-k l = (length l.room ≡ length l.initial.room) × (page l.room l.at ≡ lay (page l.initial.room l.from) (profile_lines l.file l.k))
