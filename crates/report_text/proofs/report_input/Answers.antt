use mathlib.Core.Path.{◌≡◌, subst}
use Rattle.std.proofs.Common.{rules, length}
use Rattle.std.specs.Io.KnownBytes.{Appends}
use Rattle.std.proofs.lemmas.Result.{IfOk-weaker}
use Rattle.report_text.proofs.ReadLaws.{reads-first, reads-enough, reports-file, page-front}
use Rattle.report_text.proofs.report_input.Goals as goal

pub returns-clause-reads : goal.returns-clause-reads
returns-clause-reads g c =
    let r = c.in_ok-n.ensures in
    let long : length c.read_input.new.room ≡ 65537 = search rules in
    let first = reads-first _ _ c.read_input.new.room c.in_ok-n.n r.within r.bytes r.end in
    IfOk-weaker c.write_all.result _ _ (λ _ _. reads-enough _ _ c.read_input.new.room c.in_ok-n.n long first r.bytes) c.write_all.ensures.bytes

pub returns-clause-writes : goal.returns-clause-writes
returns-clause-writes g c =
    let r = c.in_ok-n.ensures in
    let p = c.report_page-length.ensures in
    let first = reads-first _ _ c.read_input.new.room c.in_ok-n.n r.within r.bytes r.end in
    let front = page-front _ _ _ _ p.value p.room_after in
    IfOk-weaker c.write_all.result _ _ (λ _ h. reports-file _ _ _ c.read_input.new.room c.in_ok-n.n first p.read_says (subst (Appends _ _) front h)) c.write_all.ensures.bytes
