use mathlib.Core.Path.{sym, ◌∙◌}
use Rattle.rules.proofs.ExitLaws.{goes-on, ends}
use Rattle.rules.proofs.HeaderRunLaws.{first_ended, first-refused}
use Rattle.rules.proofs.heads.read_headers.Goals as goal

pub returns-then-s-from : goal.returns-then-s-from
returns-then-s-from c = rw c.line_due.ensures (first_ended c.args.s.now c.args.from c.if-s-from.true)

pub returns-in_err-h : goal.returns-in_err-h
returns-in_err-h c =
    let w = ends _ _ c.from_residual.result _ _ c.on_line.ensures c.in_err-h.was c.from_residual.ensures.1 in
    rw w.2 (first-refused c.args.s.now c.args.from c.if-s-from.false (c.requires.2 c.if-s-from.false) _ (sym c.first_header.ensures ∙ w.1))

pub more_headers-requires : goal.more_headers-requires
more_headers-requires c =
    record {
      inside = c.if-s-from.false;
      few = c.requires.1;
      apart = c.requires.2 c.if-s-from.false;
      read = sym c.first_header.ensures ∙ goes-on _ _ _ _ c.on_line.ensures c.in_ok-h.was;
    }
