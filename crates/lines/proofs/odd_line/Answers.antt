use Rattle.std.proofs.lemmas.Result.{err_from_is_err_and}
use Rattle.lines.proofs.LinePassLaws.{odd-long, odd_cut, odd-fed}
use Rattle.lines.proofs.odd_line.Goals as goal

pub returns-then-e-at-gt-MOST_BYTES : goal.returns-then-e-at-gt-MOST_BYTES
returns-then-e-at-gt-MOST_BYTES c = odd-long _ _ _ _ c.line_end-e.ensures c.if-e-at-gt-MOST_BYTES.true

pub returns-then-s-e : goal.returns-then-s-e
returns-then-s-e c = rw c.broken_at.ensures (odd_cut _ _ _ _ c.line_end-e.ensures c.if-e-at-gt-MOST_BYTES.false c.if-s-e.true)

pub returns-in_err-byte_rules : goal.returns-in_err-byte_rules
returns-in_err-byte_rules c =
    let p = err_from_is_err_and c.from_residual.result c.from_residual.ensures.1 in
    let f = odd-fed c.args.control _ _ _ c.line_end-e.ensures c.if-e-at-gt-MOST_BYTES.false c.if-s-e.false in
    rw (p.1, p.2) (rw c.in_err-byte_rules.ensures at f)

pub returns : goal.returns
returns c =
    let f = odd-fed c.args.control _ _ _ c.line_end-e.ensures c.if-e-at-gt-MOST_BYTES.false c.if-s-e.false in
    rw c.in_ok-byte_rules.ensures at f
