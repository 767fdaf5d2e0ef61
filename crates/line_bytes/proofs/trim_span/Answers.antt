use Rattle.line_bytes.proofs.SpaceLaws.{span_other, span-counted}
use Rattle.line_bytes.proofs.trim_span.Goals as goal

pub returns-in_default : goal.returns-in_default
returns-in_default c = span_other _ _ _ c.in_default.ensures.lookup.0

pub returns : goal.returns
returns c =
    let w = c.in-Some.ensures.lookup.0 in
    span-counted _ _ _ w.0 w.1 _ _ _ w.2 c.at_end.ensures c.in_front-start.ensures
