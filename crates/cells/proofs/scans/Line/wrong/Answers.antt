use Rattle.cells.proofs.scans.Line.wrong.Goals as goal

pub returns : goal.returns
returns c = rw (c.refused.ensures, c.text_end.ensures.0)
