use Rattle.lines.proofs.LinePassLaws.{block-none, block-more, block-whole}
use Rattle.lines.proofs.are_plain.Goals as goal

pub loop-b-init : goal.loop-b-init
loop-b-init g c = λ z. block-none _ _ _

pub loop-b-preserved : goal.loop-b-preserved
loop-b-preserved g c = block-more _ _ g.row.N _ _ _ c.requires c.loop-b-test.true c.loop-b.invariant c.is_plain-plain.ensures

pub returns : goal.returns
returns g c = block-whole _ _ _ _ _ c.requires c.loop-b.auto.b-index-end c.loop-b-test.false c.loop-b.invariant
