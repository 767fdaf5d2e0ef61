use Rattle.correction.proofs.CorrectLaws.{located_here, answer-refused, decides-broken, decides-here}
use Rattle.correction.proofs.deciding.decide.Goals as goal

pub returns-then-at-ne0 : goal.returns-then-at-ne0
returns-then-at-ne0 c = answer-refused _ _ _ c.locate-at.ensures c.if-at-ne0.true

pub returns-in-Some : goal.returns-in-Some
returns-in-Some c = rw c.nowhere.ensures (decides-broken (located_here _ _ _ c.locate-at.ensures c.if-at-ne0.false) c.in-Some.ensures)

pub returns : goal.returns
returns c = decides-here (located_here _ _ _ c.locate-at.ensures c.if-at-ne0.false) c.in_default.ensures _ c.then_some.ensures
