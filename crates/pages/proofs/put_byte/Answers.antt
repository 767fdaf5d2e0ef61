use Rattle.pages.proofs.PageLaws.{byte_put, byte_left}
use Rattle.pages.proofs.put_byte.Goals as goal

pub returns-then-at-room : goal.returns-then-at-room
returns-then-at-room c = byte_put _ _ _ c.if-at-room.true

pub returns : goal.returns
returns c = byte_left _ _ _ c.if-at-room.false
