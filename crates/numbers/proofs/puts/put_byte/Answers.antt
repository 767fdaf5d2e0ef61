use Rattle.numbers.proofs.PutLaws.{put-none, put_byte}
use Rattle.numbers.proofs.puts.put_byte.Goals as goal

pub returns : goal.returns
returns c = let a = c.args in put_byte a.b c.requires.fits c.requires.inside (put-none a.file.now a.end)
