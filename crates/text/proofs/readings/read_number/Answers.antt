use Rattle.text.proofs.ReadingLaws.{number-whole, number-missing, number-present}
use Rattle.text.proofs.readings.read_number.Goals as goal

pub returns-then-m-eq-MISSING : goal.returns-then-m-eq-MISSING
returns-then-m-eq-MISSING c = number-missing c.args.m c.requires c.if-m-eq-MISSING.true

pub int_to_float-result : goal.int_to_float-result
int_to_float-result c = number-whole c.args.m c.requires

pub returns : goal.returns
returns c = number-present c.args.m c.requires c.if-m-eq-MISSING.false
