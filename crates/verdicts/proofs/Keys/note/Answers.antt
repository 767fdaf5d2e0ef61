use native.Mathlib.Omega.{arith}
use borrow.Author.Tests.{ne_eqb}
use Rattle.verdicts.specs.Rows.{noted}
use Rattle.verdicts.proofs.Keys.note.Goals as goal

pub returns-then-kind-lt-EXPOCODE : goal.returns-then-kind-lt-EXPOCODE
unfolding noted
returns-then-kind-lt-EXPOCODE c =
    let k = c.args.kind in
    rw (ne_eqb k 6 (λ z. omega arith), ne_eqb k 7 (λ z. omega arith), ne_eqb k 8 (λ z. omega arith))

pub returns-in-6 : goal.returns-in-6
unfolding noted
returns-in-6 c = rw (c.in-6.is, c.part-self.ensures)

pub returns-in-7 : goal.returns-in-7
unfolding noted
returns-in-7 c = rw (c.in-7.is, c.part-self-in-7.ensures)

pub returns-in-8 : goal.returns-in-8
unfolding noted
returns-in-8 c = rw c.in-8.is

pub returns-in_default : goal.returns-in_default
unfolding noted
returns-in_default c =
    let k = c.args.kind in
    rw (ne_eqb k 6 (λ z. omega arith), ne_eqb k 7 (λ z. omega arith), ne_eqb k 8 (λ z. omega arith))
