-- The loop's invariant: every byte passed is one of a word.
use native.Mathlib.Omega.{arith}
use borrow.Author.Rules.{rules}
use Rattle.line_bytes.specs.Inner.Scans.{Scan}
use Rattle.cells.proofs.ScanLaws.{stop_on, word-short}
use Rattle.cells.proofs.scans.Line.word_end.Goals as goal

pub loop-i-init : goal.loop-i-init
loop-i-init c = (search rules, search rules, Scan.still)

pub returns-then-b-self : goal.returns-then-b-self
returns-then-b-self c = let a = c.loop-i.invariant in record { low = a.0; high = a.1; over = a.2; stops = rw c.if-b-self.true }

pub loop-i-smaller : goal.loop-i-smaller
loop-i-smaller c = omega (arith, word-short (stop_on c.args.self c.loop-i.invariant.1) (rw c.if-b-self.false))

pub loop-i-preserved : goal.loop-i-preserved
loop-i-preserved c =
    let l = word-short (stop_on c.args.self c.loop-i.invariant.1) (rw c.if-b-self.false) in
    (omega arith, omega (arith, l), Scan.more c.loop-i.invariant.2 (omega arith) (rw c.if-b-self.false))
