use Prim.Native.Nat.{◌≤◌}
use mathlib.Core.Path.{◌≡◌}
use mathlib.Core.Bool.{true, false, ◌&&◌}
use native.Mathlib.Omega.{arith}
use lib.Dec.{eqb, ltb}
use Rattle.std.proofs.lemmas.Bool.Decides.{nat_tests}
use Rattle.format.proofs.ByPlaceLaws.{lacks-first, lacks-feed, lacks-cell, span_lacks, span_has, span-feed}
use Rattle.opened.proofs.PartLaws.{part_none, part-found}
use Rattle.opened.proofs.part_in.Goals as goal

pub returns-then-column-lt1 : goal.returns-then-column-lt1
returns-then-column-lt1 c =
    let a = c.args in
    part_none a.file.now a.at a.column (lacks-first a.file.now a.at a.column (omega arith))

pub returns-then-p-eq0 : goal.returns-then-p-eq0
returns-then-p-eq0 c =
    let a = c.args in
    let o : 1 ≤ a.column = omega arith in
    let t : (ltb 1 a.column && eqb c.cell_span-p.result.start 0) ≡ true = grind (arith, nat_tests) in
    part_none a.file.now a.at a.column (lacks-cell a.file.now a.at a.column (span_lacks a.file.now a.at a.column o c.cell_span-p.result c.cell_span-p.ensures t))

pub returns-then-file-feed : goal.returns-then-file-feed
returns-then-file-feed c =
    let a = c.args in
    let o : 1 ≤ a.column = omega arith in
    let t : (ltb 1 a.column && eqb c.cell_span-p.result.start 0) ≡ false = grind (arith, nat_tests) in
    let m = span_has a.file.now a.at a.column o c.cell_span-p.result c.cell_span-p.ensures t in
    let f = span-feed a.file.now a.at a.column o c.cell_span-p.result c.cell_span-p.ensures m in
    part_none a.file.now a.at a.column (lacks-feed a.file.now a.at a.column (omega (arith, f, c.line_end-feed.ensures, c.if-file-feed.true)) o)

pub returns : goal.returns
returns c =
    let a = c.args in
    let o : 1 ≤ a.column = omega arith in
    let t : (ltb 1 a.column && eqb c.cell_span-p.result.start 0) ≡ false = grind (arith, nat_tests) in
    let m = span_has a.file.now a.at a.column o c.cell_span-p.result c.cell_span-p.ensures t in
    part-found a.file.now a.at a.column c.cell_span-p.result c.line_end-feed.result c.cell_span-p.ensures c.line_end-feed.ensures o m c.if-file-feed.false
