use mathlib.Core.Path.{◌≡◌, sym, ◌∙◌}
use mathlib.Core.Bool.{true, false}
use lib.Seq.{length-take-le}
use Rattle.line_bytes.specs.Bytes.{bytes}
use Rattle.line_bytes.specs.Cells.{line_at}
use Rattle.format.specs.Places.{is_bottle, is_ctd}
use Rattle.line_one.proofs.FirstLaws.{word-inside, word_is}
use Rattle.line_one.proofs.kind_of_first.Goals as goal

pub slice_bounds-same-end : goal.slice_bounds-same-end
slice_bounds-same-end c =
    sym (length-take-le _ c.args.s.now (word-inside _ _ c.cell_end-q.ensures))

pub slice_bounds-same-end-3 : goal.slice_bounds-same-end-3
slice_bounds-same-end-3 c =
    sym (length-take-le _ c.args.s.now (word-inside _ _ c.cell_end-q.ensures))

pub returns-then-same : goal.returns-then-same
returns-then-same c =
    let s = c.args.s.now in
    let e : is_bottle (line_at s 0) ≡ true = word_is s _ c.cell_end-q.ensures (bytes "BOTTLE") _ c.same.ensures ∙ c.if-same.true in
    rw e

pub returns-then-same-2 : goal.returns-then-same-2
returns-then-same-2 c =
    let s = c.args.s.now in
    let e : is_bottle (line_at s 0) ≡ false = word_is s _ c.cell_end-q.ensures (bytes "BOTTLE") _ c.same.ensures ∙ c.if-same.false in
    let f : is_ctd (line_at s 0) ≡ true = word_is s _ c.cell_end-q.ensures (bytes "CTD") _ c.same-2.ensures ∙ c.if-same-2.true in
    rw (e, f)

pub returns : goal.returns
returns c =
    let s = c.args.s.now in
    let e : is_bottle (line_at s 0) ≡ false = word_is s _ c.cell_end-q.ensures (bytes "BOTTLE") _ c.same.ensures ∙ c.if-same.false in
    let f : is_ctd (line_at s 0) ≡ false = word_is s _ c.cell_end-q.ensures (bytes "CTD") _ c.same-2.ensures ∙ c.if-same-2.false in
    rw (e, f)
