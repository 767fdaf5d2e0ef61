use Rattle.rows.proofs.RowLaws.{cells-inside, cells-refused, by-refused, by_count, by_feed, by_whole}
use Rattle.rows.proofs.read_row.Goals.{then-r-kinds-via-then-r-kinds, then-r-kinds-via-else-r-kinds+then-s-r-ne10}
use Rattle.rows.proofs.read_row.Goals as goal

pub overflow_sub-kinds : goal.overflow_sub-kinds
overflow_sub-kinds c =
    let a = c.args in
    (cells-refused a.s.now a.kinds.now a.start a.e _ c.judge_cells-r.ensures c.if-r-ne0.true).0

pub broken_at-requires : goal.broken_at-requires
broken_at-requires c =
    let a = c.args in
    let w = cells-refused a.s.now a.kinds.now a.start a.e _ c.judge_cells-r.ensures c.if-r-ne0.true in
    (w.1, w.2)

pub returns-then-r-ne0 : goal.returns-then-r-ne0
returns-then-r-ne0 c =
    let a = c.args in
    by-refused a.s.now a.kinds.now a.start a.e _ c.judge_cells-r.ensures _ c.if-r-ne0.true c.broken_at.ensures

pub bounds-s-r : goal.bounds-s-r
bounds-s-r c =
    let a = c.args in
    cells-inside a.s.now a.kinds.now a.start a.e _ c.judge_cells-r.ensures c.if-r-ne0.false

pub returns-then-r-kinds : goal.returns-then-r-kinds
returns-then-r-kinds c =
    let a = c.args in
    elim c.then-r-kinds.branch [
      | then-r-kinds-via-then-r-kinds w ↦ by_count a.s.now a.kinds.now a.start a.e _ c.judge_cells-r.ensures c.if-r-ne0.false w.if-r-kinds.true
      | then-r-kinds-via-else-r-kinds+then-s-r-ne10 w ↦
          by_feed a.s.now a.kinds.now a.start a.e _ c.judge_cells-r.ensures c.if-r-ne0.false w.if-r-kinds.false w.if-s-r-ne10.true
    ]

pub returns : goal.returns
returns c =
    let a = c.args in
    by_whole a.s.now a.kinds.now a.start a.e _ c.judge_cells-r.ensures c.if-r-ne0.false c.if-r-kinds.false c.if-s-r-ne10.false
