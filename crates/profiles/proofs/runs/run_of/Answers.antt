-- One walk over the data lines: the rows of profile k among all are those passed, then those among the rest.
use Prim.Native.Nat.{ℕ, ◌+◌}
use mathlib.Core.Path.{◌≡◌, sym, subst, ap, ◌∙◌}
use mathlib.Core.Bool.{cond}
use lib.Dec.{eqb}
use Rattle.std.specs.Prelude.{Some}
use Rattle.line_bytes.specs.Inner.Scans.{Stop}
use Rattle.format.specs.Inner.Rows.{key_at}
use Rattle.rows.proofs.RowLaws.{row_keys}
use Rattle.profiles.specs.Inner.Profiles.{with_noted}
use Rattle.profiles.proofs.ProfileLaws.{label_next, next_first, next_other, next_same, Walked, walk_first, walk-row, walk_end, noted_by, passed_by}
use Rattle.profiles.proofs.runs.run_of.Goals.{then-row-eq0, then-row-eq0-via-then-row-eq0, then-row-eq0-via-else-row-eq0+then-not-same_keys, else-row-eq0+else-not-same_keys, then-label-k, else-label-k}
use Rattle.profiles.proofs.runs.run_of.Goals as goal

pub loop-row-preserved : goal.loop-row-preserved
loop-row-preserved c =
    let s = c.args.s.now in
    let l = c.loop-row in
    let h = c.loop-row-test.true in
    let f = walk_first l.invariant h in
    let t = subst (Stop 44 s l.at) (sym c.line_end-e.ensures) f.stop in
    let keys = c.judge_cells.result.keys in
    let next = c.if-row-eq0.label in
    let x = key_at s l.last in
    let y = key_at s keys in
    let m : next ≡ label_next l.row x l.label y = elim c.if-row-eq0.branch [
      | then-row-eq0 w ↦ elim w.then-row-eq0.branch [
        | then-row-eq0-via-then-row-eq0 v ↦ next_first l.row x l.label y next v.if-row-eq0.true w.label-is
        | then-row-eq0-via-else-row-eq0+then-not-same_keys v ↦ next_other l.row x l.label y next _ v.same_keys.ensures v.if-not-same_keys.true w.label-is
      ]
      | else-row-eq0+else-not-same_keys w ↦ next_same l.row x l.label y next _ w.same_keys.ensures w.if-not-same_keys.false w.if-row-eq0.false w.label-is
    ] in
    let e : c.if-label-k.run ≡ cond (eqb next c.args.k) (Some (with_noted l.run (l.row + 1))) l.run = elim c.if-label-k.branch [
      | then-label-k w ↦ noted_by next c.args.k l.run _ (l.row + 1) w.if-label-k.true (w.run-is ∙ ap Some w.noted.ensures)
      | else-label-k w ↦ passed_by next c.args.k l.run _ (l.row + 1) w.if-label-k.false w.run-is
    ] in
    subst (λ (j : ℕ). Walked s c.args.kinds.now c.args.start c.args.n c.args.k (j + 1) (l.row + 1) next keys c.if-label-k.run) (sym c.line_end-e.ensures)
    (walk-row l.invariant h keys next _ (row_keys s c.args.kinds.now l.at _ t c.requires.1 _ c.judge_cells.ensures f.rules) m e)

pub returns : goal.returns
returns c = walk_end c.loop-row.invariant c.loop-row-test.false
