use mathlib.Core.Path.{◌≡◌, ◌∙◌}
use mathlib.Core.Bool.{true, false, ◌||◌}
use mathlib.Core.Logic.{⊎_elim}
use native.Mathlib.Omega.{arith}
use lib.Dec.{ltb}
use Rattle.std.proofs.lemmas.Bool.Decides.{nat_tests}
use Rattle.columns.proofs.AskedLaws.{name-room}
use Rattle.format.proofs.LabelLaws.{label-none, label-some}
use Rattle.labels.proofs.label_in.Goals as goal

pub returns-then-not-contains : goal.returns-then-not-contains
returns-then-not-contains c =
    let t : (ltb c.args.column 1 || ltb c.args.columns c.args.column) ≡ true = grind (arith, nat_tests) in
    c.no_place.ensures ∙ label-none _ _ _ _ t

pub overflow_add-p : goal.overflow_add-p
overflow_add-p c = ⊎_elim (λ z. omega (arith, z)) (λ z. omega (arith, z)) (name-room _ _ _ _ c.cell_span-p.ensures)

pub returns : goal.returns
returns c =
    let t : (ltb c.args.column 1 || ltb c.args.columns c.args.column) ≡ false = grind (arith, nat_tests) in
    label-some _ _ _ _ t _ _ c.cell_span-p.ensures c.trim_span.ensures
