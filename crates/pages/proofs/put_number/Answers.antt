use native.Mathlib.Omega.{arith}
use mathlib.Core.Path.{◌∙◌, ap}
use Rattle.pages.specs.Pages.{lay}
use Rattle.pages.proofs.NumberLaws.{fewest-whole}
use Rattle.pages.proofs.put_number.Goals as goal

pub returns : goal.returns
returns c =
    let d = c.decimal-count.ensures in
    c.put.ensures ∙ ap (lay _) (d.digits ∙ fewest-whole _ _ (omega arith) d.len)
