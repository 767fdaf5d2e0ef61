-- Of the places that are too large to count, all are beyond the text.
use mathlib.Core.Path.{ap, ◌∙◌}
use native.Mathlib.Omega.{arith}
use Prim.Native.Nat.{◌+◌}
use Rattle.format.specs.Inner.Names.{text_in}
use Rattle.format.proofs.NameLaws.{text-most}
use Rattle.names.proofs.name_of.Goals as goal

pub returns : goal.returns
returns c =
    let a = c.args in
    c.trimmed.ensures.content ∙ ap (text_in a.s.now a.place.start) c.saturating_add.ensures ∙ text-most a.s.now a.place.start (a.place.start + a.place.len) 18446744073709551615 (omega arith)
