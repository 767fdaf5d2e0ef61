-- The search by place is that among the names.
use Rattle.std.proofs.Common.{rules}
use Rattle.std.proofs.lemmas.Iterator.{YieldsList-from_slice}
use Rattle.std.proofs.lemmas.Iterator.Search.{position_from_yields_List}
use mathlib.Core.Path.{◌∙◌}
use Prim.Native.Nat.{◌+◌}
use Rattle.line_bytes.specs.Bytes.{equal}
use Rattle.line_bytes.specs.declared.Span.{Span}
use Rattle.format.specs.Inner.Names.{text_in}
use Rattle.format.proofs.NameLaws.{names-position}
use Rattle.names.proofs.place_of.Goals as goal

pub returns : goal.returns
returns c =
    let a = c.args in
    position_from_yields_List (λ (p : Span). equal (text_in a.s.now p.start (p.start + p.len)) a.name.now) _ _ c.position.result c.position.ensures.ran (YieldsList-from_slice a.places.now cc) (λ x b q k. search rules)
    ∙ names-position a.name.now a.s.now a.places.now
