use Prim.Native.Nat.{◌-◌}
use mathlib.Core.Path.{◌≡◌, ◌∙◌}
use lib.ListN.{length, get_or, take}
use Rattle.std.proofs.Common.{rules, tests}
use Rattle.std.proofs.lemmas.Iterator.{YieldsList-from_slice}
use Rattle.std.proofs.lemmas.Iterator.Search.{all_from_yields_List}
use Rattle.list_lines.proofs.LastFeedLaws.{is_field_byte, one-line, no-line}
use Rattle.list_lines.proofs.fields.is_one_line.Goals as goal

pub returns-in-10 : goal.returns-in-10
returns-in-10 c =
    let s = c.args.line.now in
    let last : get_or s (length s - 1) 0 ≡ 10 = search rules in
    all_from_yields_List is_field_byte _ _ _ c.all.ensures.ran (YieldsList-from_slice (take (length s - 1) s) cc) (λ x b q k. search (rules, tests))
    ∙ one-line s c.in-10.len_at_least last

pub returns-in_default-2 : goal.returns-in_default-2
returns-in_default-2 c = no-line c.args.line.now c.in_default.len_at_least (search rules)
