use mathlib.Core.Path.{◌≡◌}
use mathlib.Core.Bool.{true}
use Rattle.std.proofs.Common.{inl, inr, rules}
use Rattle.numbers.proofs.PutLaws.{place-some}
use Rattle.orders.specs.Corrections.{bad_number}
use Rattle.correction.proofs.DecideLaws.{number_fine, number_large, number_exact}
use Rattle.correction.proofs.deciding.wrong_number.Goals as goal

pub returns-then-size-ge-TOO_LARGE : goal.returns-then-size-ge-TOO_LARGE
returns-then-size-ge-TOO_LARGE c =
    let o = c.args.order in
    let bad : true ≡ bad_number o = elim c.if-size-ge-TOO_LARGE.either [ inl h ↦ number_fine o h | inr h ↦ number_large o (search rules) _ c.size_of-size.ensures h.0 h.1 ] in
    cc

pub nonzero_rem-result : goal.nonzero_rem-result
nonzero_rem-result c = place-some c.args.order.decimals _ c.last_place.ensures

pub returns-else-size-ge-TOO_LARGE : goal.returns-else-size-ge-TOO_LARGE
returns-else-size-ge-TOO_LARGE c =
    let fine = c.if-size-ge-TOO_LARGE.false in
    number_exact c.args.order (search rules) _ c.size_of-size.ensures fine.0 fine.1 _ c.last_place.ensures
