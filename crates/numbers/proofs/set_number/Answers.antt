use mathlib.Core.Path.{sym, ◌∙◌}
use native.Mathlib.Omega.{arith}
use Rattle.numbers.proofs.PatchLaws.{number-none, number-kept, number_in_lem, number_is}
use Rattle.numbers.proofs.PutLaws.{cell_room, cell_left, cell_set}
use Rattle.numbers.proofs.set_number.Goals.{then-decimals-gt-MOST_DECIMALS-via-then-decimals-gt-MOST_DECIMALS, then-decimals-gt-MOST_DECIMALS-via-else-decimals-gt-MOST_DECIMALS+then-not-has_room}
use Rattle.numbers.proofs.set_number.Goals as goal

pub returns-then-decimals-gt-MOST_DECIMALS : goal.returns-then-decimals-gt-MOST_DECIMALS
returns-then-decimals-gt-MOST_DECIMALS c =
    let a = c.args in
    elim c.then-decimals-gt-MOST_DECIMALS.branch [
      | then-decimals-gt-MOST_DECIMALS-via-then-decimals-gt-MOST_DECIMALS w ↦ number-none a.file.now a.cell a.minus a.size a.decimals w.if-decimals-gt-MOST_DECIMALS.true
      | then-decimals-gt-MOST_DECIMALS-via-else-decimals-gt-MOST_DECIMALS+then-not-has_room w ↦
          number-kept a.file.now a.cell a.minus a.size a.decimals w.if-decimals-gt-MOST_DECIMALS.false w.text_length.ensures w.has_room.ensures w.if-not-has_room.true
    ]

pub overflow_add-cell : goal.overflow_add-cell
overflow_add-cell c =
    let a = c.args in
    let few = c.if-decimals-gt-MOST_DECIMALS.false in
    let i = number_in_lem a.file.now a.cell a.minus a.size a.decimals few c.text_length.ensures c.has_room.ensures c.if-not-has_room.false in
    omega (arith, i.inside)

pub put_text-start-requires : goal.put_text-start-requires
put_text-start-requires c =
    let a = c.args in
    let few = c.if-decimals-gt-MOST_DECIMALS.false in
    let i = number_in_lem a.file.now a.cell a.minus a.size a.decimals few c.text_length.ensures c.has_room.ensures c.if-not-has_room.false in
    record { decimals_bound = few; room = cell_room i }

pub clear-requires : goal.clear-requires
clear-requires c =
    let a = c.args in
    let few = c.if-decimals-gt-MOST_DECIMALS.false in
    let i = number_in_lem a.file.now a.cell a.minus a.size a.decimals few c.text_length.ensures c.has_room.ensures c.if-not-has_room.false in
    cell_left i c.put_text-start.ensures

pub returns : goal.returns
returns c =
    let a = c.args in
    let few = c.if-decimals-gt-MOST_DECIMALS.false in
    let i = number_in_lem a.file.now a.cell a.minus a.size a.decimals few c.text_length.ensures c.has_room.ensures c.if-not-has_room.false in
    cell_set i c.put_text-start.ensures c.clear.ensures ∙ sym (number_is a.file.now a.cell a.minus a.size a.decimals few i)
