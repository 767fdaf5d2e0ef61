use mathlib.Core.Path.{sym, ◌∙◌}
use native.Mathlib.Omega.{arith}
use Rattle.numbers.proofs.PatchLaws.{digit-none, digit-kept, digit_in, digit_is}
use Rattle.numbers.proofs.PutLaws.{cell_room, cell_left, cell_set}
use Rattle.numbers.proofs.set_digit.Goals.{then-digit-gt-LARGEST_DIGIT-via-then-digit-gt-LARGEST_DIGIT, then-digit-gt-LARGEST_DIGIT-via-else-digit-gt-LARGEST_DIGIT+then-not-has_room}
use Rattle.numbers.proofs.set_digit.Goals as goal

pub returns-then-digit-gt-LARGEST_DIGIT : goal.returns-then-digit-gt-LARGEST_DIGIT
returns-then-digit-gt-LARGEST_DIGIT c =
    let a = c.args in
    elim c.then-digit-gt-LARGEST_DIGIT.branch [
      | then-digit-gt-LARGEST_DIGIT-via-then-digit-gt-LARGEST_DIGIT w ↦ digit-none a.file.now a.cell a.digit w.if-digit-gt-LARGEST_DIGIT.true
      | then-digit-gt-LARGEST_DIGIT-via-else-digit-gt-LARGEST_DIGIT+then-not-has_room w ↦
          digit-kept a.file.now a.cell a.digit w.if-digit-gt-LARGEST_DIGIT.false w.has_room.ensures w.if-not-has_room.true
    ]

pub overflow_add-cell : goal.overflow_add-cell
overflow_add-cell c =
    let a = c.args in
    let few = c.if-digit-gt-LARGEST_DIGIT.false in
    let i = digit_in a.file.now a.cell a.digit few c.has_room.ensures c.if-not-has_room.false in
    omega (arith, i.inside)

pub put_byte-place-requires : goal.put_byte-place-requires
put_byte-place-requires c =
    let a = c.args in
    let few = c.if-digit-gt-LARGEST_DIGIT.false in
    let i = digit_in a.file.now a.cell a.digit few c.has_room.ensures c.if-not-has_room.false in
    cell_room i

pub clear-requires : goal.clear-requires
clear-requires c =
    let a = c.args in
    let few = c.if-digit-gt-LARGEST_DIGIT.false in
    let i = digit_in a.file.now a.cell a.digit few c.has_room.ensures c.if-not-has_room.false in
    cell_left i c.put_byte-place.ensures

pub returns : goal.returns
returns c =
    let a = c.args in
    let few = c.if-digit-gt-LARGEST_DIGIT.false in
    let i = digit_in a.file.now a.cell a.digit few c.has_room.ensures c.if-not-has_room.false in
    cell_set i c.put_byte-place.ensures c.clear.ensures ∙ sym (digit_is a.file.now a.cell a.digit few i)
