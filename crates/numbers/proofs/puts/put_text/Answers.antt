use Prim.Native.Nat.{◌/◌}
use mathlib.Core.List.{◌++◌}
use mathlib.Core.Path.{refl}
use Rattle.numbers.specs.Texts.{sign_text, whole_text, fraction_text}
use Rattle.numbers.proofs.PutLaws.{room_right, room_left, put_both}
use Rattle.numbers.proofs.puts.put_text.Goals as goal

pub put_fraction-point-requires : goal.put_fraction-point-requires
put_fraction-point-requires c =
    let a = c.args in
    let w = whole_text (a.size / 1000000) in
    let t = fraction_text a.decimals a.size in
    record { decimals_bound = c.requires.decimals_bound; room = room_right w t refl (room_right (sign_text a.minus) (w ++ t) refl c.requires.room) }

pub put_whole-whole-requires : goal.put_whole-whole-requires
put_whole-whole-requires c =
    let a = c.args in
    let w = whole_text (a.size / 1000000) in
    let t = fraction_text a.decimals a.size in
    room_left w t refl (room_right (sign_text a.minus) (w ++ t) refl c.requires.room) c.put_fraction-point.ensures

pub put_sign-requires : goal.put_sign-requires
put_sign-requires c =
    let a = c.args in
    let w = whole_text (a.size / 1000000) in
    let t = fraction_text a.decimals a.size in
    let r = room_right (sign_text a.minus) (w ++ t) refl c.requires.room in
    room_left (sign_text a.minus) (w ++ t) refl c.requires.room (put_both w t refl r c.put_fraction-point.ensures c.put_whole-whole.ensures)

pub returns : goal.returns
returns c =
    let a = c.args in
    let w = whole_text (a.size / 1000000) in
    let t = fraction_text a.decimals a.size in
    let r = room_right (sign_text a.minus) (w ++ t) refl c.requires.room in
    put_both (sign_text a.minus) (w ++ t) refl c.requires.room (put_both w t refl r c.put_fraction-point.ensures c.put_whole-whole.ensures) c.put_sign.ensures
