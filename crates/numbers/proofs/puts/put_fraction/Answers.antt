use Prim.Native.Nat.{◌/◌, ◌%◌}
use mathlib.Core.List.{[], ◌∷◌}
use Rattle.numbers.specs.Texts.{last_digits}
use Rattle.numbers.proofs.PutLaws.{put-none, put_as, room_right, room_left, put_both, point-none, point-some, place-some}
use Rattle.numbers.proofs.puts.put_fraction.Goals as goal

pub returns-then-decimals-eq0 : goal.returns-then-decimals-eq0
returns-then-decimals-eq0 c = put_as (point-none c.args.decimals c.args.size c.if-decimals-eq0.true) (put-none _ _)

pub nonzero_div-last : goal.nonzero_div-last
nonzero_div-last c = place-some c.args.decimals _ c.last_place.ensures

pub put_digits-point-requires : goal.put_digits-point-requires
put_digits-point-requires c =
    let q = point-some c.args.decimals c.args.size _ c.if-decimals-eq0.false c.last_place.ensures in
    room_right (46 ∷ []) (last_digits c.args.decimals (c.args.size % 1000000 / c.last_place.result)) q c.requires.room

pub put_byte-requires : goal.put_byte-requires
put_byte-requires c =
    let l = c.last_place in
    let q = point-some c.args.decimals c.args.size _ c.if-decimals-eq0.false l.ensures in
    room_left (46 ∷ []) (last_digits c.args.decimals (c.args.size % 1000000 / l.result)) q c.requires.room c.put_digits-point.ensures

pub returns : goal.returns
returns c =
    let l = c.last_place in
    let q = point-some c.args.decimals c.args.size _ c.if-decimals-eq0.false l.ensures in
    put_both (46 ∷ []) (last_digits c.args.decimals (c.args.size % 1000000 / l.result)) q c.requires.room c.put_digits-point.ensures c.put_byte.ensures
