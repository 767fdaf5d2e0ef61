use native.Mathlib.Omega.{arith}
use Rattle.format.specs.Records.{stationed_of}
use Rattle.profiles.proofs.RecordLaws.{answer-room}
use Rattle.profiles.proofs.station.Goals as goal

pub overflow_add-result : goal.overflow_add-result
overflow_add-result c =
    let a = c.args in
    omega (arith, answer-room a.file.now (stationed_of a.file.now a.k a.name.now) _ c.station_place-r.ensures)

pub slice_bounds-result-end : goal.slice_bounds-result-end
slice_bounds-result-end c =
    let a = c.args in
    answer-room a.file.now (stationed_of a.file.now a.k a.name.now) _ c.station_place-r.ensures
