-- The stated claim.
use mathlib.Core.Path.{refl}
use Rattle.pochahuic_walk.specs.Cursors.{KeepsCursor}

pub keeps_cursor : KeepsCursor
keeps_cursor x = refl
