-- The word of the contracts that look for the end of a line: bytes 20 to 7E, none of which breaks rule 3, 4 or 5 or ends a line.
use Rattle.std.specs.Prelude.{ℕ, Bool, ◌&&◌, leb}

abbrev pub is_plain : ℕ → Bool
is_plain x = leb 0x20 x && leb x 0x7e
