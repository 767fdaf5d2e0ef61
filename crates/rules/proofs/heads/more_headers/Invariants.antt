-- The run from the start is what is left from the present line on, after the headers read.
use Prim.Native.Nat.{◌+◌, ◌≤◌}
use mathlib.Core.Path.{◌≡◌}
use lib.ListN.{length, take}
use Rattle.rules.proofs.HeaderRunLaws.{HeadersOn}
use Rattle.rules.proofs.heads.more_headers.Given as goal

abbrev pub invariant-loop-count : goal.invariant-loop-count
invariant-loop-count l =
    (l.fn.from.line + l.count ≤ l.at + 2) × (l.at ≤ length l.s) × (length l.places ≡ 64)
    × HeadersOn l.s l.fn.from l.said l.count (take l.count l.places) l.at
