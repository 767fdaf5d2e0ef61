-- The value among all headers is the value among those from the present line on.
use Prim.Native.Nat.{ℕ, ◌-◌}
use mathlib.Core.List.{List}
use Rattle.format.specs.Headers.{Header}
use Rattle.format.specs.Records.{header_value}
use Rattle.format.specs.Inner.Heads.{HeaderLines}
use Rattle.profiles.proofs.ValueLaws.{HeadersLeft}
use Rattle.profiles.proofs.values.header_value.Given as goal

abbrev pub invariant-loop-at : goal.invariant-loop-at
invariant-loop-at l = (line : ℕ) (hs : List Header) → HeaderLines l.s l.names l.first line hs → HeadersLeft l.s l.names l.at l.name (header_value l.s l.name line hs)

abbrev pub decreases-loop-at : goal.decreases-loop-at
decreases-loop-at l = l.names - l.at
