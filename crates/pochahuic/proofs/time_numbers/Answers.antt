use mathlib.Core.Path.{sym, ap}
use Rattle.pochahuic.specs.Numbers.{time_numbers}
use Rattle.pochahuic.proofs.time_numbers.Goals as goal

pub returns-in-Given : goal.returns-in-Given
returns-in-Given c = ap time_numbers (sym c.in-Given.is)
