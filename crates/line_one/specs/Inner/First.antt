-- The words of the contracts of line 1's reading. No promise of a public call cites them.
use Rattle.std.specs.Prelude.{ℕ, ◌+◌, List, true, cond, length, eqb, Option, Some, None, Result, Ok, Err}
use Rattle.line_bytes.specs.Cells.{line_at}
use Rattle.line_one.specs.declared.First.{First}
use Rattle.format.specs.declared.BrokenRule.{BrokenRule}
use Rattle.format.specs.declared.FileKind.{FileKind}
use Rattle.format.specs.declared.FileKind.TheVariants.{Bottle, Ctd}
use Rattle.format.specs.Faults.{Fault, clean, breaks, ◌then◌, first_of}
use Rattle.format.specs.Places.{is_bottle, is_ctd, first_line_rules}
use Rattle.format.specs.Inner.Lines.{line_fault_at}

-- the kind of file that a line says, if it says one
abbrev pub kind_said : List ℕ → Option FileKind
kind_said x = cond (is_bottle x) (Some Bottle) (cond (is_ctd x) (Some Ctd) None)

-- the rules of line 1: where there is none, 14
unfoldable pub first_fault : List ℕ → Fault
first_fault s = cond (eqb (length s) 0) (breaks 14 1) (line_fault_at true s 0 then first_of (first_line_rules (line_at s 0)))

-- the code's line 1, read by rules that say f: where the next line starts and the kind of file, or the broken rule
unfoldable pub first_by : Fault → List ℕ → Result First BrokenRule
first_by clean s = Ok (record { at = length (line_at s 0) + 1; kind = cond (is_bottle (line_at s 0)) Bottle Ctd })
first_by (breaks n c) s = Err (record { number = n; column = c })

abbrev pub first_for : List ℕ → Result First BrokenRule
first_for s = first_by (first_fault s) s
