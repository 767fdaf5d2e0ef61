-- The words of the contracts of the lines that rules 1 to 4 alone bind; no promise of a public call cites them.
use Rattle.std.specs.Prelude.{ℕ, ◌+◌, ◌≤◌, ◌<◌, ◌≡◌, List, length, get_or, Result, Ok, Err}
use Rattle.format.specs.declared.BrokenRule.{BrokenRule}
use Rattle.format.specs.declared.Refusal.{Refusal}
use Rattle.rules.specs.declared.free.LineStart.{LineStart}
use Rattle.rules.specs.declared.free.FreeLines.{FreeLines}
use Rattle.rules.specs.declared.free.FreeLines.TheVariants.{Comments, Last}
use Rattle.format.specs.Columns.{Sort}
use Rattle.format.specs.Places.{Table, Place, comments, after, refused, run}
use Rattle.format.specs.Inner.Lines.{lines_from, StartsAt}

-- what was read of line l, or the refusal for the rule that it breaks
abbrev pub on_line : {T : Type 0} → Result T BrokenRule → ℕ → Result T Refusal
on_line (Ok x) l = Ok x
on_line (Err b) l = Err (record { number = b.number; line = l; column = b.column })

-- the refusal for line l, which is due where the file ends
abbrev pub due : ℕ → Refusal
due l = record { number = 14; line = l; column = 1 }

-- the line after line l, its line feed standing at e, or its refusal
abbrev pub after_line : Result ℕ BrokenRule → ℕ → Result LineStart Refusal
after_line (Ok e) l = Ok (record { at = e + 1; line = l + 1 })
after_line (Err b) l = Err (record { number = b.number; line = l; column = b.column })

-- a place that rules 1 to 4 alone bind, and that a line leaves as it is: that of comment lines, for a comment line; that after END_DATA
pub data FreePlace : FreeLines → Place → Type 0 where
  commented : {k : Sort} → FreePlace Comments (comments k)
  ended : {t : Table} {n : ℕ} → FreePlace Last (after t n)

-- the lines at such a place from f on are passed, and r is the next; or one of them breaks a rule
pub record FreePassed (w : FreeLines) (s : List ℕ) (f r : LineStart) : Type 0 where
  pub on : (p : Place) → FreePlace w p → run f.line p (lines_from s f.at) ≡ run r.line p (lines_from s r.at)
  pub inside : (f.at ≤ r.at) × (r.at ≤ length s) × (r.line + f.at ≤ r.at + f.line)
  pub other : r.at < length s → (w ≡ Comments) × (get_or s r.at 0 ≡ 35 → ⊥)
  pub counted : 1 ≤ f.line → StartsAt s f.line f.at → (1 ≤ r.line) × StartsAt s r.line r.at

abbrev pub FreeRead : FreeLines → List ℕ → LineStart → Result LineStart Refusal → Type 0
FreeRead w s f (Ok r) = FreePassed w s f r
FreeRead w s f (Err e) = (p : Place) → FreePlace w p → run f.line p (lines_from s f.at) ≡ refused e.number e.line e.column
