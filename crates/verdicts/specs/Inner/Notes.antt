-- The words of the contracts of src/notes.rt; no promise of a public call cites them.
use Rattle.std.specs.Prelude.{ℕ, cond, ◌&&◌, eqb}
use Rattle.verdicts.specs.declared.Judged.{Judged}
use Rattle.verdicts.specs.Kinds.{measured, code_of}

-- what a good cell adds to the missing readings
unfoldable pub share : ℕ → Judged → ℕ
share k j = cond (eqb k (code_of measured) && (j.minus && eqb j.size 999000000)) 1 0
