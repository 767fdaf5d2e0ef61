-- The words of the contracts of src/ranges.rt; no promise of a public call cites them.
use Rattle.std.specs.Prelude.{ℕ, ◌^◌, Bool, cond, ltb, eqb}
use Rattle.verdicts.specs.declared.Judged.{Judged}
use Rattle.verdicts.specs.Kinds.{latitude, longitude, code_of}
use Rattle.verdicts.specs.Verdicts.{out_of_range}
use Rattle.verdicts.specs.Judge.{degrees, judged_of}

-- the largest size of a decimal of a kind
abbrev pub top_of : ℕ → ℕ
top_of k = cond (eqb k (code_of latitude)) (degrees 90) (cond (eqb k (code_of longitude)) (degrees 180) (10 ^ 15))

-- a range put to a judged cell
abbrev pub ranged_of : ℕ → Judged → Judged
ranged_of top j = cond (ltb top j.size) (judged_of j.at out_of_range) j

-- a set put to it
abbrev pub within_of : Bool → Judged → Judged
within_of inside j = cond inside j (cond (eqb j.number 0) (judged_of j.at out_of_range) j)
