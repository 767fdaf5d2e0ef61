-- Document 01, "Bench samples": those marked P, each with its kind and its answer, by the definitions that the calls' promises cite.
use Rattle.std.specs.Prelude.{ℕ, ◌≡◌, List, [], ◌∷◌, ◌++◌, map, cond, length, eqb, ℤ, pos, neg_ℤ}
use Prim.Native.String.{String}
use Rattle.verdicts.specs.declared.Judged.{Judged}
use Rattle.text.specs.declared.Reading.{Reading}
use Rattle.text.specs.declared.Reading.TheVariants.{Present, Missing, Refused}
use Rattle.line_bytes.specs.Bytes.{line_feed, comma, bytes}
use Rattle.verdicts.specs.Kinds.{Kind, measured, date, code_of}
use Rattle.verdicts.specs.Judge.{judged_at}
use Rattle.text.specs.Reading.{is_decimal, reading_at}

-- a refusal's number, a missing reading, a present one's millionths, or another kind's number
pub data Answer : Type 0 where
  refused : ℕ → Answer
  missing : Answer
  present : ℤ → Answer
  number : ℕ → Answer

-- the answer of a reading, and of a judged cell
abbrev pub of_reading : Reading → Answer
of_reading (Present m v) = present m
of_reading Missing = missing
of_reading (Refused n l c) = refused n

abbrev pub of_judged : Judged → Answer
of_judged j = cond (eqb j.number 0) (number j.size) (refused j.number)

-- a text read as a line of one cell
abbrev pub sample_gives : Kind → List ℕ → Answer
sample_gives k t =
    cond (is_decimal k)
    (of_reading (reading_at (code_of k) comma (t ++ line_feed ∷ []) 0 (length t)))
    (of_judged (judged_at (code_of k) comma (t ++ line_feed ∷ []) 0 (length t)))

-- a kind, a text of it, and its answer
pub record Sample : Type 0 where
  pub kind : Kind
  pub text : String
  pub gives : Answer

abbrev pub sample : Kind → String → Answer → Sample
sample k t a = record { kind = k; text = t; gives = a }

-- the samples marked P
abbrev pub table : List Sample
table =
    sample measured ".5" (present (pos 500000))
    ∷ sample measured "-.25" (present (neg_ℤ (pos 250000)))
    ∷ sample measured "5." (present (pos 5000000))
    ∷ sample measured "-0.00" (present (pos 0))
    ∷ sample measured "999999999.999999" (present (pos 999999999999999))
    ∷ sample measured "1000000000" (refused 16)
    ∷ sample measured "1.0000000" (refused 16)
    ∷ sample measured "." (refused 16)
    ∷ sample measured "NaN" (refused 16)
    ∷ sample measured "1.2E1" (refused 16)
    ∷ sample measured "-999.00" missing
    ∷ sample measured "-999.01" (present (neg_ℤ (pos 999010000)))
    ∷ sample date "20230229" (refused 18)
    ∷ sample date "20240229" (number 20240229)
    ∷ []

-- each sample gives its answer
abbrev pub SamplesHold : Type 0
SamplesHold = map (λ (x : Sample). sample_gives x.kind (bytes x.text)) table ≡ map (λ (x : Sample). x.gives) table
