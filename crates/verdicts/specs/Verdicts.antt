-- Document 01, "Refusal numbers" 16 to 18: a text judged by its kind, and what a verdict says.
use Rattle.std.specs.Prelude.{ℕ, ◌^◌, Bool, true, false, cond, ltb, ℤ, pos, neg_ℤ}

-- A text judged: blank where a kind is asked, not of its kind, of its kind but out of range, or good. What is good writes a number:
-- its sign, its size (a decimal's in millionths), and the decimals as written.
pub data Verdict : Type 0 where
  blank : Verdict
  wrong : Verdict
  out_of_range : Verdict
  good : (minus : Bool) (size decimals : ℕ) → Verdict

abbrev pub is_good : Verdict → Bool
is_good blank = false
is_good wrong = false
is_good out_of_range = false
is_good (good m v d) = true

-- the refusal's number; 0 where there is none
abbrev pub number_of : Verdict → ℕ
number_of blank = 17
number_of wrong = 16
number_of out_of_range = 18
number_of (good m v d) = 0

-- what is written: the size, the decimals, and a decimal's millionths; 0 where it is refused
abbrev pub size_of : Verdict → ℕ
size_of blank = 0
size_of wrong = 0
size_of out_of_range = 0
size_of (good m v d) = v

abbrev pub decimals_of : Verdict → ℕ
decimals_of blank = 0
decimals_of wrong = 0
decimals_of out_of_range = 0
decimals_of (good m v d) = d

-- the number of that sign and size; minus zero is 0. A size of 10^15 or more gives 0, and no text that is good writes one: its number is the one written
-- (laws, Promises: NumbersWritten)
unfoldable pub signed : Bool → ℕ → ℤ
signed minus size = cond (ltb size (10 ^ 15)) (cond minus (neg_ℤ (pos size)) (pos size)) (pos 0)

abbrev pub millionths_of : Verdict → ℤ
millionths_of blank = pos 0
millionths_of wrong = pos 0
millionths_of out_of_range = pos 0
millionths_of (good m v d) = signed m v
