-- Document 01, "Refusal numbers": a line keeps its rules, or breaks one, with its number and the column shown; of two rules the first broken one counts.
use Rattle.std.specs.Prelude.{ℕ, suc, List, [], ◌∷◌, Bool, true, false, cond, ◌||◌, ◌&&◌}
use Rattle.line_bytes.specs.Bytes.{equal}
use Rattle.verdicts.specs.Verdicts.{Verdict, blank, wrong, out_of_range, good, number_of}

pub data Fault : Type 0 where
  clean : Fault
  breaks : (number column : ℕ) → Fault

infixr 4 ◌then◌
abbrev pub ◌then◌ : Fault → Fault → Fault
clean then g = g
(breaks n c) then g = breaks n c

-- of some rules in their order, the first broken one
unfoldable pub first_of : List Fault → Fault
first_of [] = clean
first_of (r ∷ rs) = r then first_of rs

-- broken by n, shown at column c, unless b
abbrev pub unless : Bool → ℕ → ℕ → Fault
unless b n c = cond b clean (breaks n c)

-- rules 17, 16 and 18 of a text judged by its kind
abbrev pub kind_fault : Verdict → ℕ → Fault
kind_fault blank c = breaks (number_of blank) c
kind_fault wrong c = breaks (number_of wrong) c
kind_fault out_of_range c = breaks (number_of out_of_range) c
kind_fault (good m v d) c = clean

-- a name is one of a list
unfoldable pub member : List ℕ → List (List ℕ) → Bool
member n [] = false
member n (x ∷ xs) = equal x n || member n xs

-- all of some names are
unfoldable pub has_all : List (List ℕ) → List (List ℕ) → Bool
has_all [] xs = true
has_all (n ∷ ns) xs = member n xs && has_all ns xs

-- the place of a name in a list, from 0; the list's length where it is not there
unfoldable pub place_in : List ℕ → List (List ℕ) → ℕ
place_in n [] = 0
place_in n (x ∷ xs) = cond (equal x n) 0 (suc (place_in n xs))
