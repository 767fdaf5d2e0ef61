-- Document 01, "The catalogue": the kinds of columns and headers, and the numbers that the code keeps for them.
use Rattle.std.specs.Prelude.{ℕ, List, [], ◌∷◌, cond, eqb}

-- the four decimal kinds, the flags, the keys of a profile with its date and time, and free text
pub data Kind : Type 0 where
  measured latitude longitude depth : Kind
  flag ctd_flag : Kind
  expocode stnnbr castno date time : Kind
  free : Kind

-- the number of a kind
abbrev pub code_of : Kind → ℕ
code_of measured = 0
code_of latitude = 1
code_of longitude = 2
code_of depth = 3
code_of flag = 4
code_of ctd_flag = 5
code_of expocode = 6
code_of stnnbr = 7
code_of castno = 8
code_of date = 9
code_of time = 10
code_of free = 11

-- the first of some kinds that has the number, and free text where none has it
abbrev pub kind_among : List Kind → ℕ → Kind
kind_among [] n = free
kind_among (k ∷ ks) n = cond (eqb n (code_of k)) k (kind_among ks n)

-- the kind of a number
unfoldable pub kind_of : ℕ → Kind
kind_of n = kind_among (measured ∷ latitude ∷ longitude ∷ depth ∷ flag ∷ ctd_flag ∷ expocode ∷ stnnbr ∷ castno ∷ date ∷ time ∷ []) n
