-- Document 01, "Decimals" and "Flags": a whole column of a file in one call. Entry j of a lent table, from 0, is what the single call gives for row j + 1
-- (format: ReadingNumbers, Answers); entries past the rows stay, and a refused call changes none. Refusals, in this order: the file's own; 21, no such
-- column; 22, a column of another kind; 29, a table with fewer entries than the file has rows.
use Rattle.std.specs.Prelude.{ℕ, zero, suc, ◌+◌, min, List, [], ◌∷◌, Bool, cond, ◌&&◌, ◌||◌, length, eqb, leb}
use Rattle.verdicts.specs.Kinds.{flag, ctd_flag, kind_of, code_of}
use Rattle.text.specs.Reading.{is_decimal}
use Rattle.format.specs.Places.{Outcome, accepted, refused, outcome_of}
use Rattle.format.specs.Answers.{kind_at}
use Rattle.whole_columns.specs.declared.ColumnRead.{ColumnRead}

-- a table whose first n entries are those of n rows from row r on; the others stay
unfoldable pub filled_from : {A : Type 0} → (ℕ → A) → ℕ → ℕ → List A → List A
filled_from entry r zero xs = xs
filled_from entry r (suc n) [] = []
filled_from entry r (suc n) (x ∷ xs) = entry r ∷ filled_from entry (r + 1) n xs

-- the answer: the rows that are given, or the refusal
abbrev pub rows_given : ℕ → ColumnRead
rows_given n = record { number = 0; line = 0; column = 0; rows = n }

abbrev pub no_column : ℕ → ℕ → ℕ → ColumnRead
no_column a b d = record { number = a; line = b; column = d; rows = 0 }

-- of column c, where the kinds that are read are known and the shortest table has so many entries
abbrev pub column_by : (ℕ → Bool) → ℕ → ℕ → Outcome → ColumnRead
column_by isRead room c (accepted t n) =
    cond (leb 1 c && leb c (length t.names))
    (cond (isRead (kind_at t c)) (cond (leb n room) (rows_given n) (no_column 29 0 0)) (no_column 22 0 0))
    (no_column 21 0 0)
column_by isRead room c (refused a b d) = no_column a b d

-- the kinds of columns that are read as decimals, and those of flag columns
abbrev pub is_decimal_kind : ℕ → Bool
is_decimal_kind k = is_decimal (kind_of k)

abbrev pub is_flag_kind : ℕ → Bool
is_flag_kind k = eqb k (code_of flag) || eqb k (code_of ctd_flag)

-- the decimals of column c in three tables, and its flags in one, of the given numbers of entries
unfoldable pub values_of : List ℕ → ℕ → ℕ → ℕ → ℕ → ColumnRead
values_of f c cases millionths values = column_by is_decimal_kind (min cases (min millionths values)) c (outcome_of f)

unfoldable pub flags_of : List ℕ → ℕ → ℕ → ColumnRead
flags_of f c flags = column_by is_flag_kind flags c (outcome_of f)
