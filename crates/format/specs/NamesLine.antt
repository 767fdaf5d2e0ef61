-- Document 01, "Lines", names line: what is asked of a names line x, whatever its bytes; x goes up to its line feed, or to the end of the bytes where it has
-- none. Columns count from 1. On the names line of an accepted file these are the file's own (laws: OpenedReads).
use Rattle.std.specs.Prelude.{ℕ, zero, suc, ◌+◌, List, [], cond, get_or}
use Rattle.format.specs.Faults.{member, place_in}
use Rattle.format.specs.Columns.{names_of, kind_of_name, flag_from}

-- the name of column c; the empty text where the line has no such column
unfoldable pub name_in_line : List ℕ → ℕ → List ℕ
name_in_line x zero = []
name_in_line x (suc c) = get_or (names_of x) c []

-- its kind, which is free text where there is none, and the number of its flag column, 0 where it has none
unfoldable pub kind_in_line : List ℕ → ℕ → ℕ
kind_in_line x c = kind_of_name (name_in_line x c)

unfoldable pub flag_in_line : List ℕ → ℕ → ℕ
flag_in_line x c = flag_from 1 (name_in_line x c) (names_of x)

-- the number of the column of a name, compared as it is; 0 where there is none
abbrev pub number_among : List ℕ → List (List ℕ) → ℕ
number_among n ns = cond (member n ns) (place_in n ns + 1) 0

unfoldable pub column_in_line : List ℕ → List ℕ → ℕ
column_in_line x n = number_among n (names_of x)
