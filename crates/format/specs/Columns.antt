-- Document 01, "Lines", names line, and "The catalogue": one to 256 names (H), each unique; flag columns and their parameters; the kind of each column.
-- Cell by cell: 11, 10, 9; then 12 from the left; then 13.
use Rattle.std.specs.Prelude.{ℕ, ◌+◌, List, [], ◌∷◌, ◌++◌, map, Bool, cond, not, ◌&&◌, ◌||◌, length, take, ltb}
use Rattle.line_bytes.specs.Bytes.{comma, bytes, equal}
use Rattle.line_bytes.specs.Cells.{pieces}
use Rattle.line_bytes.specs.Spaces.{trim}
use Rattle.line_bytes.specs.Names.{is_name, parameter_length, begins_ctd}
use Rattle.verdicts.specs.Kinds.{flag, ctd_flag, code_of}
use Rattle.text.specs.Catalogue.{names, kinds, kind_in}
use Rattle.format.specs.Faults.{Fault, unless, member, has_all}
use Rattle.format.specs.Headers.{station_names}

-- a bottle or a CTD file
pub data Sort : Type 0 where
  bottle ctd : Sort

-- the names from the cell at column c on, after the earlier names: 11, 10, 9 of each
unfoldable pub name_rules : ℕ → List (List ℕ) → List (List ℕ) → List Fault
name_rules c earlier [] = []
name_rules c earlier (t ∷ ts) =
    unless (ltb (length earlier) 256) 11 c
    ∷ unless (is_name (trim t)) 10 c
    ∷ unless (not (member (trim t) earlier)) 9 c
    ∷ name_rules (c + length t + 1) (earlier ++ trim t ∷ []) ts

-- a flag column's name, and its parameter's
abbrev pub is_flag : List ℕ → Bool
is_flag n = ltb 0 (parameter_length n)

abbrev pub parameter_of : List ℕ → List ℕ
parameter_of n = take (parameter_length n) n

-- what stands before _FLAG_W is another column of the line and no flag column
unfoldable pub has_parameter : List (List ℕ) → List ℕ → Bool
has_parameter ns n = not (is_flag (parameter_of n)) && member (parameter_of n) ns

-- 12 from the left, from the cell at column c on, the line's names being ns
unfoldable pub flag_rules : ℕ → List (List ℕ) → List (List ℕ) → List Fault
flag_rules c ns [] = []
flag_rules c ns (t ∷ ts) = unless (not (is_flag (trim t)) || has_parameter ns (trim t)) 12 c ∷ flag_rules (c + length t + 1) ns ts

-- 13: the required names of the line
abbrev pub required_names : Sort → List (List ℕ)
required_names bottle = station_names
required_names ctd = bytes "CTDPRS" ∷ []

-- the names of the line
abbrev pub names_of : List ℕ → List (List ℕ)
names_of x = map trim (pieces comma x)

-- the names line of a bottle or a CTD file
unfoldable pub names_line_rules : Sort → List ℕ → List Fault
names_line_rules k x = name_rules 1 [] (pieces comma x) ++ flag_rules 1 (names_of x) (pieces comma x) ++ unless (has_all (required_names k) (names_of x)) 13 1 ∷ []

-- the kind of the column of a name, as the code's number
unfoldable pub kind_of_name : List ℕ → ℕ
kind_of_name n = cond (is_flag n) (cond (begins_ctd (parameter_of n)) (code_of ctd_flag) (code_of flag)) (kind_in names kinds n)

-- the place of the flag column of the name n, the first of the list standing at place k; 0 where there is none
unfoldable pub flag_from : ℕ → List ℕ → List (List ℕ) → ℕ
flag_from k n [] = 0
flag_from k n (x ∷ xs) = cond (is_flag x && equal (parameter_of x) n) k (flag_from (k + 1) n xs)

-- of each column of the names line: its kind, and the place of its flag column from 1, 0 where it has none
abbrev pub kinds_of : List (List ℕ) → List ℕ
kinds_of ns = map kind_of_name ns

abbrev pub flags_of : List (List ℕ) → List ℕ
flags_of ns = map (λ (n : List ℕ). flag_from 1 n ns) ns
