-- Document 01, "Lines", header lines of a CTD file: NAME = value, split at the first =, spaces round both parts dropped. The first is NUMBER_HEADERS
-- with n from 1 to 64 in one or two digits (H). On one line: 8, 9, then 17, 16, 18 of the value; after the last, 13.
use Rattle.std.specs.Prelude.{ℕ, zero, suc, ◌+◌, List, [], ◌∷◌, map, cond, not, ◌&&◌, length, drop, leb, ltb, eqb}
use Rattle.line_bytes.specs.Bytes.{bytes, equal}
use Rattle.line_bytes.specs.Cells.{first_piece}
use Rattle.line_bytes.specs.Spaces.{trim}
use Rattle.line_bytes.specs.Names.{is_name}
use Rattle.verdicts.specs.Verdicts.{Verdict, blank, wrong, out_of_range, good}
use Rattle.verdicts.specs.Kinds.{measured, free, kind_of, code_of}
use Rattle.verdicts.specs.Judge.{judge, whole_of, unless_blank}
use Rattle.text.specs.Catalogue.{names, kinds, kind_in}
use Rattle.format.specs.Faults.{Fault, unless, kind_fault, member, has_all}

-- the byte =
abbrev pub equals_sign : ℕ
equals_sign = 61

-- what stands before the first =, with its spaces and without; what stands after it, with its spaces
abbrev pub raw_name : List ℕ → List ℕ
raw_name x = first_piece equals_sign x

abbrev pub name_of : List ℕ → List ℕ
name_of x = trim (raw_name x)

abbrev pub value_of : List ℕ → List ℕ
value_of x = drop (length (raw_name x) + 1) x

-- a header: its name, and what stands after its =, with the spaces
pub record Header : Type 0 where
  pub name : List ℕ
  pub value : List ℕ

abbrev pub header_of : List ℕ → Header
header_of x = record { name = name_of x; value = value_of x }

abbrev pub names_in : List Header → List (List ℕ)
names_in hs = map (λ (h : Header). h.name) hs

-- 8: a header has an =, and before it a name of 1 to 64 bytes
unfoldable pub header_name_rule : List ℕ → Fault
header_name_rule x = unless (ltb (length (raw_name x)) (length x) && leb (length (name_of x)) 64 && is_name (name_of x)) 8 1

-- how many headers a NUMBER_HEADERS line says; 0 where it is bad
abbrev pub count_in : Verdict → ℕ
count_in blank = 0
count_in wrong = 0
count_in out_of_range = 0
count_in (good m v d) = cond (leb v 64) v 0

unfoldable pub headers_said : List ℕ → ℕ
headers_said x = cond (equal (name_of x) (bytes "NUMBER_HEADERS")) (count_in (unless_blank (whole_of 2) (trim (value_of x)))) 0

-- the first header: 8, for its name and for what it says
unfoldable pub first_header_rules : List ℕ → List Fault
first_header_rules x = header_name_rule x ∷ unless (ltb 0 (headers_said x)) 8 1 ∷ []

-- only the station names are judged in headers: a measured name is free there
unfoldable pub header_kind : List ℕ → ℕ
header_kind n = cond (eqb (kind_in names kinds n) (code_of measured)) (code_of free) (kind_in names kinds n)

-- a later header, after those of the earlier names: 8, 9, then 17, 16, 18; a value is shown just after its =
unfoldable pub header_rules : List (List ℕ) → List ℕ → List Fault
header_rules earlier x =
    header_name_rule x
    ∷ unless (not (member (name_of x) earlier)) 9 1
    ∷ kind_fault (judge (kind_of (header_kind (name_of x))) (value_of x)) (length (raw_name x) + 2)
    ∷ []

-- 13 (002): the names that a bottle file has as columns and a CTD file as headers
abbrev pub station_names : List (List ℕ)
station_names = map bytes ("EXPOCODE" ∷ "STNNBR" ∷ "CASTNO" ∷ "DATE" ∷ "LATITUDE" ∷ "LONGITUDE" ∷ [])

-- 13 belongs to the last header, where none is due after it
unfoldable pub last_header_rules : ℕ → List Header → List Fault
last_header_rules zero hs = unless (has_all station_names (names_in hs)) 13 1 ∷ []
last_header_rules (suc due) hs = []
