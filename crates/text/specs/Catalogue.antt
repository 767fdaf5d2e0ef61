-- Document 01, "The catalogue": the names under their kinds. The table has them padded with zeros to 16 bytes, in rising byte order.
use Rattle.std.specs.Prelude.{ℕ, zero, suc, ◌+◌, ◌-◌, ◌*◌, ◌/◌, ◌≡◌, ◌⊎◌, List, [], ◌∷◌, ◌++◌, map, cond, length, get_or, take, drop, replicate, ltb, Option, Some, None}
use Prim.Native.String.{String}
use Rattle.line_bytes.specs.Bytes.{bytes, equal}
use Rattle.line_bytes.specs.Cells.{first_piece}
use Rattle.verdicts.specs.Kinds.{Kind, measured, latitude, longitude, depth, expocode, stnnbr, castno, date, time, free, code_of}

-- a listed name and the number of its kind
pub record Listed : Type 0 where
  pub name : List ℕ
  pub kind : ℕ

-- the names of a kind
abbrev pub under : Kind → List String → List Listed
under k ts = map (λ (t : String). record { name = bytes t; kind = code_of k }) ts

-- the 48 names
unfoldable pub listed : List Listed
listed =
    under free ("BTLNBR" ∷ "SAMPNO" ∷ "SECT" ∷ "SECT_ID" ∷ [])
    ++ under castno ("CASTNO" ∷ [])
    ++ under date ("DATE" ∷ [])
    ++ under depth ("DEPTH" ∷ [])
    ++ under expocode ("EXPOCODE" ∷ [])
    ++ under latitude ("LATITUDE" ∷ [])
    ++ under longitude ("LONGITUDE" ∷ [])
    ++ under stnnbr ("STNNBR" ∷ [])
    ++ under time ("TIME" ∷ [])
    ++ under measured
    ("ALKALI" ∷ "CCL4" ∷ "CFC-11" ∷ "CFC-12" ∷ "CFC113" ∷ "CTDCT" ∷ "CTDOXY" ∷ "CTDPRS" ∷ "CTDRAW" ∷ "CTDSAL" ∷ "CTDTMP"
    ∷ "DELC13" ∷ "DELC14" ∷ "DELHE3" ∷ "DELHER" ∷ "DNSSAL" ∷ "HELIER" ∷ "HELIUM" ∷ "NITRAT" ∷ "NITRIT" ∷ "NO2+NO3"
    ∷ "O18O16" ∷ "OXYGEN" ∷ "PCO2" ∷ "PCO2TMP" ∷ "PH" ∷ "PHSPHT" ∷ "REFTMP" ∷ "REVPRS" ∷ "REVTMP" ∷ "SALNTY" ∷ "SILCAT"
    ∷ "TCARBN" ∷ "THETA" ∷ "TRITER" ∷ "TRITUM" ∷ [])

-- a name padded with zeros to 16 bytes
abbrev pub padded : List ℕ → List ℕ
padded t = t ++ replicate (16 - length t) 0

-- 16 bytes as a number, the bytes its digits to base 256: of two entries the greater number is the later in byte order
unfoldable pub base256 : ℕ → List ℕ → ℕ
base256 acc [] = acc
base256 acc (x ∷ xs) = base256 (acc * 256 + x) xs

-- put in rising byte order
unfoldable pub insert : Listed → List Listed → List Listed
insert x [] = x ∷ []
insert x (y ∷ ys) = cond (ltb (base256 0 (padded x.name)) (base256 0 (padded y.name))) (x ∷ (y ∷ ys)) (y ∷ insert x ys)

unfoldable pub ordered : List Listed → List Listed
ordered [] = []
ordered (x ∷ xs) = insert x (ordered xs)

-- the padded names one after the other
unfoldable pub flat : List Listed → List ℕ
flat [] = []
flat (x ∷ xs) = padded x.name ++ flat xs

-- the table of names, and the kind of each entry
unfoldable pub names : List ℕ
names = flat (ordered listed)

unfoldable pub kinds : List ℕ
kinds = map (λ (x : Listed). x.kind) (ordered listed)

-- entry k of a table of names, and its name: the bytes before its first zero
abbrev pub entry_at : List ℕ → ℕ → List ℕ
entry_at t k = take 16 (drop (16 * k) t)

abbrev pub entry_name : List ℕ → ℕ → List ℕ
entry_name t k = first_piece 0 (entry_at t k)

-- the first entry from k on, of n, that has the name
unfoldable pub search_from : List ℕ → List ℕ → ℕ → ℕ → Option ℕ
search_from t name zero k = None
search_from t name (suc n) k = cond (equal (entry_name t k) name) (Some k) (search_from t name n (suc k))

-- where a table has the name
unfoldable pub look_up : List ℕ → List ℕ → Option ℕ
look_up t name = search_from t name (length t / 16) 0

-- the kind of the entry that a search found
abbrev pub entry_kind : List ℕ → Option ℕ → ℕ
entry_kind ks (Some k) = get_or ks k (code_of free)
entry_kind ks None = code_of free

-- the kind of a name by a table: free text where it is not listed
unfoldable pub kind_in : List ℕ → List ℕ → List ℕ → ℕ
kind_in t ks name = entry_kind ks (look_up t name)

-- ---- what that is for the catalogue's own tables; the term is in proofs/CatalogueLaws
-- a list has the name under the kind
abbrev pub IsListed : List Listed → List ℕ → ℕ → Type 0
IsListed [] name kind = ⊥
IsListed (x ∷ xs) name kind = ((x.name ≡ name) × (x.kind ≡ kind)) ⊎ IsListed xs name kind

-- a listed name, byte for byte, has the kind that it is listed under; any other is free text
pub record KindsListed : Type 0 where
  pub known : (name : List ℕ) (kind : ℕ) → IsListed listed name kind → kind_in names kinds name ≡ kind
  pub other : (name : List ℕ) → ((kind : ℕ) → IsListed listed name kind → ⊥) → kind_in names kinds name ≡ code_of free
