-- Document 01, "Lines" and "The catalogue": the bytes of a name, and what makes a column a flag column.
use Rattle.std.specs.Prelude.{ℕ, ◌-◌, List, Bool, cond, not, ◌&&◌, length, take, drop, eqb, leb}
use Rattle.line_bytes.specs.Bytes.{comma, bytes, every, equal}

-- bytes 21 to 7E, with no comma and no lower-case letter
abbrev pub name_byte : ℕ → Bool
name_byte x = leb 0x21 x && leb x 0x7e && not (eqb x comma) && not (leb 97 x && leb x 122)

-- a name is not empty
unfoldable pub is_name : List ℕ → Bool
is_name t = leb 1 (length t) && every name_byte t

-- as many bytes as _FLAG_W has
abbrev pub last_seven : List ℕ → List ℕ
last_seven t = drop (length t - 7) t

-- a name that ends in _FLAG_W with something before it is a flag column's: how many bytes stand before; 0 for other names
unfoldable pub parameter_length : List ℕ → ℕ
parameter_length t = cond (leb 8 (length t) && equal (last_seven t) (bytes "_FLAG_W")) (length t - 7) 0

-- the parameter's name begins with CTD
unfoldable pub begins_ctd : List ℕ → Bool
begins_ctd t = equal (take 3 t) (bytes "CTD")
