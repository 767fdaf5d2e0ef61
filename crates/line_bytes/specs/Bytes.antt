-- Bytes and texts. A file, a line, a cell and a name are lists of bytes, each a number below 256.
use Rattle.std.specs.Prelude.{ℕ, ◌+◌, ◌-◌, ◌*◌, List, [], ◌∷◌, Bool, true, false, ◌&&◌, eqb, leb}
use Prim.Native.Char.{code}
use Prim.Native.String as Text
use Prim.Native.String.{String}

-- the bytes of a text in ASCII
abbrev pub bytes : String → List ℕ
bytes Text.[] = []
bytes (Text.◌∷◌ c s) = code c ∷ bytes s

-- the bytes that the rules name
abbrev pub tab : ℕ
tab = 0x09

abbrev pub line_feed : ℕ
line_feed = 0x0a

abbrev pub space : ℕ
space = 0x20

abbrev pub plus : ℕ
plus = 0x2b

abbrev pub comma : ℕ
comma = 0x2c

abbrev pub hyphen : ℕ
hyphen = 0x2d

abbrev pub point : ℕ
point = 0x2e

abbrev pub slash : ℕ
slash = 0x2f

abbrev pub is_space : ℕ → Bool
is_space x = eqb x space

-- 0 to 9
abbrev pub is_digit : ℕ → Bool
is_digit x = leb 48 x && leb x 57

-- a test at every byte
unfoldable pub every : (ℕ → Bool) → List ℕ → Bool
every p [] = true
every p (x ∷ xs) = p x && every p xs

-- two texts have the same bytes
unfoldable pub equal : List ℕ → List ℕ → Bool
equal [] [] = true
equal [] (y ∷ ys) = false
equal (x ∷ xs) [] = false
equal (x ∷ xs) (y ∷ ys) = eqb x y && equal xs ys

-- the number that v's digits and then the list's write
unfoldable pub numeral : ℕ → List ℕ → ℕ
numeral v [] = v
numeral v (x ∷ xs) = numeral (v * 10 + (x - 48)) xs
