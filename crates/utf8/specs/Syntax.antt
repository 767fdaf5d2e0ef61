-- Document 02, [3]: "A UTF-8 check one can read beside the RFC." RFC 3629, section 4: UTF8-char = UTF8-1 / UTF8-2 / UTF8-3 / UTF8-4, which are nine alternatives,
-- each a sequence of byte ranges. Beside each row stands its text there.
use Rattle.std.specs.Prelude.{ℕ, List, [], ◌∷◌, Bool, true, false, cond, ◌&&◌, length, leb}

-- a byte of an alternative is one of a range
pub record Range : Type 0 where
  pub low : ℕ
  pub high : ℕ

abbrev pub to : ℕ → ℕ → Range
to a b = record { low = a; high = b }

abbrev pub within : Range → ℕ → Bool
within r x = leb r.low x && leb x r.high

-- UTF8-tail = %x80-BF
abbrev pub tail : Range
tail = to 0x80 0xbf

abbrev pub alternatives : List (List Range)
alternatives =
    (to 0x00 0x7f ∷ [])  -- UTF8-1 = %x00-7F
    ∷ (to 0xc2 0xdf ∷ tail ∷ [])  -- UTF8-2 = %xC2-DF UTF8-tail
    ∷ (to 0xe0 0xe0 ∷ to 0xa0 0xbf ∷ tail ∷ [])  -- UTF8-3 = %xE0 %xA0-BF UTF8-tail /
    ∷ (to 0xe1 0xec ∷ tail ∷ tail ∷ [])  -- %xE1-EC 2( UTF8-tail ) /
    ∷ (to 0xed 0xed ∷ to 0x80 0x9f ∷ tail ∷ [])  -- %xED %x80-9F UTF8-tail /
    ∷ (to 0xee 0xef ∷ tail ∷ tail ∷ [])  -- %xEE-EF 2( UTF8-tail )
    ∷ (to 0xf0 0xf0 ∷ to 0x90 0xbf ∷ tail ∷ tail ∷ [])  -- UTF8-4 = %xF0 %x90-BF 2( UTF8-tail ) /
    ∷ (to 0xf1 0xf3 ∷ tail ∷ tail ∷ tail ∷ [])  -- %xF1-F3 3( UTF8-tail ) /
    ∷ (to 0xf4 0xf4 ∷ to 0x80 0x8f ∷ tail ∷ tail ∷ [])  -- %xF4 %x80-8F 2( UTF8-tail )
    ∷ []

-- the bytes begin with a character of that alternative
abbrev pub takes : List Range → List ℕ → Bool
takes [] xs = true
takes (r ∷ rs) [] = false
takes (r ∷ rs) (x ∷ xs) = within r x && takes rs xs

-- the length of the character that the bytes begin with: that of the first alternative that takes it, 0 where none does
abbrev pub character_in : List (List Range) → List ℕ → ℕ
character_in [] xs = 0
character_in (a ∷ others) xs = cond (takes a xs) (length a) (character_in others xs)

unfoldable pub character : List ℕ → ℕ
character xs = character_in alternatives xs
