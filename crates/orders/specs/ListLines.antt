-- Document 01, "A correction", a list line: row (1 to 7 digits, the first not 0), column name (names line's byte rule), decimal, flag digit (0 to 9),
-- parted by single tabs, no spaces, ended by one line feed; decimals as written. Refusal 26: malformed.
use Rattle.std.specs.Prelude.{ℕ, ◌+◌, List, [], ◌∷◌, Bool, cond, not, ◌&&◌, length, get_or, eqb, pos}
use Rattle.line_bytes.specs.Bytes.{line_feed, tab, is_space, every}
use Rattle.line_bytes.specs.Cells.{first_piece, pieces}
use Rattle.line_bytes.specs.Spaces.{trim}
use Rattle.line_bytes.specs.Names.{is_name}
use Rattle.verdicts.specs.Verdicts.{Verdict, is_good, size_of, decimals_of, millionths_of}
use Rattle.verdicts.specs.Kinds.{measured}
use Rattle.verdicts.specs.Judge.{judge, whole_of, unless_blank}
use Rattle.orders.specs.declared.ListLine.{ListLine}

-- a refused line has zeros and an empty name at its start
abbrev pub malformed : ListLine
malformed = record { number = 26; row = 0; name = record { start = 0; len = 0 }; millionths = pos 0; decimals = 0; flag = 0 }

-- a whole number of at most so many digits
abbrev pub whole : ℕ → List ℕ → Verdict
whole most x = unless_blank (whole_of most) (trim x)

abbrev pub is_row : List ℕ → Bool
is_row x = is_good (whole 7 x) && not (eqb (get_or x 0 0) 48)

abbrev pub decimal_in : List ℕ → Verdict
decimal_in x = judge measured x

-- the four fields: row r, name n, decimal d, flag g
unfoldable pub fields_read : List ℕ → List ℕ → List ℕ → List ℕ → ListLine
fields_read r n d g =
    cond (is_row r && is_name n && (is_good (decimal_in d) && is_good (whole 1 g)))
    (record {
      number = 0;
      row = size_of (whole 7 r);
      name = record { start = length r + 1; len = length n };
      millionths = millionths_of (decimal_in d);
      decimals = decimals_of (decimal_in d);
      flag = size_of (whole 1 g);
    })
    malformed

abbrev pub by_fields : List (List ℕ) → ListLine
by_fields (r ∷ (n ∷ (d ∷ (g ∷ [])))) = fields_read r n d g
by_fields [] = malformed
by_fields (r ∷ []) = malformed
by_fields (r ∷ (n ∷ [])) = malformed
by_fields (r ∷ (n ∷ (d ∷ []))) = malformed
by_fields (r ∷ (n ∷ (d ∷ (g ∷ (x ∷ xs))))) = malformed

-- one line feed, and it is the last byte; no spaces
abbrev pub is_one_line : List ℕ → Bool
is_one_line x = eqb (length (first_piece line_feed x) + 1) (length x) && every (λ (b : ℕ). not (is_space b)) x

unfoldable pub line_read : List ℕ → ListLine
line_read x = cond (is_one_line x) (by_fields (pieces tab (first_piece line_feed x))) malformed
