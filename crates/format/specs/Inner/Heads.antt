-- Where the headers of an accepted file stand, for the contracts of the functions that read them; no promise of a public call cites these words.
use Rattle.std.specs.Prelude.{ℕ, ◌+◌, ◌<◌, ◌≡◌, List, [], ◌∷◌, map, true, length, get_or}
use Rattle.line_bytes.specs.Bytes.{line_feed}
use Rattle.line_bytes.specs.Cells.{line_at, pieces}
use Rattle.format.specs.Faults.{clean}
use Rattle.format.specs.Headers.{Header, header_of, header_name_rule}
use Rattle.format.specs.Grid.{starts}
use Rattle.format.specs.Inner.Faults.{line_fault}

-- line l, counted from 0, stands at i, with its line feed
pub record LineStands (s : List ℕ) (l i : ℕ) : Type 0 where
  pub place : i ≡ starts (map length (pieces line_feed s)) l
  pub text : line_at s i ≡ get_or (pieces line_feed s) l []
  pub fed : i + length (line_at s i) < length s

-- the headers hs stand one a line from place i, line l, up to the place end
pub data HeaderLines (s : List ℕ) (end : ℕ) : ℕ → ℕ → List Header → Type 0 where
  none : {l : ℕ} → HeaderLines s end end l []
  more : {i l : ℕ} {hs : List Header} → LineStands s l i → line_fault true (line_at s i) ≡ clean → header_name_rule (line_at s i) ≡ clean
      → HeaderLines s end (i + length (line_at s i) + 1) (l + 1) hs → HeaderLines s end i l (header_of (line_at s i) ∷ hs)
