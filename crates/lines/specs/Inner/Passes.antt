-- The words of the contracts of the pass over a line's bytes; no promise of a public call cites them.
use Rattle.std.specs.Prelude.{ℕ, ◌≤◌, List}
use Rattle.line_bytes.specs.Inner.Scans.{Scan}
use Rattle.line_bytes.specs.Inner.Lines.{is_plain}

-- ---- the line pass
-- from i up to r, which is not past the limit, all bytes are plain
pub record Plain (s : List ℕ) (i limit r : ℕ) : Type 0 where
  pub low : i ≤ r
  pub high : r ≤ limit
  pub over : Scan is_plain s i r
