-- The words of the contracts of scans over bytes; no promise of a public call cites them.
use Rattle.std.specs.Prelude.{ℕ, ◌+◌, ◌≤◌, ◌<◌, ◌≡◌, Bool, true, List, length, get_or}
use Rattle.line_bytes.specs.Bytes.{line_feed}
use Rattle.line_bytes.specs.Cells.{separates}

-- a scan from i stops at e, where the line feed stands; c parts cells
pub record Stop (c : ℕ) (s : List ℕ) (i e : ℕ) : Type 0 where
  pub inside : i ≤ e
  pub room : e < length s
  pub feed : get_or s e 0 ≡ line_feed
  pub parts : separates c ≡ true

-- from i up to q every byte passes t
pub data Scan (t : ℕ → Bool) (s : List ℕ) (i : ℕ) : ℕ → Type 0 where
  still : Scan t s i i
  more : {q : ℕ} → Scan t s i q → q < length s → t (get_or s q 0) ≡ true → Scan t s i (q + 1)
