-- The word of the contracts that pass over spaces; no promise of a public call cites it.
use Rattle.std.specs.Prelude.{ℕ, ◌≤◌, ◌<◌, ◌≡◌, List, get_or}
use Rattle.line_bytes.specs.Bytes.{space}

-- from a up to b every byte is a space
abbrev pub Spaces : List ℕ → ℕ → ℕ → Type 0
Spaces s a b = (k : ℕ) → a ≤ k → k < b → get_or s k 0 ≡ space
