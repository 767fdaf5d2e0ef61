-- Document 01, "Lines" and "Profiles": the cells of a line, judged from the left by their columns' kinds; what counts as a missing reading,
-- and where the cells stand that make a bottle file's profiles.
use Rattle.std.specs.Prelude.{ℕ, ◌+◌, ◌-◌, List, [], ◌∷◌, Bool, true, false, cond, ◌&&◌, length, eqb}
use Rattle.verdicts.specs.declared.Judged.{Judged}
use Rattle.verdicts.specs.declared.Keys.{Keys}
use Rattle.verdicts.specs.declared.CellsRead.{CellsRead}
use Rattle.line_bytes.specs.Cells.{pieces, line_at}
use Rattle.verdicts.specs.Kinds.{measured, expocode, stnnbr, castno, code_of, kind_of}
use Rattle.verdicts.specs.Verdicts.{Verdict, blank, wrong, out_of_range, good, is_good, size_of}
use Rattle.verdicts.specs.Judge.{judge, judged_of, stops_at}

-- -999 in millionths
abbrev pub is_missing_number : Verdict → Bool
is_missing_number blank = false
is_missing_number wrong = false
is_missing_number out_of_range = false
is_missing_number (good m v d) = m && eqb v 999000000

-- a missing reading: a measured cell that reads -999
unfoldable pub missing_in : ℕ → Verdict → ℕ
missing_in k v = cond (eqb k (code_of measured) && is_missing_number v) 1 0

-- no key noted yet
abbrev pub no_keys : Keys
no_keys = record { expocode = record { start = 0; len = 0 }; stnnbr = record { start = 0; len = 0 }; castno = 0 }

-- the keys with a good cell of kind k noted, which stands from a to q and writes v
unfoldable pub noted : ℕ → ℕ → ℕ → ℕ → Keys → Keys
noted k a q v w =
    cond (eqb k (code_of expocode)) (record { expocode = record { start = a; len = q - a }; stnnbr = w.stnnbr; castno = w.castno })
    (cond (eqb k (code_of stnnbr)) (record { expocode = w.expocode; stnnbr = record { start = a; len = q - a }; castno = w.castno })
    (cond (eqb k (code_of castno)) (record { expocode = w.expocode; stnnbr = w.stnnbr; castno = v }) w))

-- the code's record: g cells are good and m of them read as missing; the last one judged starts at `at`
abbrev pub ended_at : ℕ → ℕ → ℕ → Keys → Judged → CellsRead
ended_at at g m w j = record {
  start = at;
  at = j.at;
  number = j.number;
  minus = j.minus;
  size = j.size;
  decimals = j.decimals;
  good = g;
  missing = m;
  keys = w;
}

-- where no cell can be judged
abbrev pub no_cells : ℕ → CellsRead
no_cells i = ended_at i 0 0 no_keys (judged_of i wrong)

-- no kind or no cell is left
abbrev pub is_last : List ℕ → List (List ℕ) → Bool
is_last [] ts = true
is_last (k ∷ ks) [] = true
is_last (k ∷ ks) (t ∷ ts) = false

-- the cells ts from the one that starts at `at`, of the kinds ks, g good ones before it with m missing and the keys w:
-- up to the first that is refused, or the last
unfoldable pub cells_from : ℕ → ℕ → ℕ → ℕ → Keys → List ℕ → List (List ℕ) → CellsRead
cells_from i at g m w [] ts = no_cells i
cells_from i at g m w (k ∷ ks) [] = no_cells i
cells_from i at g m w (k ∷ ks) (t ∷ ts) =
    cond (is_good (judge (kind_of k) t))
    (cond (is_last ks ts)
    (ended_at at (g + 1) (m + missing_in k (judge (kind_of k) t)) (noted k at (at + length t) (size_of (judge (kind_of k) t)) w) (judged_of (at + length t) (judge (kind_of k) t)))
    (cells_from i (at + length t + 1) (g + 1) (m + missing_in k (judge (kind_of k) t)) (noted k at (at + length t) (size_of (judge (kind_of k) t)) w) ks ts))
    (ended_at at g m w (judged_of (at + length t) (judge (kind_of k) t)))

-- what judging the cells from i on gives, one for each kind; a line feed stands at e
unfoldable pub cells_at : List ℕ → ℕ → List ℕ → ℕ → ℕ → CellsRead
cells_at ks c s i e = cond (stops_at c s i e) (cells_from i i 0 0 no_keys ks (pieces c (line_at s i))) (no_cells i)
