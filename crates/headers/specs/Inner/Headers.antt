-- The words of the inner contracts of the header lines' reading. No promise of a public call cites them.
use Rattle.std.specs.Prelude.{ℕ, ◌+◌, ◌≤◌, ◌<◌, ◌≡◌, true, List, length, cond, ltb, Option, Some, None, Result, Ok, Err}
use Rattle.line_bytes.specs.Cells.{line_at}
use Rattle.headers.specs.declared.Header.{Header}
use Rattle.headers.specs.declared.FirstHeader.{FirstHeader}
use Rattle.format.specs.declared.BrokenRule.{BrokenRule}
use Rattle.format.specs.Faults.{Fault, clean, breaks, ◌then◌}
use Rattle.format.specs.Headers.{raw_name, header_name_rule, headers_said}
use Rattle.format.specs.Inner.Faults.{first_header_fault, header_fault}
use Rattle.format.specs.Inner.Lines.{line_fault_at}

-- the line that starts at i ends at e and has its first = at q
pub record Parted (s : List ℕ) (i q e : ℕ) : Type 0 where
  pub end : e ≡ i + length (line_at s i)
  pub equals : q ≡ i + length (raw_name (line_at s i))
  pub before : q < e
  pub room : e < length s
  pub short : e ≤ i + 8192

-- the rules of the line that starts at i, up to that of its name; those of the first header; and those of a later one, after the earlier names
abbrev pub named_fault_at : List ℕ → ℕ → Fault
named_fault_at s i = line_fault_at true s i then header_name_rule (line_at s i)

abbrev pub first_header_fault_at : List ℕ → ℕ → Fault
first_header_fault_at s i = line_fault_at true s i then first_header_fault (line_at s i)

abbrev pub header_fault_at : List (List ℕ) → List ℕ → ℕ → Fault
header_fault_at earlier s i = line_fault_at true s i then header_fault earlier (line_at s i)

-- the code's header line that starts at i, read by rules that say f: its line feed and its first =, or the broken rule
unfoldable pub header_for : Fault → List ℕ → ℕ → Result Header BrokenRule
header_for clean s i = Ok (record { end = i + length (line_at s i); equals = i + length (raw_name (line_at s i)) })
header_for (breaks n c) s i = Err (record { number = n; column = c })

-- the same of the first, which says how many headers there are
unfoldable pub first_header_for : Fault → List ℕ → ℕ → Result FirstHeader BrokenRule
first_header_for clean s i = Ok (record {
  header = record { end = i + length (line_at s i); equals = i + length (raw_name (line_at s i)) };
  said = headers_said (line_at s i);
})
first_header_for (breaks n c) s i = Err (record { number = n; column = c })

-- a number of headers, 0 being none
abbrev pub said_for : ℕ → Option ℕ
said_for n = cond (ltb 0 n) (Some n) None
