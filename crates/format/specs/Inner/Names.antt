-- The words of the contracts of names by place; no promise of a public call cites them.
use Rattle.std.specs.Prelude.{ℕ, suc, ◌+◌, List, [], ◌∷◌, ◌++◌, map, cond, take, drop, Option, Some, None}
use Rattle.line_bytes.specs.Names.{is_name}
use Rattle.line_bytes.specs.Spaces.{trim_span}
use Rattle.line_bytes.specs.declared.Span.{Span}
use Rattle.format.specs.declared.NameFault.{NameFault}
use Rattle.format.specs.declared.NameFault.TheVariants.{Bad, Repeated}
use Rattle.format.specs.Faults.{member}

-- the trimmed text from a to e; names by place: each stands, with its spaces, at its place
abbrev pub text_in : List ℕ → ℕ → ℕ → List ℕ
text_in s a e = take (trim_span s a e).len (drop (trim_span s a e).start s)

abbrev pub names_at : List ℕ → List Span → List (List ℕ)
names_at s ps = map (λ (p : Span). text_in s p.start (p.start + p.len)) ps

-- the first fault of the names that follow the earlier ones, the first of them being name k
unfoldable pub fault_in : List (List ℕ) → List (List ℕ) → ℕ → Option NameFault
fault_in earlier [] k = None
fault_in earlier (x ∷ xs) k = cond (is_name x) (cond (member x earlier) (Some (Repeated k)) (fault_in (earlier ++ x ∷ []) xs (suc k))) (Some (Bad k))
