-- The run over the header lines: the first of them, a later one, and what is due after the last.
use Prim.Native.Nat.{ℕ, zero, suc, ◌+◌, ◌-◌, ◌≤◌, ◌<◌}
use mathlib.Core.Path.{◌≡◌, refl, sym, ap, subst, ◌∙◌}
use mathlib.Core.List.{List, [], ◌∷◌, ◌++◌, map}
use mathlib.Core.Bool.{Bool, true, false}
use native.Mathlib.Omega.{arith}
use native.Mathlib.Numerals.{add-one}
use Rattle.std.proofs.Math.Seq.{take-suc-set}
use lib.ListN.{length, get_or, take, set, length-map, length-append}
use lib.Dec.{eqb}
use borrow.Author.Tests.{ne_eqb, eqb-true}
use Rattle.std.specs.Prelude.{Ok, Err}
use Rattle.line_bytes.specs.declared.Span.{Span}
use Rattle.line_bytes.specs.Bytes.{equal}
use Rattle.line_bytes.specs.Cells.{line_at}
use Rattle.line_bytes.proofs.CellLaws.{line_in_lem, line-end}
use Rattle.headers.specs.declared.Header.{Header}
use Rattle.headers.specs.declared.FirstHeader.{FirstHeader}
use Rattle.headers.specs.Inner.Headers.{Parted, first_header_fault_at, header_fault_at, header_for, first_header_for}
use Rattle.headers.proofs.HeaderLaws.{part-name, part-value, header_broken, header-kept, first_broken, first-kept, first_said}
use Rattle.rules.specs.declared.free.LineStart.{LineStart}
use Rattle.rules.specs.Inner.Heads.{HeadersPassed}
use Rattle.format.specs.declared.BrokenRule.{BrokenRule}
use Rattle.format.specs.Faults.{Fault, unless, has_all, first_of}
use Rattle.format.specs.Columns.{ctd}
use Rattle.format.specs.Headers.{Header as FileHeader, names_in, headers_said, station_names, last_header_rules, header_of}
use Rattle.format.specs.Places.{Place, comments, headers, names, is_comment, last_piece_rules, end_rules, stop_at, Outcome, refused, run}
use Rattle.format.specs.Inner.Faults.{first_header_fault, header_fault}
use Rattle.format.specs.Inner.Lines.{lines_from, StartsAt}
use Rattle.format.specs.Inner.Names.{names_at, text_in}
use Rattle.format.proofs.RuleLaws.{then-none, after_header, first-header-step, header-step}
use Rattle.format.proofs.RunLaws.{run-stopped, starts-next}
use Rattle.rules.proofs.LineRunLaws.{run-ended, run-clean, run_broken}

-- ---- the headers by place: a value goes on after its = to the line's end
abbrev pub place : ℕ → ℕ → Span
place i q = record { start = i; len = q - i }

abbrev header_at : List ℕ → Span → FileHeader
header_at s p = record { name = text_in s p.start (p.start + p.len); value = line_at s (p.start + p.len + 1) }

pub headers_at : List ℕ → List Span → List FileHeader
headers_at s ps = map (header_at s) ps

headers-names : (s : List ℕ) (ps : List Span) → names_in (headers_at s ps) ≡ names_at s ps
unfolding headers_at
headers-names s [] = refl
headers-names s (p ∷ ps) = ap (◌∷◌ (text_in s p.start (p.start + p.len))) (headers-names s ps)

headers-append : (s : List ℕ) (ps : List Span) (p : Span) → headers_at s (ps ++ p ∷ []) ≡ headers_at s ps ++ header_at s p ∷ []
unfolding headers_at
headers-append s [] p = refl
headers-append s (x ∷ ps) p = ap (◌∷◌ (header_at s x)) (headers-append s ps p)

-- one header more
headers-more : (s : List ℕ) (ps : List Span) (b q e : ℕ) → b < q → Parted s b q e → headers_at s (ps ++ place b q ∷ []) ≡ headers_at s ps ++ header_of (line_at s b) ∷ []
headers-more s ps b q e h t =
    let d : b + (q - b) ≡ q = omega (arith, h) in
    headers-append s ps (place b q) ∙ ap (λ (x : FileHeader). headers_at s ps ++ x ∷ [])
    (ap (λ (n : ℕ). record { name = text_in s b n; value = line_at s (n + 1) }) d ∙ (λ j. record { name = part-name t j; value = part-value t j }))

pub take-more : (ps : List Span) (n : ℕ) (p : Span) → n < length ps → take (n + 1) (set ps n p) ≡ take n ps ++ p ∷ []
take-more ps n p h = rw (add-one n) (take-suc-set ps n p h)

headers-one : (s : List ℕ) (b q e : ℕ) → b < q → Parted s b q e → headers_at s (place b q ∷ []) ≡ header_of (line_at s b) ∷ []
unfolding headers_at
headers-one s b q e h t = headers-more s [] b q e h t

headers-length : (s : List ℕ) (ps : List Span) → length (headers_at s ps) ≡ length ps
unfolding headers_at
headers-length s ps = length-map ps (header_at s)

-- the line after a header line
header-counted : (s : List ℕ) (i q e l : ℕ) → Parted s i q e → 1 ≤ l → StartsAt s l i → StartsAt s (l + 1) (e + 1)
header-counted s i q e l w o y = rw w.end (starts-next s l i o y (subst (λ (x : ℕ). x < length s) w.end w.room))

-- what is left where n headers are said from line f on and those at ps are read, the next line being at i
abbrev left : List ℕ → ℕ → ℕ → ℕ → List Span → ℕ → Outcome
left s f n k ps i = run (f + k) (after_header (f + k - 1) (n - k) (headers_at s ps)) (lines_from s i)

-- of n headers the k at ps are read from f on: the check goes on at the place `at`
pub record HeadersOn (s : List ℕ) (f : LineStart) (n k : ℕ) (ps : List Span) (at : ℕ) : Type 0 where
  pub many : length ps ≡ k
  pub runs : run f.line (comments ctd) (lines_from s f.at) ≡ left s f.line n k ps at
  pub counted : 1 ≤ f.line → StartsAt s f.line f.at → StartsAt s (f.line + k) at

run-same : (s : List ℕ) (l m a b d f i j : ℕ) (hs gs : List FileHeader) → l ≡ m → a ≡ b → d ≡ f → hs ≡ gs → i ≡ j
    → run l (after_header a d hs) (lines_from s i) ≡ run m (after_header b f gs) (lines_from s j)
run-same s l m a b d f i j hs gs o e g h k =
    ap (λ (x : ℕ). run x (after_header a d hs) (lines_from s i)) o
    ∙ ap (λ (x : ℕ). run m (after_header x d hs) (lines_from s i)) e
    ∙ ap (λ (x : ℕ). run m (after_header b x hs) (lines_from s i)) g
    ∙ ap (λ (x : List FileHeader). run m (after_header b f x) (lines_from s i)) h
    ∙ ap (λ (x : ℕ). run m (after_header b f gs) (lines_from s x)) k

-- ---- the first header line
after_due : (l d : ℕ) (hs : List FileHeader) → 0 < d → after_header l d hs ≡ headers d hs
unfolding after_header last_header_rules first_of
after_due l zero hs h = absurd (omega arith)
after_due l (suc d) hs h = refl

not_comment : (s : List ℕ) (i : ℕ) → i < length s → (get_or s i 0 ≡ 35 → ⊥) → is_comment (line_at s i) ≡ false
unfolding equal
not_comment s i h n = go (eqb (get_or s i 0) 10) refl
  where
    go : (b : Bool) → eqb (get_or s i 0) 10 ≡ b → equal (take 1 (line_at s i)) (35 ∷ []) ≡ false
    go true e = ap (λ (x : List ℕ). equal (take 1 x) (35 ∷ [])) (line-end s i h (eqb-true (get_or s i 0) 10 e))
    go false e = ap (λ (x : List ℕ). equal (take 1 x) (35 ∷ [])) (line_in_lem s i h e) ∙ rw (ne_eqb (get_or s i 0) 35 n)

module _ (s : List ℕ) (f : LineStart) where
  pub first_ended : length s ≤ f.at → run f.line (comments ctd) (lines_from s f.at) ≡ refused 14 f.line 1
  unfolding end_rules last_piece_rules first_of
  first_ended h = run-ended f.line (comments ctd) s f.at h

  module _ (h : f.at < length s) (n : get_or s f.at 0 ≡ 35 → ⊥) where
    pub first-refused : (b : BrokenRule) → first_header_for (first_header_fault_at s f.at) s f.at ≡ Err b
        → run f.line (comments ctd) (lines_from s f.at) ≡ refused b.number f.line b.column
    first-refused b e =
        run_broken f.line (comments ctd) s f.at h (first_header_fault (line_at s f.at)) _ (first-header-step f.line (line_at s f.at) (not_comment s f.at h n)) tt
        b.number b.column (first_broken s f.at b e)

    pub first_on : (r : FirstHeader) → first_header_for (first_header_fault_at s f.at) s f.at ≡ Ok r → HeadersOn s f r.said 1 (place f.at r.header.equals ∷ []) (r.header.end + 1)
    first_on r e =
        let k = first-kept s f.at r e in
        let t = k.parted in
        record {
          many = refl;
          runs =
              run-clean f.line (comments ctd) s f.at h (first_header_fault (line_at s f.at)) _ (first-header-step f.line (line_at s f.at) (not_comment s f.at h n)) tt k.rules
              ∙ run-same s (f.line + 1) (f.line + 1) f.line (f.line + 1 - 1) (headers_said (line_at s f.at) - 1) (r.said - 1) (f.at + length (line_at s f.at) + 1) (r.header.end + 1) _ _
              refl (omega arith) (ap (λ (x : ℕ). x - 1) (sym (first_said s f.at r e).0)) (sym (headers-one s f.at r.header.equals r.header.end k.named t)) (omega (arith, t.end));
          counted = header-counted s f.at r.header.equals r.header.end f.line t;
        }

-- ---- a later header line
module _ {s : List ℕ} {f : LineStart} {n k : ℕ} {ps : List Span} {at : ℕ} (o : HeadersOn s f n k ps at) where
  module _ (m : k < n) where
    left_due : run f.line (comments ctd) (lines_from s f.at) ≡ run (f.line + k) (headers (n - k) (headers_at s ps)) (lines_from s at)
    left_due = o.runs ∙ ap (λ (p : Place). run (f.line + k) p (lines_from s at)) (after_due (f.line + k - 1) (n - k) (headers_at s ps) (omega arith))

    pub left_ended : length s ≤ at → run f.line (comments ctd) (lines_from s f.at) ≡ refused 14 (f.line + k) 1
    unfolding end_rules last_piece_rules first_of
    left_ended h = left_due ∙ run-ended (f.line + k) (headers (n - k) (headers_at s ps)) s at h

    module _ (h : at < length s) where
      by_names : header_fault_at (names_in (headers_at s ps)) s at ≡ header_fault_at (names_at s ps) s at
      by_names = ap (λ (ns : List (List ℕ)). header_fault_at ns s at) (headers-names s ps)

      pub left-refused : (b : BrokenRule) → header_for (header_fault_at (names_at s ps) s at) s at ≡ Err b
          → run f.line (comments ctd) (lines_from s f.at) ≡ refused b.number (f.line + k) b.column
      left-refused b e =
          left_due
          ∙ run_broken (f.line + k) (headers (n - k) (headers_at s ps)) s at h (header_fault (names_in (headers_at s ps)) (line_at s at)) _
          (header-step (f.line + k) (n - k) (headers_at s ps) (line_at s at)) tt
          b.number b.column (by_names ∙ header_broken s at (names_at s ps) b e)

      pub left-on : (r : Header) → header_for (header_fault_at (names_at s ps) s at) s at ≡ Ok r → HeadersOn s f n (k + 1) (ps ++ place at r.equals ∷ []) (r.end + 1)
      left-on r e =
          let d = header-kept s at (names_at s ps) r e in
          let t = d.parted in
          let l : f.line + k + 1 ≡ f.line + (k + 1) = omega arith in
          record {
            many = length-append ps (place at r.equals ∷ []) ∙ ap (λ (x : ℕ). x + 1) o.many;
            runs =
                left_due
                ∙ run-clean (f.line + k) (headers (n - k) (headers_at s ps)) s at h (header_fault (names_in (headers_at s ps)) (line_at s at)) _
                (header-step (f.line + k) (n - k) (headers_at s ps) (line_at s at)) tt (by_names ∙ d.rules)
                ∙ run-same s (f.line + k + 1) (f.line + (k + 1)) (f.line + k) (f.line + (k + 1) - 1) (n - k - 1) (n - (k + 1)) (at + length (line_at s at) + 1) (r.end + 1) _ _
                l (omega arith) (omega arith) (sym (headers-more s ps at r.equals r.end d.named t)) (omega (arith, t.end));
            counted = λ p y. subst (λ (x : ℕ). StartsAt s x (r.end + 1)) l (header-counted s at r.equals r.end (f.line + k) t (omega arith) (o.counted p y));
          }

  -- ---- after the last
  module _ (m : n ≤ k) (b : Bool) (eb : b ≡ has_all station_names (names_at s ps)) where
    left_by_lem : run f.line (comments ctd) (lines_from s f.at) ≡ run (f.line + k) (stop_at (f.line + k - 1) (unless b 13 1) (names ctd (headers_at s ps))) (lines_from s at)
    unfolding after_header last_header_rules first_of
    left_by_lem =
        let d : n - k ≡ 0 = omega arith in
        o.runs
        ∙ ap (λ (x : ℕ). run (f.line + k) (after_header (f.line + k - 1) x (headers_at s ps)) (lines_from s at)) d
        ∙ ap (λ (g : Fault). run (f.line + k) (stop_at (f.line + k - 1) g (names ctd (headers_at s ps))) (lines_from s at)) (then-none (unless (has_all station_names (names_in (headers_at s ps))) 13 1))
        ∙ ap (λ (c : Bool). run (f.line + k) (stop_at (f.line + k - 1) (unless c 13 1) (names ctd (headers_at s ps))) (lines_from s at))
        (ap (has_all station_names) (headers-names s ps) ∙ sym eb)

    pub left_lacking : b ≡ false → run f.line (comments ctd) (lines_from s f.at) ≡ refused 13 (f.line + k - 1) 1
    left_lacking e =
        left_by_lem ∙ ap (λ (c : Bool). run (f.line + k) (stop_at (f.line + k - 1) (unless c 13 1) (names ctd (headers_at s ps))) (lines_from s at)) e
        ∙ run-stopped (f.line + k) 13 (f.line + k - 1) 1 (lines_from s at)

    pub left-named : b ≡ true → 1 ≤ k → at ≤ length s → f.line + k ≤ at + 2 → HeadersPassed s f (record { at = at; line = f.line + k })
    left-named e p h g = record {
      on = (
        headers_at s ps,
        left_by_lem ∙ ap (λ (c : Bool). run (f.line + k) (stop_at (f.line + k - 1) (unless c 13 1) (names ctd (headers_at s ps))) (lines_from s at)) e,
        ap (λ (x : ℕ). f.line + x) (sym (headers-length s ps ∙ o.many)),
      );
      inside = (h, g);
      counted = λ d z. (omega arith, o.counted d z);
    }
