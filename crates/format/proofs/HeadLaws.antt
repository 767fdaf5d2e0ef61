-- The lines before the units line of an accepted file: its headers, one a line, and then its names line.
use Prim.Native.Nat.{ℕ, zero, suc, ◌+◌, ◌-◌, ◌≤◌, ◌<◌}
use mathlib.Core.Path.{◌≡◌, refl, sym, ap, subst, ◌∙◌}
use mathlib.Core.List.{List, [], ◌∷◌, ◌++◌, append_assoc, append-nil}
use mathlib.Core.Bool.{Bool, true, false, cond, ◌&&◌}
use native.Mathlib.Omega.{arith}
use lib.ListN.{length, get_or, drop}
use lib.Dec.{eqb, leb, ltb}
use borrow.Author.Tests.{ltb-true}
use Rattle.line_bytes.specs.Cells.{pieces}
use Rattle.line_bytes.specs.Names.{is_name}
use Rattle.format.specs.Faults.{clean, ◌then◌, first_of, unless}
use Rattle.format.specs.Headers.{raw_name, name_of, Header, header_of, names_in, headers_said, header_name_rule, first_header_rules, header_rules, last_header_rules}
use Rattle.format.specs.Columns.{Sort, bottle, ctd, names_of}
use Rattle.format.specs.Places.{Table, Place, first, comments, headers, names, units, rows, is_bottle, is_comment, first_line_rules, due_headers, step, accepted, run, outcome_of}
use Rattle.format.specs.Inner.Faults.{line_fault, first_header_fault, header_fault, names_line_fault}
use Rattle.format.proofs.AcceptLaws.{stops-refused, cut-refused, early-ends, rows-accepted}
use Rattle.format.proofs.FaultLaws.{breaks-clean, then-clean}
use Rattle.format.proofs.RuleLaws.{first_step, comment-step, names-step, bottle-step, units-step, after_header, first-header-step, header-step}

-- the first lines of a list are the headers hs, one a line
pub data HeadsIn : List (List ℕ) → List Header → Type 0 where
  none : {ps : List (List ℕ)} → HeadsIn ps []
  more : {x : List ℕ} {ps : List (List ℕ)} {hs : List Header} → line_fault true x ≡ clean → header_name_rule x ≡ clean → HeadsIn ps hs → HeadsIn (x ∷ ps) (header_of x ∷ hs)

-- a header line has an =
pub equals-inside : (x : List ℕ) → header_name_rule x ≡ clean → length (raw_name x) < length x
unfolding header_name_rule
equals-inside x e = go (ltb (length (raw_name x)) (length x)) refl e
  where
    go : (b : Bool) → ltb (length (raw_name x)) (length x) ≡ b → unless (b && leb (length (name_of x)) 64 && is_name (name_of x)) 8 1 ≡ clean → length (raw_name x) < length x
    go true h k = ltb-true (length (raw_name x)) (length x) h
    go false h k = absurd (breaks-clean 8 1 k)

-- the names line x of a table: its columns, and no rule broken
pub record NamesKept (t : Table) (x : List ℕ) : Type 0 where
  pub names_are : t.names ≡ names_of x
  pub rules : names_line_fault t.sort x ≡ clean

-- ---- from the units line on, and from the names line on
units_from : (ps : List (List ℕ)) (l : ℕ) (k : Sort) (hs : List Header) (ns : List (List ℕ)) (t : Table) (n : ℕ) → run l (units k hs ns) ps ≡ accepted t n
    → (t.headers ≡ hs) × (t.line ≡ l) × (t.names ≡ ns) × (t.sort ≡ k)
unfolding run
units_from [] l k hs ns t n e = absurd (early-ends l (units k hs ns) t n tt e)
units_from ([] ∷ []) l k hs ns t n e = absurd (early-ends l (units k hs ns) t n tt e)
units_from ((x ∷ xs) ∷ []) l k hs ns t n e = absurd (cut-refused l (units k hs ns) x xs t n e)
units_from (x ∷ (y ∷ ys)) l k hs ns t n e =
    let u : Table = record { sort = k; headers = hs; names = ns; line = l } in
    let w = stops-refused (l + 1) 0 l (line_fault true x then unless (eqb (length (pieces 44 x)) (length ns)) 15 1) (rows u 0) (y ∷ ys) t n (ap (λ (p : Place). run (l + 1) p (y ∷ ys)) (sym (units-step l k hs ns x)) ∙ e) in
    let r = (rows-accepted (y ∷ ys) (l + 1) u 0 t n w.1).table in
    (ap (λ (z : Table). z.headers) (sym r), ap (λ (z : Table). z.line) (sym r), ap (λ (z : Table). z.names) (sym r), ap (λ (z : Table). z.sort) (sym r))

names_from : (ps : List (List ℕ)) (l : ℕ) (k : Sort) (hs : List Header) (t : Table) (n : ℕ) → run l (names k hs) ps ≡ accepted t n
    → (t.headers ≡ hs) × (t.line ≡ l + 1) × NamesKept t (get_or ps 0 [])
unfolding run
names_from [] l k hs t n e = absurd (early-ends l (names k hs) t n tt e)
names_from ([] ∷ []) l k hs t n e = absurd (early-ends l (names k hs) t n tt e)
names_from ((x ∷ xs) ∷ []) l k hs t n e = absurd (cut-refused l (names k hs) x xs t n e)
names_from (x ∷ (y ∷ ys)) l k hs t n e =
    let w = stops-refused (l + 1) 0 l (line_fault true x then names_line_fault k x) (units k hs (names_of x)) (y ∷ ys) t n (ap (λ (p : Place). run (l + 1) p (y ∷ ys)) (sym (names-step l k hs x)) ∙ e) in
    let u = units_from (y ∷ ys) (l + 1) k hs (names_of x) t n w.1 in
    (u.0, u.1, record { names_are = u.2; rules = subst (λ (o : Sort). names_line_fault o x ≡ clean) (sym u.3) (then-clean (line_fault true x) (names_line_fault k x) w.0).1 })

-- ---- from a header line on, the headers hs being read
record HeadsFrom (l : ℕ) (hs : List Header) (ps : List (List ℕ)) (t : Table) : Type 0 where
  later : List Header
  list : t.headers ≡ hs ++ later
  line : t.line ≡ l + length later + 1
  heads : HeadsIn ps later
  named : NamesKept t (get_or ps (length later) [])

first-named : (x : List ℕ) → first_header_fault x ≡ clean → header_name_rule x ≡ clean
unfolding first_header_fault first_header_rules first_of
first-named x e = (then-clean (header_name_rule x) _ e).0

header-named : (earlier : List (List ℕ)) (x : List ℕ) → header_fault earlier x ≡ clean → header_name_rule x ≡ clean
unfolding header_fault header_rules first_of
header-named earlier x e = (then-clean (header_name_rule x) _ e).0

abbrev FromHeaders : List (List ℕ) → Type 0
FromHeaders ps = (l due : ℕ) (hs : List Header) (t : Table) (n : ℕ) → run l (headers due hs) ps ≡ accepted t n → HeadsFrom l hs ps t

-- the next place after the headers hs
due_from : (ps : List (List ℕ)) (l k due : ℕ) (hs : List Header) (t : Table) (n : ℕ) → FromHeaders ps → run l (after_header k due hs) ps ≡ accepted t n → HeadsFrom l hs ps t
unfolding after_header
due_from ps l k due hs t n f e = go due (stops-refused l 0 k (first_of (last_header_rules due hs)) (due_headers due hs) ps t n e).1
  where
    go : (due : ℕ) → run l (due_headers due hs) ps ≡ accepted t n → HeadsFrom l hs ps t
    go zero e = let w = names_from ps l ctd hs t n e in record { later = []; list = w.0 ∙ sym (append-nil hs); line = omega (arith, w.1); heads = none; named = w.2 }
    go (suc due) e = f l (suc due) hs t n e

-- a header line put before what follows it
heads-more : (l : ℕ) (hs : List Header) (x : List ℕ) (ps : List (List ℕ)) (t : Table) → line_fault true x ≡ clean → header_name_rule x ≡ clean
    → HeadsFrom (l + 1) (hs ++ header_of x ∷ []) ps t → HeadsFrom l hs (x ∷ ps) t
heads-more l hs x ps t a b r = record {
  later = header_of x ∷ r.later;
  list = r.list ∙ append_assoc hs (header_of x ∷ []) r.later;
  line = omega (arith, r.line);
  heads = more a b r.heads;
  named = r.named;
}

headers_from : (ps : List (List ℕ)) → FromHeaders ps
unfolding run
headers_from [] l due hs t n e = absurd (early-ends l (headers due hs) t n tt e)
headers_from ([] ∷ []) l due hs t n e = absurd (early-ends l (headers due hs) t n tt e)
headers_from ((x ∷ xs) ∷ []) l due hs t n e = absurd (cut-refused l (headers due hs) x xs t n e)
headers_from (x ∷ (y ∷ ys)) l due hs t n e =
    let w = stops-refused (l + 1) 0 l _ (after_header l (due - 1) (hs ++ header_of x ∷ [])) (y ∷ ys) t n (ap (λ (p : Place). run (l + 1) p (y ∷ ys)) (sym (header-step l due hs x)) ∙ e) in
    let a = then-clean (line_fault true x) (header_fault (names_in hs) x) w.0 in
    heads-more l hs x (y ∷ ys) t a.0 (header-named (names_in hs) x a.1) (due_from (y ∷ ys) (l + 1) l (due - 1) (hs ++ header_of x ∷ []) t n (headers_from (y ∷ ys)) w.1)

-- ---- from the comments on
record TopKept (l : ℕ) (ps : List (List ℕ)) (t : Table) : Type 0 where
  line : l + length t.headers + 1 ≤ t.line
  heads : HeadsIn (drop (t.line - 1 - length t.headers - l) ps) t.headers
  named : NamesKept t (get_or ps (t.line - 1 - l) [])

-- the first header, or the names line, is line l
top-here : (l : ℕ) (ps : List (List ℕ)) (t : Table) → HeadsFrom l [] ps t → TopKept l ps t
top-here l ps t r =
    let h = ap length r.list in
    let z : t.line - 1 - length t.headers - l ≡ 0 = omega (arith, r.line, h) in
    let m : t.line - 1 - l ≡ length r.later = omega (arith, r.line) in
    record {
      line = omega (arith, r.line, h);
      heads = subst (λ (k : ℕ). HeadsIn (drop k ps) t.headers) (sym z) (subst (HeadsIn ps) (sym r.list) r.heads);
      named = subst (λ (k : ℕ). NamesKept t (get_or ps k [])) (sym m) r.named;
    }

-- it comes after line l
top-later : (l : ℕ) (x : List ℕ) (ps : List (List ℕ)) (t : Table) → TopKept (l + 1) ps t → TopKept l (x ∷ ps) t
top-later l x ps t r =
    let a : t.line - 1 - length t.headers - l ≡ suc (t.line - 1 - length t.headers - (l + 1)) = omega (arith, r.line) in
    let b : t.line - 1 - l ≡ suc (t.line - 1 - (l + 1)) = omega (arith, r.line) in
    record {
      line = omega (arith, r.line);
      heads = subst (λ (k : ℕ). HeadsIn (drop k (x ∷ ps)) t.headers) (sym a) r.heads;
      named = subst (λ (k : ℕ). NamesKept t (get_or (x ∷ ps) k [])) (sym b) r.named;
    }

comments_from : (ps : List (List ℕ)) (l : ℕ) (k : Sort) (t : Table) (n : ℕ) → run l (comments k) ps ≡ accepted t n → TopKept l ps t
unfolding run
comments_from [] l k t n e = absurd (early-ends l (comments k) t n tt e)
comments_from ([] ∷ []) l k t n e = absurd (early-ends l (comments k) t n tt e)
comments_from ((x ∷ xs) ∷ []) l k t n e = absurd (cut-refused l (comments k) x xs t n e)
comments_from (x ∷ (y ∷ ys)) l k t n e = by (is_comment x) k refl e (comments_from (y ∷ ys) (l + 1) k t n)
  where
    by : (z : Bool) (k : Sort) → is_comment x ≡ z → run (l + 1) (step l (comments k) x) (y ∷ ys) ≡ accepted t n
        → (run (l + 1) (comments k) (y ∷ ys) ≡ accepted t n → TopKept (l + 1) (y ∷ ys) t) → TopKept l (x ∷ (y ∷ ys)) t
    by true k q e ih = top-later l x (y ∷ ys) t (ih (stops-refused (l + 1) 0 l (line_fault false x) (comments k) (y ∷ ys) t n (ap (λ (p : Place). run (l + 1) p (y ∷ ys)) (sym (comment-step l k x q)) ∙ e)).1)
    by false bottle q e ih =
        let w = names_from (x ∷ (y ∷ ys)) l bottle [] t n (ap (λ (p : Place). run (l + 1) p (y ∷ ys)) (sym (bottle-step l x q)) ∙ e) in
        top-here l (x ∷ (y ∷ ys)) t (record { later = []; list = w.0; line = omega (arith, w.1); heads = none; named = w.2 })
    by false ctd q e ih =
        let w = stops-refused (l + 1) 0 l _ (after_header l (headers_said x - 1) (header_of x ∷ [])) (y ∷ ys) t n (ap (λ (p : Place). run (l + 1) p (y ∷ ys)) (sym (first-header-step l x q)) ∙ e) in
        let a = then-clean (line_fault true x) (first_header_fault x) w.0 in
        top-here l (x ∷ (y ∷ ys)) t (heads-more l [] x (y ∷ ys) t a.0 (first-named x a.1) (due_from (y ∷ ys) (l + 1) l (headers_said x - 1) (header_of x ∷ []) t n (headers_from (y ∷ ys)) w.1))

top_kept : (ps : List (List ℕ)) (t : Table) (n : ℕ) → run 1 first ps ≡ accepted t n → TopKept 1 ps t
unfolding run
top_kept [] t n e = absurd (early-ends 1 first t n tt e)
top_kept ([] ∷ []) t n e = absurd (early-ends 1 first t n tt e)
top_kept ((x ∷ xs) ∷ []) t n e = absurd (cut-refused 1 first x xs t n e)
top_kept (x ∷ (y ∷ ys)) t n e =
    top-later 1 x (y ∷ ys) t (comments_from (y ∷ ys) 2 (cond (is_bottle x) bottle ctd) t n (stops-refused 2 0 1 (line_fault true x then first_of (first_line_rules x)) (comments (cond (is_bottle x) bottle ctd)) (y ∷ ys) t n (ap (λ (p : Place). run 2 p (y ∷ ys)) (sym (first_step 1 x)) ∙ e)).1)

-- ---- of an accepted file
module _ (f : List ℕ) (t : Table) (n : ℕ) (e : outcome_of f ≡ accepted t n) where
  kept : TopKept 1 (pieces 10 f) t
  unfolding outcome_of
  kept = top_kept (pieces 10 f) t n e

  -- its headers, its names line and its units line come after line 1
  pub lines-before : length t.headers + 2 ≤ t.line
  lines-before = omega (arith, kept.line)

  -- its headers stand just before its names line
  pub heads-kept : HeadsIn (drop (t.line - 2 - length t.headers) (pieces 10 f)) t.headers
  heads-kept =
      let k : t.line - 1 - length t.headers - 1 ≡ t.line - 2 - length t.headers = omega arith in
      subst (λ (m : ℕ). HeadsIn (drop m (pieces 10 f)) t.headers) k kept.heads

  -- its names line is the one before its units line
  pub names-kept : NamesKept t (get_or (pieces 10 f) (t.line - 2) [])
  names-kept = let k : t.line - 1 - 1 ≡ t.line - 2 = omega arith in subst (λ (m : ℕ). NamesKept t (get_or (pieces 10 f) m [])) k kept.named
