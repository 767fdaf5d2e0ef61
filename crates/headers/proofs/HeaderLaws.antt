-- One header line: its name and its value by place, what its rules say at each return, and what its callers have of it.
use Prim.Native.Nat.{ℕ, ◌+◌, ◌-◌, ◌≤◌, ◌<◌}
use mathlib.Core.Path.{◌≡◌, refl, sym, ap, ◌∙◌, subst}
use mathlib.Core.List.{List}
use mathlib.Core.Bool.{Bool, true, false, cond, not, ◌&&◌}
use native.Mathlib.Nat.{add-zero}
use native.Mathlib.Omega.{arith}
use lib.ListN.{length, take, drop, drop_of_length-le}
use lib.Seq.{slice, take-take}
use lib.Dec.{eqb, ltb, leb}
use borrow.Author.Tests.{lt-ltb, le-ltb, ltb-true, le-leb, lt-leb, leb-true}
use Rattle.std.specs.Prelude.{Option, Some, None, Result, Ok, Err}
use Rattle.verdicts.specs.declared.Judged.{Judged}
use Rattle.line_bytes.specs.Bytes.{bytes, equal}
use Rattle.line_bytes.specs.Cells.{first_piece, line_at, cell_at, cell_end}
use Rattle.line_bytes.specs.Spaces.{trim}
use Rattle.line_bytes.specs.Names.{is_name}
use Rattle.verdicts.specs.Verdicts.{Verdict, blank, wrong, out_of_range, good}
use Rattle.verdicts.specs.Kinds.{kind_of}
use Rattle.verdicts.specs.Judge.{judge, whole_of, unless_blank, judged_of, judged_at, whole_at}
use Rattle.text.specs.Catalogue.{names, kinds, kind_in}
use Rattle.line_bytes.specs.Inner.Scans.{Stop}
use Rattle.line_bytes.proofs.CellLaws.{both_true, cell-line}
use Rattle.line_bytes.proofs.SpaceLaws.{slice-take, span-bytes, trim-fits}
use Rattle.verdicts.proofs.JudgeLaws.{judged-stop, whole-stop}
use Rattle.headers.specs.declared.Header.{Header}
use Rattle.headers.specs.declared.FirstHeader.{FirstHeader}
use Rattle.format.specs.declared.BrokenRule.{BrokenRule}
use Rattle.format.specs.Faults.{Fault, clean, breaks, ◌then◌, unless, kind_fault, member, first_of}
use Rattle.format.specs.Headers.{raw_name, name_of, value_of, header_name_rule, count_in, headers_said, first_header_rules, header_kind, header_rules}
use Rattle.format.specs.Inner.Faults.{first_header_fault, header_fault, as_fault}
use Rattle.format.specs.Inner.Lines.{line_fault_at, line_of}
use Rattle.format.specs.Inner.Names.{text_in}
use Rattle.headers.specs.Inner.Headers.{Parted, named_fault_at, first_header_fault_at, header_fault_at, header_for, first_header_for, said_for}
use Rattle.format.proofs.RuleLaws.{then-none}
use Rattle.format.proofs.RunLaws.{piece_in, piece-take, line-later, line-feed, line_ok, line_err, line_clean, line-whole, line-short, line-ends, line_rules_lem}
use Rattle.format.proofs.FaultLaws.{breaks-clean, fault-clean, fault_broken, then-clean, then_second}

-- ---- the search for the =: a cell's end, parted by =
module _ (s : List ℕ) (i : ℕ) where
  pub equals-end : (r : ℕ) → r ≡ cell_end 61 s i → r ≡ i + length (raw_name (line_at s i))
  unfolding cell_end
  equals-end r h = h

  pub equals_past : length s ≤ i → cell_end 61 s i ≡ i
  unfolding cell_end first_piece
  equals_past h = rw (drop_of_length-le s h) (add-zero i)

-- ---- the parts of a line with an =
module _ {s : List ℕ} {i q e : ℕ} (t : Parted s i q e) where
  raw-part : slice i q s ≡ raw_name (line_at s i)
  raw-part =
      let x = line_at s i in
      let k : q - i ≡ length (raw_name x) = omega (arith, t.equals) in
      let m : length (raw_name x) ≤ length x = piece_in 61 x in
      slice-take i q s ∙ ap (λ (n : ℕ). take n (drop i s)) k
      ∙ sym (take-take (length (raw_name x)) (length x) (drop i s) m) ∙ ap (take (length (raw_name x))) (piece-take 10 (drop i s)) ∙ piece-take 61 x

  pub part-name : text_in s i q ≡ name_of (line_at s i)
  part-name = span-bytes s i q (omega (arith, t.equals)) (omega (arith, t.before, t.room)) ∙ ap trim raw-part

  pub part-value : line_at s (q + 1) ≡ value_of (line_at s i)
  part-value =
      let n = length (raw_name (line_at s i)) in
      let k : q + 1 ≡ i + (n + 1) = omega (arith, t.equals) in
      ap (line_at s) k ∙ line-later s i (n + 1) (omega (arith, t.equals, t.end, t.before))

  pub value_cell : cell_at 10 s (q + 1) ≡ value_of (line_at s i)
  value_cell = cell-line s (q + 1) ∙ part-value

  pub value-stop : Stop 10 s (q + 1) e
  value-stop = record { inside = omega (arith, t.before); room = t.room; feed = rw t.end (line-feed s i (omega (arith, t.end, t.room))); parts = refl }

  value-whole : whole_at 2 10 s (q + 1) e ≡ judged_of (cell_end 10 s (q + 1)) (unless_blank (whole_of 2) (trim (value_of (line_at s i))))
  value-whole = whole-stop value-stop 2 (omega arith) ∙ ap (λ (x : List ℕ). judged_of (cell_end 10 s (q + 1)) (unless_blank (whole_of 2) (trim x))) value_cell

  value_judged : (k : ℕ) → judged_at k 10 s (q + 1) e ≡ judged_of (cell_end 10 s (q + 1)) (judge (kind_of k) (value_of (line_at s i)))
  value_judged k = judged-stop value-stop k ∙ ap (λ (x : List ℕ). judged_of (cell_end 10 s (q + 1)) (judge (kind_of k) x)) value_cell

-- ---- the name's rule
module _ (x : List ℕ) where
  name-none : length x ≤ length (raw_name x) → header_name_rule x ≡ breaks 8 1
  unfolding header_name_rule
  name-none h = rw (le-ltb (length (raw_name x)) (length x) h)

  module _ (h : length (raw_name x) < length x) where
    name-long : 64 < length (name_of x) → header_name_rule x ≡ breaks 8 1
    unfolding header_name_rule
    name-long l = rw (lt-ltb (length (raw_name x)) (length x) h, lt-leb (length (name_of x)) 64 l)

    name_by_lem : (b : Bool) → length (name_of x) ≤ 64 → is_name (name_of x) ≡ b → header_name_rule x ≡ unless b 8 1
    unfolding header_name_rule
    name_by_lem b l e = rw (lt-ltb (length (raw_name x)) (length x) h, le-leb (length (name_of x)) 64 l, e)

  -- the line keeps the rule: its name is before its =, and is one
  name-clean : header_name_rule x ≡ clean → (length (raw_name x) < length x) × (0 < length (raw_name x))
  unfolding header_name_rule is_name
  name-clean e = go (ltb (length (raw_name x)) (length x)) (leb (length (name_of x)) 64) (is_name (name_of x)) refl refl e
    where
      full : is_name (name_of x) ≡ true → 0 < length (raw_name x)
      full b = omega (arith, leb-true 1 (length (name_of x)) (both_true (leb 1 (length (name_of x))) _ b).0, trim-fits (raw_name x))

      go : (a b d : Bool) → ltb (length (raw_name x)) (length x) ≡ a → is_name (name_of x) ≡ d → unless (a && b && d) 8 1 ≡ clean
          → (length (raw_name x) < length x) × (0 < length (raw_name x))
      go true true true p q e = (ltb-true _ _ p, full q)
      go true true false p q e = absurd (breaks-clean 8 1 e)
      go true false d p q e = absurd (breaks-clean 8 1 e)
      go false b d p q e = absurd (breaks-clean 8 1 e)

-- ---- a header line by what its rules say
module _ (f : Fault) (s : List ℕ) (i : ℕ) where
  pub header_refused : (b : BrokenRule) → f ≡ breaks b.number b.column → Err b ≡ header_for f s i
  unfolding header_for
  header_refused b e = rw e

  header-breaks : (b : BrokenRule) → header_for f s i ≡ Err b → f ≡ breaks b.number b.column
  unfolding header_for
  header-breaks b e = go f e
    where
      go : (g : Fault) → header_for g s i ≡ Err b → g ≡ breaks b.number b.column
      go clean e = absurd cc
      go (breaks n c) e = let d : record { number = n; column = c } ≡ b = cc in rw (← d)

  header-clean : (h : Header) → header_for f s i ≡ Ok h → f ≡ clean
  unfolding header_for
  header-clean h e = go f e
    where
      go : (g : Fault) → header_for g s i ≡ Ok h → g ≡ clean
      go clean e = refl
      go (breaks n c) e = absurd cc

-- ---- the line up to its name, as `named_line` reads it
module _ (s : List ℕ) (i : ℕ) where
  pub named_broken : (b : BrokenRule) → line_of true s i ≡ Err b → named_fault_at s i ≡ breaks b.number b.column
  named_broken b z = ap (λ (f : Fault). f then header_name_rule (line_at s i)) (line_err true s i b z)

  module _ (e : ℕ) (z : line_of true s i ≡ Ok e) where
    named_rule : named_fault_at s i ≡ header_name_rule (line_at s i)
    named_rule = ap (λ (f : Fault). f then header_name_rule (line_at s i)) (line_ok true s i e z)

    module _ (q : ℕ) (eq : q ≡ i + length (raw_name (line_at s i))) where
      pub named_none : q ≡ e → named_fault_at s i ≡ breaks 8 1
      named_none k = named_rule ∙ name-none (line_at s i) (omega (arith, (line-ends true s i e z).0))

      module _ (k : q ≡ e → ⊥) where
        shorter : length (raw_name (line_at s i)) < length (line_at s i)
        shorter = omega (arith, (line-ends true s i e z).0, piece_in 61 (line_at s i))

        named_parted : Parted s i q e
        named_parted =
            let m = line-ends true s i e z in
            record {
              end = m.0;
              equals = eq;
              before = omega (arith, m.0, shorter);
              room = m.1;
              short = omega (arith, m.0, line-short true (line_at s i) (line_rules_lem true s i e z));
            }

        module _ (t : List ℕ) (et : t ≡ text_in s i q) where
          is_name_lem : t ≡ name_of (line_at s i)
          is_name_lem = et ∙ part-name named_parted

          pub named-long : 64 < length t → named_fault_at s i ≡ breaks 8 1
          named-long h = named_rule ∙ name-long (line_at s i) shorter (rw is_name_lem at h)

          pub named-wrong : length t ≤ 64 → is_name t ≡ false → named_fault_at s i ≡ breaks 8 1
          named-wrong h b = named_rule ∙ name_by_lem (line_at s i) shorter false (rw is_name_lem at h) (rw is_name_lem at b)

          pub named-good : length t ≤ 64 → is_name t ≡ true → ◌≡◌ {A = Result Header BrokenRule} (Ok (record { end = e; equals = q })) (header_for (named_fault_at s i) s i)
          unfolding header_for
          named-good h b =
              let f : named_fault_at s i ≡ clean = named_rule ∙ name_by_lem (line_at s i) shorter true (rw is_name_lem at h) (rw is_name_lem at b) in
              (λ j. Ok (record { end = (line-ends true s i e z).0 j; equals = eq j })) ∙ ap (λ (g : Fault). header_for g s i) (sym f)

-- ---- a line that keeps rules of which that of its name is one
pub record HeaderKept (f : Fault) (s : List ℕ) (i q e : ℕ) : Type 0 where
  pub rules : f ≡ clean
  pub parted : Parted s i q e
  pub named : i < q

module _ (s : List ℕ) (i : ℕ) (e : named_fault_at s i ≡ clean) where
  named-kept : HeaderKept clean s i (i + length (raw_name (line_at s i))) (i + length (line_at s i))
  named-kept =
      let a = then-clean (line_fault_at true s i) (header_name_rule (line_at s i)) e in
      let m = line_clean true s i _ (line-whole true s i a.0) in
      let n = name-clean (line_at s i) a.1 in
      record {
        rules = refl;
        parted = record { end = refl; equals = refl; before = omega (arith, n.0); room = m.1; short = omega (arith, line-short true (line_at s i) m.0) };
        named = omega (arith, n.1);
      }

  line_kept : (f : Fault) → f ≡ clean → (h : Header) → header_for f s i ≡ Ok h → HeaderKept f s i h.equals h.end
  unfolding header_for
  line_kept f p h d =
      let r : record { end = i + length (line_at s i); equals = i + length (raw_name (line_at s i)) } ≡ h = (let z = rw p at d in cc) in
      subst (λ (x : Header). HeaderKept f s i x.equals x.end) r (rw p named-kept)

  first-line-kept : (f : Fault) → f ≡ clean → (h : FirstHeader) → first_header_for f s i ≡ Ok h → HeaderKept f s i h.header.equals h.header.end
  unfolding first_header_for
  first-line-kept f p h d =
      let r : record { header = record { end = i + length (line_at s i); equals = i + length (raw_name (line_at s i)) }; said = headers_said (line_at s i) } ≡ h = (let z = rw p at d in cc) in
      subst (λ (x : FirstHeader). HeaderKept f s i x.header.equals x.header.end) r (rw p named-kept)

-- what is had of the line up to its name
module _ (s : List ℕ) (i : ℕ) (h : Header) (e : header_for (named_fault_at s i) s i ≡ Ok h) where
  named-clean : named_fault_at s i ≡ clean
  named-clean = header-clean (named_fault_at s i) s i h e

  pub named-read : HeaderKept (named_fault_at s i) s i h.equals h.end
  named-read = line_kept s i named-clean (named_fault_at s i) named-clean h e

-- ---- how many headers are said
count_bad : (n : ℕ) (w : Verdict) (v : Judged) → v ≡ judged_of n w → (v.number ≡ 0 → ⊥) → 0 ≡ count_in w
count_bad n blank v e z = refl
count_bad n wrong v e z = refl
count_bad n out_of_range v e z = refl
count_bad n (good m x d) v e z = absurd (z (ap (λ (j : Judged). j.number) e))

none-said : (n : ℕ) → 0 ≡ n → None ≡ said_for n
none-said n e = rw (← e)

count-good : (n : ℕ) (w : Verdict) (v : Judged) → v ≡ judged_of n w → v.number ≡ 0 → cond (leb v.size 64) v.size 0 ≡ count_in w
count-good n blank v e z = absurd (omega (arith, ap (λ (j : Judged). j.number) e))
count-good n wrong v e z = absurd (omega (arith, ap (λ (j : Judged). j.number) e))
count-good n out_of_range v e z = absurd (omega (arith, ap (λ (j : Judged). j.number) e))
count-good n (good m x d) v e z = rw e

module _ {s : List ℕ} {i q e : ℕ} (t : Parted s i q e) (n : List ℕ) (en : n ≡ text_in s i q) (b : Bool) (eb : b ≡ equal n (bytes "NUMBER_HEADERS")) where
  named_by_lem : b ≡ equal (name_of (line_at s i)) (bytes "NUMBER_HEADERS")
  named_by_lem = eb ∙ ap (λ (m : List ℕ). equal m (bytes "NUMBER_HEADERS")) (en ∙ part-name t)

  pub said-other : b ≡ false → None ≡ said_for (headers_said (line_at s i))
  unfolding headers_said
  said-other h = none-said _ (rw (sym named_by_lem ∙ h))

  module _ (h : b ≡ true) (v : Judged) (ev : v ≡ whole_at 2 10 s (q + 1) e) where
    told : Verdict
    told = unless_blank (whole_of 2) (trim (value_of (line_at s i)))

    told_by : v ≡ judged_of (cell_end 10 s (q + 1)) told
    unfolding told
    told_by = ev ∙ value-whole t

    said_by : (m : ℕ) → m ≡ count_in told → m ≡ headers_said (line_at s i)
    unfolding headers_said told
    said_by m k = rw (sym named_by_lem ∙ h) k

    pub said_bad : (v.number ≡ 0 → ⊥) → None ≡ said_for (headers_said (line_at s i))
    said_bad z = none-said _ (said_by 0 (count_bad (cell_end 10 s (q + 1)) told v told_by z))

    module _ (z : v.number ≡ 0) where
      said-size : cond (leb v.size 64) v.size 0 ≡ headers_said (line_at s i)
      said-size = said_by _ (count-good (cell_end 10 s (q + 1)) told v told_by z)

      pub said-many : 64 < v.size → None ≡ said_for (headers_said (line_at s i))
      said-many l = none-said _ (ap (λ (c : Bool). cond c v.size 0) (sym (lt-leb v.size 64 l)) ∙ said-size)

      said_few : v.size ≤ 64 → v.size ≡ headers_said (line_at s i)
      said_few l = ap (λ (c : Bool). cond c v.size 0) (sym (le-leb v.size 64 l)) ∙ said-size

      pub said-none : v.size ≡ 0 → None ≡ said_for (headers_said (line_at s i))
      said-none l = none-said _ (sym l ∙ said_few (omega arith))

      pub said-good : (v.size ≡ 0 → ⊥) → v.size ≤ 64 → Some v.size ≡ said_for (headers_said (line_at s i))
      said-good m l = rw (← (said_few l), lt-ltb 0 v.size (omega (arith, m)))

-- ---- a later header line
kind-fault : (n : ℕ) (w : Verdict) (v : Judged) (c : ℕ) → v ≡ judged_of n w → as_fault v.number c ≡ kind_fault w c
kind-fault n blank v c e = rw e
kind-fault n wrong v c e = rw e
kind-fault n out_of_range v c e = rw e
kind-fault n (good m x d) v c e = rw e

pub kind_is : (r k : ℕ) (t ks n : List ℕ) → r ≡ cond (eqb k 0) 11 k → k ≡ kind_in t ks n → t ≡ names → ks ≡ kinds → r ≡ header_kind n
unfolding header_kind
kind_is r k t ks n e ek et es = e ∙ rw (ek, et, es)

then-later : (f g k : Fault) (n c : ℕ) → (f then g) ≡ breaks n c → (f then (g then k)) ≡ breaks n c
then-later clean clean k n c e = absurd (breaks-clean n c (sym e))
then-later clean (breaks m d) k n c e = e
then-later (breaks m d) g k n c e = e

module _ (s : List ℕ) (i : ℕ) (earlier : List (List ℕ)) where
  -- what a caller has of a later header line
  pub header_broken : (b : BrokenRule) → header_for (header_fault_at earlier s i) s i ≡ Err b → header_fault_at earlier s i ≡ breaks b.number b.column
  header_broken b e = header-breaks (header_fault_at earlier s i) s i b e

  pub header-kept : (h : Header) → header_for (header_fault_at earlier s i) s i ≡ Ok h → HeaderKept (header_fault_at earlier s i) s i h.equals h.end
  unfolding header_fault header_rules first_of
  header-kept h e =
      let f = header-clean (header_fault_at earlier s i) s i h e in
      let a = then-clean (line_fault_at true s i) _ f in
      let b : header_name_rule (line_at s i) ≡ clean = (then-clean (header_name_rule (line_at s i)) _ a.1).0 in
      line_kept s i (ap (λ (g : Fault). g then header_name_rule (line_at s i)) a.0 ∙ b) (header_fault_at earlier s i) f h e

  -- as `header_line` reads it, after the line up to its name
  pub header-named : (b : BrokenRule) → header_for (named_fault_at s i) s i ≡ Err b → Err b ≡ header_for (header_fault_at earlier s i) s i
  unfolding header_fault header_rules first_of
  header-named b e =
      header_refused (header_fault_at earlier s i) s i b
      (then-later (line_fault_at true s i) (header_name_rule (line_at s i)) _ b.number b.column (header-breaks (named_fault_at s i) s i b e))

  module _ (h : Header) (z : header_for (named_fault_at s i) s i ≡ Ok h) where
    rules_left : header_fault_at earlier s i
        ≡ (unless (not (member (name_of (line_at s i)) earlier)) 9 1
        then kind_fault (judge (kind_of (header_kind (name_of (line_at s i)))) (value_of (line_at s i))) (length (raw_name (line_at s i)) + 2))
    unfolding header_fault header_rules first_of
    rules_left =
        let x = line_at s i in
        then_second (line_fault_at true s i) (header_name_rule x) _ (named-clean s i h z)
        ∙ ap (λ (f : Fault). unless (not (member (name_of x) earlier)) 9 1 then f) (then-none (kind_fault (judge (kind_of (header_kind (name_of x))) (value_of x)) (length (raw_name x) + 2)))

    module _ (t : List ℕ) (et : t ≡ text_in s i h.equals) (b : Bool) (eb : b ≡ member t earlier) where
      pub name_is : t ≡ name_of (line_at s i)
      name_is = et ∙ part-name (named-read s i h z).parted

      member_is : member (name_of (line_at s i)) earlier ≡ b
      member_is = ap (λ (x : List ℕ). member x earlier) (sym name_is) ∙ sym eb

      pub header-known : b ≡ true → header_fault_at earlier s i ≡ breaks 9 1
      header-known l = rules_left ∙ rw (member_is, l)

      module _ (l : b ≡ false) (k : ℕ) (ek : k ≡ header_kind (name_of (line_at s i))) (v : Judged) (ev : v ≡ judged_at k 10 s (h.equals + 1) h.end) where
        value_left : as_fault v.number ((h.equals - i) + 2) ≡ header_fault_at earlier s i
        value_left =
            let x = line_at s i in
            let w = (named-read s i h z).parted in
            let m : length (raw_name x) + 2 ≡ (h.equals - i) + 2 = omega (arith, w.equals) in
            let g : header_fault_at earlier s i ≡ kind_fault (judge (kind_of k) (value_of x)) ((h.equals - i) + 2) = rules_left ∙ rw (member_is, l, ek, m) in
            kind-fault (cell_end 10 s (h.equals + 1)) (judge (kind_of k) (value_of x)) v ((h.equals - i) + 2) (ev ∙ value_judged w k) ∙ sym g

        pub header-value : (v.number ≡ 0 → ⊥) → header_fault_at earlier s i ≡ breaks v.number ((h.equals - i) + 2)
        header-value y = fault_broken v.number _ _ value_left y

        pub header-good : v.number ≡ 0 → Ok h ≡ header_for (header_fault_at earlier s i) s i
        header-good y = sym z ∙ ap (λ (g : Fault). header_for g s i) (named-clean s i h z ∙ sym (fault-clean v.number _ _ value_left y))

-- ---- the first header line
said_most : (x : List ℕ) → headers_said x ≤ 64
unfolding headers_said
said_most x = go (equal (name_of x) (bytes "NUMBER_HEADERS")) (unless_blank (whole_of 2) (trim (value_of x)))
  where
    few : (v : ℕ) (b : Bool) → leb v 64 ≡ b → cond b v 0 ≤ 64
    few v true e = leb-true v 64 e
    few v false e = omega arith

    go : (b : Bool) (w : Verdict) → cond b (count_in w) 0 ≤ 64
    go true blank = omega arith
    go true wrong = omega arith
    go true out_of_range = omega arith
    go true (good m v d) = few v (leb v 64) refl
    go false w = omega arith

module _ (s : List ℕ) (i : ℕ) where
  pub first-refused : (b : BrokenRule) → first_header_fault_at s i ≡ breaks b.number b.column → Err b ≡ first_header_for (first_header_fault_at s i) s i
  unfolding first_header_for
  first-refused b e = rw e

  -- what a caller has of it
  pub first_broken : (b : BrokenRule) → first_header_for (first_header_fault_at s i) s i ≡ Err b → first_header_fault_at s i ≡ breaks b.number b.column
  unfolding first_header_for
  first_broken b e = go (first_header_fault_at s i) e
    where
      go : (g : Fault) → first_header_for g s i ≡ Err b → g ≡ breaks b.number b.column
      go clean e = absurd cc
      go (breaks n c) e = let d : record { number = n; column = c } ≡ b = cc in rw (← d)

  module _ (r : FirstHeader) (e : first_header_for (first_header_fault_at s i) s i ≡ Ok r) where
    first-clean : first_header_fault_at s i ≡ clean
    unfolding first_header_for
    first-clean = go (first_header_fault_at s i) e
      where
        go : (g : Fault) → first_header_for g s i ≡ Ok r → g ≡ clean
        go clean e = refl
        go (breaks n c) e = absurd cc

    apart : (header_name_rule (line_at s i) ≡ clean) × (unless (ltb 0 (headers_said (line_at s i))) 8 1 ≡ clean) × (line_fault_at true s i ≡ clean)
    unfolding first_header_fault first_header_rules first_of
    apart =
        let a = then-clean (line_fault_at true s i) _ first-clean in
        let b = then-clean (header_name_rule (line_at s i)) _ a.1 in
        (b.0, (then-clean (unless (ltb 0 (headers_said (line_at s i))) 8 1) clean b.1).0, a.0)

    pub first-kept : HeaderKept (first_header_fault_at s i) s i r.header.equals r.header.end
    first-kept = first-line-kept s i (ap (λ (g : Fault). g then header_name_rule (line_at s i)) apart.2 ∙ apart.0) (first_header_fault_at s i) first-clean r e

    pub first_said : (r.said ≡ headers_said (line_at s i)) × (0 < r.said) × (r.said ≤ 64)
    unfolding first_header_for
    first_said =
        let d = said_is (first_header_fault_at s i) first-clean e in
        (d, rw d (some (ltb 0 (headers_said (line_at s i))) refl apart.1), rw d (said_most (line_at s i)))
      where
        said_is : (f : Fault) → f ≡ clean → first_header_for f s i ≡ Ok r → r.said ≡ headers_said (line_at s i)
        said_is f p h = let z = rw p at h in cc

        some : (b : Bool) → ltb 0 (headers_said (line_at s i)) ≡ b → unless b 8 1 ≡ clean → 0 < headers_said (line_at s i)
        some true p h = ltb-true _ _ p
        some false p h = absurd (breaks-clean 8 1 h)

  -- as `first_header` reads it
  pub first-named : (b : BrokenRule) → header_for (named_fault_at s i) s i ≡ Err b → Err b ≡ first_header_for (first_header_fault_at s i) s i
  unfolding first_header_fault first_header_rules first_of
  first-named b e =
      first-refused b (then-later (line_fault_at true s i) (header_name_rule (line_at s i)) _ b.number b.column (header-breaks (named_fault_at s i) s i b e))

  module _ (h : Header) (z : header_for (named_fault_at s i) s i ≡ Ok h) (o : Option ℕ) (eo : o ≡ said_for (headers_said (line_at s i))) where
    first_rules : first_header_fault_at s i ≡ unless (ltb 0 (headers_said (line_at s i))) 8 1
    unfolding first_header_fault first_header_rules first_of
    first_rules =
        then_second (line_fault_at true s i) (header_name_rule (line_at s i)) _ (named-clean s i h z)
        ∙ then-none (unless (ltb 0 (headers_said (line_at s i))) 8 1)

    pub first-none : o ≡ None → first_header_fault_at s i ≡ breaks 8 1
    first-none k = first_rules ∙ go (ltb 0 (headers_said (line_at s i))) (sym eo ∙ k)
      where
        go : (b : Bool) → cond b (Some (headers_said (line_at s i))) None ≡ None → unless b 8 1 ≡ breaks 8 1
        go true e = absurd cc
        go false e = refl

    pub first_good : (n : ℕ) → o ≡ Some n → ◌≡◌ {A = Result FirstHeader BrokenRule} (Ok (record { header = h; said = n })) (first_header_for (first_header_fault_at s i) s i)
    unfolding first_header_for
    first_good n k =
        let d = go (ltb 0 (headers_said (line_at s i))) (sym eo ∙ k) in
        let f : first_header_fault_at s i ≡ clean = first_rules ∙ d.1 in
        let w = (named-read s i h z).parted in
        (λ j. Ok (record { header = record { end = w.end j; equals = w.equals j }; said = d.0 j })) ∙ ap (λ (g : Fault). first_header_for g s i) (sym f)
      where
        go : (b : Bool) → cond b (Some (headers_said (line_at s i))) None ≡ Some n → (n ≡ headers_said (line_at s i)) × (unless b 8 1 ≡ clean)
        go true e = (cc, refl)
        go false e = absurd cc
