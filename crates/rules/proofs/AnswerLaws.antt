-- What the code knows of a file's table is what the answer is made of.
use Prim.Native.Nat.{ℕ, ◌+◌, ◌-◌, ◌≤◌, ◌<◌}
use mathlib.Core.Path.{◌≡◌, refl, sym, ap, subst, ◌∙◌}
use mathlib.Core.List.{List, map}
use native.Mathlib.Omega.{arith}
use lib.ListN.{length, drop, length-drop}
use Rattle.line_bytes.specs.Cells.{pieces}
use Rattle.format.specs.declared.FileKind.{FileKind}
use Rattle.format.specs.declared.FileKind.TheVariants.{Bottle, Ctd}
use Rattle.format.specs.declared.Refusal.{Refusal}
use Rattle.format.specs.declared.Opened.{Opened}
use Rattle.rules.specs.declared.table.FileTable.{FileTable}
use Rattle.format.specs.Columns.{Sort, bottle, ctd, kinds_of}
use Rattle.format.specs.Places.{Table, refused, outcome_of}
use Rattle.format.specs.Profiles.{missing_in_rows, key_of, run_count}
use Rattle.format.specs.Answers.{rows_in, missing_of, profiles_by, kind_by}
use Rattle.format.specs.Records.{headers_line}
use Rattle.format.specs.Opened.{line_begin, names_line, opened_by, opened_of}
use Rattle.format.specs.Inner.Rows.{rows_from}
use Rattle.format.proofs.AcceptLaws.{rows-kept, rows-some}
use Rattle.format.proofs.GridLaws.{place_of-line}
use Rattle.format.proofs.HeadLaws.{lines-before}
use Rattle.format.proofs.OpenedLaws.{rows-first}
use Rattle.rules.specs.Inner.Top.{LineAt}
use Rattle.rules.specs.Inner.Table.{FileTold}

pub answer-refused : (s : List ℕ) (e : Refusal) → outcome_of s ≡ refused e.number e.line e.column → opened_by s (refused e.number e.line e.column) ≡ opened_of s
unfolding opened_of
answer-refused s e h = ap (opened_by s) (sym h)

module _ (s : List ℕ) (v : FileTable) (t : Table) (w : FileTold s v t) where
  deep : t.line < length (pieces 10 s)
  deep =
      let k = rows-kept s t v.rows w.is 0 (rows-some s t v.rows w.is) in
      omega (arith, k.line, length-drop t.line (pieces 10 s))

  -- the places of the lines
  line_is : (l i : ℕ) → LineAt s (l + 1) i → l ≤ t.line → i ≡ line_begin s l
  line_is l i w h =
      let e : l + 1 - 1 ≡ l = omega arith in
      place_of-line s i l w.inside (omega (arith, deep, h)) (w.starts ∙ ap (λ (k : ℕ). drop k (pieces 10 s)) e)

  first_is : v.data ≡ line_begin s t.line
  first_is = line_is t.line v.data (record { inside = w.read.inside; starts = w.read.starts }) (omega arith)

  names_is : v.names ≡ line_begin s (names_line t)
  names_is =
      let e : t.line - 1 ≡ t.line - 2 + 1 = omega (arith, lines-before s t v.rows w.is) in
      line_is (names_line t) v.names (subst (λ (k : ℕ). LineAt s k v.names) e w.names) (omega arith)

  headers_is : v.headers ≡ line_begin s (headers_line t)
  headers_is = line_is (headers_line t) v.headers w.headers (omega arith)

  -- the rows read are the rows of the file
  rows_are : rows_from s v.data v.rows ≡ rows_in t v.rows s
  rows_are = let e : t.line + 1 - 1 ≡ t.line = omega arith in rows-first s t v.data v.rows (w.read.starts ∙ ap (λ (k : ℕ). drop k (pieces 10 s)) e)

  runs_are : v.profiles ≡ run_count (map (key_of (kinds_of t.names)) (rows_in t v.rows s))
  runs_are = w.read.profiles ∙ ap (λ (rs : List (List (List ℕ))). run_count (map (key_of (kinds_of t.names)) rs)) rows_are

  missing_are : v.missing ≡ missing_of t v.rows s
  missing_are = w.read.missing ∙ ap (missing_in_rows (kinds_of t.names)) rows_are

  pub answer : (n : ℕ) → n ≡ profiles_by t.sort v.profiles
      → ◌≡◌ {A = Opened}
      (record {
        checked = record { number = 0; line = 0; column = 0; kind = v.kind; columns = v.columns; rows = v.rows; profiles = n; missing = v.missing };
        headers = v.headers;
        names = v.names;
        first = v.data;
      }) (opened_of s)
  unfolding opened_of
  answer n e = rw (w.is, e, w.kind, ← runs_are, ← missing_are, ← w.read.many, ← first_is, ← names_is, ← headers_is) refl

-- the profiles by the kind of file
pub one_profile : (k : Sort) (f : FileKind) (n : ℕ) → f ≡ kind_by k → f ≡ Ctd → 1 ≡ profiles_by k n
one_profile bottle f n e c = let h : Bottle ≡ Ctd = sym e ∙ c in absurd cc
one_profile ctd f n e c = refl

pub runs_profiles : (k : Sort) (f : FileKind) (n : ℕ) → f ≡ kind_by k → (f ≡ Ctd → ⊥) → n ≡ profiles_by k n
runs_profiles bottle f n e c = refl
runs_profiles ctd f n e c = absurd (c e)
