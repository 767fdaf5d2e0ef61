-- The value of a name by place: of a header, or of a column in a row; the number and the time that it writes.
use Prim.Native.Nat.{ℕ, ◌+◌, ◌-◌, ◌/◌, ◌%◌, ◌≤◌, ◌<◌}
use mathlib.Core.Path.{◌≡◌, refl, sym, ap, subst, ◌∙◌}
use mathlib.Core.List.{List, [], ◌∷◌}
use mathlib.Core.Bool.{Bool, true, false, cond, not, ◌||◌, true≢false}
use native.Mathlib.Omega.{arith}
use lib.ListN.{length, get_or, length-drop}
use lib.Dec.{eqb}
use borrow.Author.Tests.{lt-ltb, le-ltb}
use Rattle.line_bytes.specs.declared.Span.{Span}
use Rattle.verdicts.specs.declared.Judged.{Judged}
use Rattle.line_bytes.specs.Bytes.{equal}
use Rattle.line_bytes.specs.Cells.{cell_at, line_at, cell_end}
use Rattle.verdicts.specs.Verdicts.{Verdict, blank, wrong, out_of_range, good}
use Rattle.verdicts.specs.Kinds.{kind_of}
use Rattle.verdicts.specs.Judge.{judge, judged_of, judged_at}
use Rattle.line_bytes.proofs.CellLaws.{stop_moved}
use Rattle.verdicts.proofs.JudgeLaws.{judged-stop}
use Rattle.format.specs.declared.CastTime.TheVariants.{Given, Missing}
use Rattle.profiles.specs.declared.values.ValueAt.{ValueAt}
use Rattle.format.specs.Faults.{place_in}
use Rattle.format.specs.Headers.{Header, header_of, raw_name, name_of, value_of}
use Rattle.format.specs.Columns.{names_of}
use Rattle.format.specs.Inner.Grid.{cell_span}
use Rattle.format.specs.Records.{Value, given, absent, header_place, header_value, number_in, time_in, cast_time}
use Rattle.format.specs.Inner.Names.{text_in}
use Rattle.headers.specs.Inner.Headers.{Parted}
use Rattle.format.specs.Inner.Heads.{LineStands, HeaderLines, none, more}
use Rattle.format.specs.NamesLine.{column_in_line}
use Rattle.format.proofs.NamesLineLaws.{column-found, column_lacking}
use Rattle.format.specs.Inner.Rows.{line_cells}
use Rattle.profiles.specs.Inner.Values.{ValueStands, ColumnsStand, value_in}
use Rattle.headers.proofs.HeaderLaws.{part-name, value_cell, value-stop}
use Rattle.format.proofs.GridLaws.{SpanAt, span_at_lem}
use Rattle.format.proofs.HeadLaws.{equals-inside}
use Rattle.format.proofs.OpenedLaws.{headers-order}
use Rattle.format.proofs.RunLaws.{line-short}
use Rattle.format.proofs.VerdictLaws.{size_anywhere}

-- ---- the headers, one after the other
pub record HeaderFirst (s : List ℕ) (end i l : ℕ) (hs : List Header) : Type 0 where
  pub parted : Parted s i (i + length (raw_name (line_at s i))) (i + length (line_at s i))
  pub stands : LineStands s l i
  pub others : List Header
  pub list : hs ≡ header_of (line_at s i) ∷ others
  pub later : HeaderLines s end (i + length (line_at s i) + 1) (l + 1) others

pub headers-apart : {s : List ℕ} {end i l : ℕ} {hs : List Header} → HeaderLines s end i l hs → i < end → HeaderFirst s end i l hs
headers-apart none h = absurd (omega arith)
headers-apart {s} {end} {i} {l} (more {hs = others} x a b g) h = record {
  parted = record { end = refl; equals = refl; before = omega (arith, equals-inside (line_at s i) b); room = x.fed; short = omega (arith, line-short true (line_at s i) a) };
  stands = x;
  others = others;
  list = refl;
  later = g;
}

-- none is left
pub headers_done : {s : List ℕ} {end i l : ℕ} {hs : List Header} (name : List ℕ) → HeaderLines s end i l hs → end ≤ i → header_value s name l hs ≡ absent
unfolding header_value
headers_done name none h = refl
headers_done name (more p a b g) h = absurd (omega (arith, headers-order g))

-- what is left of the headers from the place i on, at `at`
pub record HeadersLeft (s : List ℕ) (end at : ℕ) (name : List ℕ) (x : Value) : Type 0 where
  pub line : ℕ
  pub headers : List Header
  pub lines : HeaderLines s end at line headers
  pub same : x ≡ header_value s name line headers

module _ {s : List ℕ} {end i : ℕ} {name : List ℕ} {x : Value} (w : HeadersLeft s end i name x) (h : i < end) where
  abbrev front : HeaderFirst s end i w.line w.headers
  front = headers-apart w.lines h

  by_name : x ≡ cond (equal (name_of (line_at s i)) name) (given (value_of (line_at s i)) (header_place s w.line)) (header_value s name (w.line + 1) front.others)
  unfolding header_value
  by_name = w.same ∙ ap (header_value s name w.line) front.list

  module _ (q e : ℕ) (eq : q ≡ i + length (raw_name (line_at s i))) (ee : e ≡ i + length (line_at s i)) where
    pub left_parted : Parted s i q e
    left_parted = subst (λ (n : ℕ). Parted s i n e) (sym eq) (subst (Parted s i (i + length (raw_name (line_at s i)))) (sym ee) front.parted)

    module _ (t : List ℕ) (b : Bool) (et : t ≡ text_in s i q) (eb : b ≡ equal t name) where
      test : equal (name_of (line_at s i)) name ≡ b
      test = sym (eb ∙ ap (λ (y : List ℕ). equal y name) (et ∙ part-name left_parted))

      pub left_passed : b ≡ false → HeadersLeft s end (e + 1) name x
      left_passed z = record {
        line = w.line + 1;
        headers = front.others;
        lines = subst (λ (n : ℕ). HeaderLines s end (n + 1) (w.line + 1) front.others) (sym ee) front.later;
        same = by_name ∙ ap (λ (y : Bool). cond y (given (value_of (line_at s i)) (header_place s w.line)) (header_value s name (w.line + 1) front.others)) (test ∙ z);
      }

      place_is : header_place s w.line ≡ record { start = q + 1; len = e - (q + 1) }
      place_is = λ j. record { start = start_is j; len = len_is j }
        where
          g : LineStands s w.line i
          g = front.stands

          start_is : (header_place s w.line).start ≡ q + 1
          start_is = omega (arith, g.place, ap (λ (y : List ℕ). length (raw_name y)) (sym g.text))

          len_is : (header_place s w.line).len ≡ e - (q + 1)
          len_is = ap (λ (y : List ℕ). length (value_of y)) (sym g.text) ∙ length-drop (length (raw_name (line_at s i)) + 1) (line_at s i) ∙ omega arith

      pub left-found : b ≡ true → ValueStands s x (record { separator = 10; start = q + 1; len = e - (q + 1); feed = e })
      left-found z = record {
        is = by_name ∙ ap (λ (c : Bool). cond c (given (value_of (line_at s i)) (header_place s w.line)) (header_value s name (w.line + 1) front.others)) (test ∙ z)
            ∙ ap (λ (v : List ℕ). given v (header_place s w.line)) (sym (value_cell left_parted)) ∙ ap (given (cell_at 10 s (q + 1))) place_is;
        stop = value-stop left_parted;
        room = omega (arith, left_parted.before, left_parted.room);
      }

-- ---- the columns of a names line
module _ {s : List ℕ} {place i : ℕ} (w : ColumnsStand s place i) (name : List ℕ) (c : ℕ) (ec : c ≡ column_in_line (line_at s place) name) where
  abbrev ns : List (List ℕ)
  ns = names_of (line_at s place)

  pub column-none : c ≡ 0 → value_in s place i name ≡ absent
  unfolding value_in
  column-none z = rw (le-ltb (place_in name ns) (length ns) (column_lacking (line_at s place) name (sym ec ∙ z)))

  module _ (z : c ≡ 0 → ⊥) where
    inside : place_in name ns < length ns
    inside = (column-found (line_at s place) name (λ y. z (ec ∙ y))).0

    column_is : place_in name ns ≡ c - 1
    column_is = omega (arith, ec, (column-found (line_at s place) name (λ y. z (ec ∙ y))).1)

    value_is : value_in s place i name ≡ given (get_or (line_cells s i) (c - 1) []) (cell_span s i (c - 1))
    unfolding value_in
    value_is = rw (lt-ltb (place_in name ns) (length ns) inside) (ap (λ (n : ℕ). given (get_or (line_cells s i) n []) (cell_span s i n)) column_is)

    pub cell-found : (e : ℕ) (p : Span) → e ≡ i + length (line_at s i) → p ≡ cell_span s i (c - 1)
        → ValueStands s (value_in s place i name) (record { separator = 44; start = p.start; len = p.len; feed = e })
    cell-found e p ee ep =
        let a : SpanAt s i (i + length (line_at s i)) (c - 1) = span_at_lem (c - 1) s i (i + length (line_at s i)) w.row (omega (arith, inside, column_is, w.many)) in
        record {
          is = value_is ∙ ap (λ (t : List ℕ). given t (cell_span s i (c - 1))) (sym a.text) ∙ ap (λ (x : Span). given (cell_at 44 s x.start) x) (sym ep);
          stop = rw (ep, ee) (stop_moved w.row a.inside);
          room = rw ep (omega (arith, a.room, w.row.room));
        }

-- ---- what a value writes
-- the time of a verdict
module _ (n : ℕ) (j : Judged) where
  time_lacking : (w : Verdict) → j ≡ judged_of n w → (not (eqb j.number 0) || j.minus) ≡ true → Missing ≡ time_in w
  time_lacking blank e h = refl
  time_lacking wrong e h = refl
  time_lacking out_of_range e h = refl
  time_lacking (good m v d) e h = let z : m ≡ true = rw e at h in rw z

  time_told : (w : Verdict) → j ≡ judged_of n w → (not (eqb j.number 0) || j.minus) ≡ false → Given (j.size / 100) (j.size % 100) ≡ time_in w
  time_told blank e h = absurd (true≢false (rw e at h))
  time_told wrong e h = absurd (true≢false (rw e at h))
  time_told out_of_range e h = absurd (true≢false (rw e at h))
  time_told (good m v d) e h = let z : m ≡ false = rw e at h in rw (z, e)

module _ {s : List ℕ} {x : Value} {v : ValueAt} (w : ValueStands s x v) where
  module _ (kind : ℕ) (j : Judged) (ej : j ≡ judged_at kind v.separator s v.start v.feed) where
    abbrev verdict : Verdict
    verdict = judge (kind_of kind) (cell_at v.separator s v.start)

    judged_is : j ≡ judged_of (cell_end v.separator s v.start) verdict
    judged_is = ej ∙ judged-stop w.stop kind

    pub number-some : j.size ≡ number_in (kind_of kind) x
    number-some = rw w.is (ap (λ (y : Judged). y.size) judged_is ∙ size_anywhere (cell_end v.separator s v.start) verdict)

  module _ (j : Judged) (ej : j ≡ judged_at 10 v.separator s v.start v.feed) where
    pub time-missing : (not (eqb j.number 0) || j.minus) ≡ true → Missing ≡ cast_time x
    unfolding kind_of
    time-missing z = rw w.is (time_lacking (cell_end v.separator s v.start) j (verdict 10 j ej) (judged_is 10 j ej) z)

    pub time-given : (not (eqb j.number 0) || j.minus) ≡ false → Given (j.size / 100) (j.size % 100) ≡ cast_time x
    unfolding kind_of
    time-given z = rw w.is (time_told (cell_end v.separator s v.start) j (verdict 10 j ej) (judged_is 10 j ej) z)
