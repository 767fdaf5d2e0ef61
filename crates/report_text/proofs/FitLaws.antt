-- Every report fits the page: in a bottle file a profile's line is at most 12/5 as long as the data line of its first row, with its line feed.
use Prim.Native.Nat.{ℕ, zero, suc, ◌+◌, ◌-◌, ◌*◌, ◌≤◌, ◌<◌}
use mathlib.Core.Path.{◌≡◌, refl, sym, ap, subst, ◌∙◌}
use mathlib.Core.List.{List, [], ◌∷◌, ◌++◌, map}
use mathlib.Core.Bool.{Bool, true, false, cond}
use native.Mathlib.Numerals.{add-one}
use native.Mathlib.Omega.{arith}
use lib.ListN.{length, get_or, take, drop, length-append, length-drop, length-map, length-take}
use lib.Seq.{length-take-le, take_all}
use lib.Dec.{eqb, ltb}
use borrow.Author.Tests.{ltb-true, ltb-false}
use Rattle.line_bytes.specs.Bytes.{bytes}
use Rattle.line_bytes.specs.Cells.{pieces}
use Rattle.line_bytes.specs.declared.Span.{Span}
use Rattle.verdicts.specs.Kinds.{castno}
use Rattle.verdicts.specs.Judge.{judge}
use Rattle.verdicts.proofs.JudgeLaws.{judge_small, judged_small}
use Rattle.numbers.specs.Texts.{whole_text}
use Rattle.numbers.specs.Patches.{text_at}
use Rattle.format.specs.declared.Checked.{Checked}
use Rattle.format.specs.declared.ProfileRecord.{ProfileRecord}
use Rattle.format.specs.Columns.{Sort, bottle, ctd}
use Rattle.format.specs.Places.{Table, Outcome, accepted, refused, outcome_of}
use Rattle.format.specs.Answers.{checked_by, checked_of}
use Rattle.format.specs.Opened.{line_begin}
use Rattle.format.specs.Records.{Value, given, absent, number_in, station_value, stationed_at, stationed_in, stationed_by, stationed_of, station_place, profile_rows, record_of, profile_by, profile_of}
use Rattle.format.proofs.AcceptLaws.{rows-kept, rows-some}
use Rattle.format.proofs.GridLaws.{starts_add}
use Rattle.format.proofs.OpenedLaws.{LineThere, line-there}
use Rattle.format.proofs.VerdictLaws.{size_anywhere}
use Rattle.laws.specs.Promises.{Profiled}
use Rattle.laws.proofs.ProfileLaws.{profiles-part}
use Rattle.pages.specs.Pages.{Page, page, lay}
use Rattle.pages.proofs.PageLaws.{lay-fits}
use Rattle.report_text.specs.Report.{too_long, refused_line, accepted_line, station_text, profile_line, profile_lines, report_by, report_of}
use Rattle.report_text.specs.Promises.{input_bytes, page_bytes, ReportFits, ReadEnough, ReadSays}
use Rattle.report_text.proofs.ReportLaws.{report-long}
use Rattle.report_text.proofs.LineLengthLaws.{digits_most, digits-few, refused-long, accepted-long, profile-long}
use Rattle.report_text.proofs.RowLengthLaws.{pieces-few, row-long}

-- the lines of all profiles: 12/5 of the most bytes of a file
abbrev profiles_most : ℕ
profiles_most = 157286

-- ---- a profile's record
cast_small : (v : Value) → number_in castno v ≤ 999
cast_small (given x p) = omega (arith, size_anywhere 0 (judge castno x), (judged_small 999 6 0 (judge castno x) (judge_small castno x)).0)
cast_small absent = omega arith

record_cast : (t : Table) (f rs : List ℕ) → (record_of t f rs).castno ≤ 999
record_cast t f [] = omega arith
record_cast t f (r ∷ rs) = cast_small (station_value t f r (bytes "CASTNO"))

-- a part of the file is no longer than the file
part-short : (f : List ℕ) (p : Span) → length (text_at f p) ≤ length f
part-short f p = omega (arith, length-take p.len (drop p.start f), length-drop p.start f)

-- the line of any profile: so the one profile of a CTD file fits
one-long : (f : List ℕ) (k : ℕ) (p : ProfileRecord) → length (profile_line f k p) ≤ 73 + length f + length f
one-long f k p =
    let long = profile-long f k p 20 20 (length f) (length f) 20 (digits_most 19 p.first) (digits_most 19 p.rows)
    (part-short f (station_place f (stationed_of f k (bytes "EXPOCODE")))) (part-short f (station_place f (stationed_of f k (bytes "STNNBR")))) (digits_most 19 p.castno) in
    omega (arith, long)

module _ (f : List ℕ) (t : Table) (n : ℕ) (e : outcome_of f ≡ accepted t n) (l : length f ≤ 65536) where
  parts : Profiled f t n
  parts = profiles-part.part f t n e

  abbrev first : ℕ → ℕ
  first k = (profile_of f k).first

  abbrev rows : ℕ → ℕ
  rows k = (profile_of f k).rows

  abbrev count : ℕ
  count = (checked_of f).profiles

  -- row r, from 1, is a line that another follows
  row-there : (r : ℕ) → 1 ≤ r → r ≤ n → suc (t.line + (r - 1)) < length (pieces 10 f)
  row-there r h g = omega (arith, (rows-kept f t n e (r - 1) (omega (arith, h, g))).line, length-drop t.line (pieces 10 f))

  -- a file has no more rows than bytes
  rows_few : n ≤ length f
  rows_few = let some = rows-some f t n e in omega (arith, some, row-there n some (omega arith), pieces-few 10 f)

  -- a profile's rows are among those of the file
  rows_end : (j k : ℕ) → 1 ≤ k → k + j ≡ count → first k + rows k ≤ n + 1
  rows_end zero k h q =
      let last : k ≡ count = omega (arith, q) in
      subst (λ (m : ℕ). first m + rows m ≤ n + 1) (sym last) (omega (arith, parts.ends))
  rows_end (suc j) k h q = omega (arith, parts.follows k h (omega (arith, q)), rows_end j (k + 1) (omega arith) (omega (arith, q)))

  record_is : (k : ℕ) → profile_of f k ≡ record_of t f (profile_rows t n f k)
  unfolding profile_of
  record_is k = ap (profile_by f k) e

  value_is : (k : ℕ) (name : List ℕ) → station_text f k name ≡ text_at f (station_place f (stationed_in t f name (profile_rows t n f k)))
  unfolding stationed_of
  value_is k name = ap (λ (x : Outcome). text_at f (station_place f (stationed_by f k name x))) e

  -- the first row of each profile is there, the first at row 1 and each after the one before
  first-low : (k : ℕ) → 1 ≤ k → k ≤ count → 1 ≤ first k
  first-low zero h g = absurd (omega arith)
  first-low (suc zero) h g = omega (arith, parts.begins)
  first-low (suc (suc k)) h g =
      let q : suc k + 1 ≡ suc (suc k) = omega arith in
      subst (λ (m : ℕ). 1 ≤ first m) q (omega (arith, parts.follows (suc k) (omega arith) (omega (arith, g)), parts.some (suc k) (omega arith) (omega (arith, g))))

  module _ (b : t.sort ≡ bottle) (k : ℕ) (h : 1 ≤ k) (g : k ≤ count) where
    in_rows : first k + rows k ≤ n + 1
    in_rows = rows_end (count - k) k h (omega (arith, g))

    some-rows : 1 ≤ rows k
    some-rows = parts.some k h g

    few : (m : ℕ) → m ≤ n → length (whole_text m) ≤ 5
    few m z = digits-few 4 19 m (omega (arith, z, rows_few, l))

    cast-few : length (whole_text (profile_of f k).castno) ≤ 3
    cast-few = digits-few 2 19 (profile_of f k).castno (omega (arith, ap (λ (p : ProfileRecord). p.castno) (record_is k), record_cast t f (profile_rows t n f k)))

    abbrev line_of : ℕ → List ℕ
    line_of r = get_or (pieces 10 f) (t.line + (r - 1)) []

    -- a profile's line by the line of its first row, which has its texts too
    line_by : (rs : List ℕ) → profile_rows t n f k ≡ rs → 5 * length (profile_line f k (profile_of f k)) ≤ 12 * (length (line_of (first k)) + 1)
    line_by [] q = absurd (omega (arith, first-low k h g, ap (λ (p : ProfileRecord). p.first) (record_is k ∙ ap (record_of t f) q)))
    line_by (r ∷ rs) q =
        let same : first k ≡ r = ap (λ (p : ProfileRecord). p.first) (record_is k ∙ ap (record_of t f) q) in
        let text : (name : List ℕ) → station_text f k name ≡ text_at f (station_place f (stationed_at (station_value t f r name))) =
        λ name. value_is k name ∙ ap (λ (x : List ℕ). text_at f (station_place f (stationed_in t f name x))) q in
        let long = row-long f t n e b r (omega (arith, same, first-low k h g)) (omega (arith, same, in_rows, some-rows)) in
        let line = profile-long f k (profile_of f k) 5 5 (length (station_text f k (bytes "EXPOCODE"))) (length (station_text f k (bytes "STNNBR"))) 3
        (few (first k) (omega (arith, in_rows, some-rows))) (few (rows k) (omega (arith, in_rows, first-low k h g))) (omega arith) (omega arith) cast-few in
        subst (λ (m : ℕ). 5 * length (profile_line f k (profile_of f k)) ≤ 12 * (length (line_of m) + 1)) (sym same)
        (omega (arith, long, line, ap length (text (bytes "EXPOCODE")), ap length (text (bytes "STNNBR"))))

    -- the line after the first row of the profile
    abbrev next : ℕ
    next = line_begin f (t.line + first k)

    row_line : LineThere f (t.line + (first k - 1)) (line_begin f (t.line + (first k - 1)))
    row_line = line-there f (t.line + (first k - 1)) (row-there (first k) (first-low k h g) (omega (arith, in_rows, some-rows)))

    next_is : next ≡ line_begin f (t.line + (first k - 1)) + length (line_of (first k)) + 1
    next_is =
        let w = row_line in
        let q : t.line + first k ≡ t.line + (first k - 1) + 1 = omega (arith, first-low k h g) in
        ap (line_begin f) q ∙ sym w.next ∙ ap (λ (x : List ℕ). line_begin f (t.line + (first k - 1)) + length x + 1) w.stands.text

    next-inside : next ≤ length f
    next-inside = omega (arith, next_is, row_line.stands.fed, ap length row_line.stands.text)

    -- one profile more: the lines before it are of rows before its first
    more-long : (c : ℕ) (x : List ℕ) → 5 * length x ≤ 12 * c → c ≤ line_begin f (t.line + (first k - 1)) → 5 * length (x ++ profile_line f k (profile_of f k)) ≤ 12 * next
    more-long c x w z = omega (arith, w, z, next_is, length-append x (profile_line f k (profile_of f k)), line_by (profile_rows t n f k) refl)

  -- which is not after the first row of the next profile
  next-before : (k : ℕ) → 1 ≤ k → suc k ≤ count → line_begin f (t.line + first k) ≤ line_begin f (t.line + (first (suc k) - 1))
  next-before k h g =
      let ws = map length (pieces 10 f) in
      let follows : first (suc k) ≡ first k + rows k = subst (λ (m : ℕ). first m ≡ first k + rows k) (add-one k) (parts.follows k h g) in
      let some = parts.some k h (omega (arith, g)) in
      let there = row-there (first k) (first-low k h (omega (arith, g))) (omega (arith, rows_end (count - k) k h (omega (arith, g)), some)) in
      let inside : t.line + first k < length ws = omega (arith, there, first-low k h (omega (arith, g)), length-map (pieces 10 f) length) in
      let q : t.line + (first (suc k) - 1) ≡ t.line + first k + (rows k - 1) = omega (arith, follows, some) in
      omega (arith, ap (line_begin f) q, starts_add ws (t.line + first k) (rows k - 1) inside)

  profiles-long : t.sort ≡ bottle → (k : ℕ) → suc k ≤ count → 5 * length (profile_lines f (suc k)) ≤ 12 * line_begin f (t.line + first (suc k))
  unfolding profile_lines
  profiles-long b zero g = more-long b 1 (omega arith) g 0 [] (omega arith) (omega arith)
  profiles-long b (suc k) g =
      more-long b (suc (suc k)) (omega arith) g (line_begin f (t.line + first (suc k))) (profile_lines f (suc k)) (profiles-long b k (omega (arith, g)))
      (next-before (suc k) (omega arith) g)

  -- ---- all lines of the profiles
  bottle-long : t.sort ≡ bottle → (k : ℕ) → k ≤ count → length (profile_lines f k) ≤ profiles_most
  unfolding profile_lines
  bottle-long b zero g = omega arith
  bottle-long b (suc k) g = omega (arith, profiles-long b k g, next-inside b (suc k) (omega arith) g, l)

  ctd-long : t.sort ≡ ctd → length (profile_lines f count) ≤ 131145
  unfolding profile_lines
  ctd-long b = subst (λ (k : ℕ). length (profile_lines f k) ≤ 131145) (sym (parts.whole b)) (omega (arith, one-long f 1 (profile_of f 1), l))

  lines_long : length (profile_lines f count) ≤ profiles_most
  lines_long = go t.sort refl
    where
      go : (k : Sort) → t.sort ≡ k → length (profile_lines f count) ≤ profiles_most
      go bottle b = bottle-long b count (omega arith)
      go ctd b = omega (arith, ctd-long b)

-- ---- the report
all-long : (f : List ℕ) → length f ≤ 65536 → length (profile_lines f (checked_of f).profiles) ≤ profiles_most
unfolding checked_of profile_lines
all-long f l = go (outcome_of f) refl
  where
    go : (x : Outcome) → outcome_of f ≡ x → length (profile_lines f (checked_by f x).profiles) ≤ profiles_most
    go (accepted t n) e = subst (λ (x : Outcome). length (profile_lines f (checked_by f x).profiles) ≤ profiles_most) e (lines_long f t n e l)
    go (refused a b c) e = omega arith

by-long : (f : List ℕ) (c : Checked) → length (profile_lines f c.profiles) ≤ profiles_most → length (report_by f c) ≤ page_bytes
by-long f c h = go (eqb c.number 0)
  where
    go : (z : Bool) → length (cond z (accepted_line c ++ profile_lines f c.profiles) (refused_line c)) ≤ page_bytes
    go true = omega (arith, length-append (accepted_line c) (profile_lines f c.profiles), accepted-long c, h)
    go false = omega (arith, refused-long c)

pub report-fits : ReportFits
unfolding report_of
report-fits f = go (ltb 65536 (length f)) refl
  where
    go : (z : Bool) → ltb 65536 (length f) ≡ z → length (cond z too_long (report_by f (checked_of f))) ≤ page_bytes
    go true q = omega arith
    go false q = by-long f (checked_of f) (all-long f (ltb-false 65536 (length f) q))

-- so it stands at the start of the page, and its length is where it ends
pub report-laid : (f s u : List ℕ) (r : ℕ) → length s ≡ page_bytes → page u r ≡ lay (page s 0) (report_of f)
    → (r ≡ length (report_of f)) × (u ≡ report_of f ++ drop r s)
report-laid f s u r h e =
    let fits = lay-fits s (report_of f) (subst (λ (n : ℕ). length (report_of f) ≤ n) (sym h) (report-fits f)) in
    let r_is : r ≡ length (report_of f) = ap (λ (p : Page). p.at) (e ∙ fits) in
    (r_is, ap (λ (p : Page). p.room) (e ∙ fits) ∙ ap (λ (k : ℕ). report_of f ++ drop k s) (sym r_is))

-- its page is as long at least
pub page_longer : (f s u : List ℕ) (r : ℕ) → r ≡ length (report_of f) → u ≡ report_of f ++ drop r s → r ≤ length u
page_longer f s u r h e = omega (arith, h, ap length e, length-append (report_of f) (drop r s))

-- ---- what is read of a file
pub read_enough : ReadEnough
read_enough f = go (ltb input_bytes (length f)) refl
  where
    go : (z : Bool) → ltb input_bytes (length f) ≡ z → report_of (take input_bytes f) ≡ report_of f
    go true q =
        let long = ltb-true input_bytes (length f) q in
        sym (report-long (take input_bytes f) (omega (arith, long, length-take-le input_bytes f (omega (arith, long))))) ∙ report-long f (omega (arith, long))
    go false q = ap report_of (take_all input_bytes f (ltb-false input_bytes (length f) q))

pub read_says : (s : List ℕ) (n : ℕ) → length s ≡ input_bytes → ReadSays s n
read_says s n h f e = ap report_of (e ∙ ap (λ (k : ℕ). take k f) h) ∙ read_enough f
