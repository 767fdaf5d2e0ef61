-- The lines of the report put together.
use Prim.Native.Nat.{ℕ, ◌+◌, ◌≤◌, ◌<◌}
use mathlib.Core.Path.{◌≡◌, ap, subst}
use mathlib.Core.List.{List, ◌++◌}
use native.Mathlib.Numerals.{add-one}
use lib.ListN.{length}
use borrow.Author.Tests.{eq-eqb, ne_eqb, lt-ltb, le-ltb}
use Rattle.format.specs.declared.Checked.{Checked}
use Rattle.format.specs.Answers.{checked_of}
use Rattle.format.specs.Records.{profile_of}
use Rattle.pages.specs.Pages.{Page, lay}
use Rattle.report_text.specs.Report.{too_long, refused_line, accepted_line, profile_line, profile_lines, report_by, report_of}

-- the same text laid out
pub lay_along : (p q : Page) (x y : List ℕ) → x ≡ y → q ≡ lay p x → q ≡ lay p y
lay_along p q x y e h = subst (λ (t : List ℕ). q ≡ lay p t) e h

-- one profile more
pub profiles-more : (f : List ℕ) (k : ℕ) → profile_lines f k ++ profile_line f (k + 1) (profile_of f (k + 1)) ≡ profile_lines f (k + 1)
unfolding profile_lines
profiles-more f k = rw (add-one k)

-- the three reports
pub report-long : (f : List ℕ) → 65536 < length f → too_long ≡ report_of f
unfolding report_of
report-long f h = rw (lt-ltb 65536 (length f) h)

module _ (f : List ℕ) (h : length f ≤ 65536) (c : Checked) (e : c ≡ checked_of f) where
  by_check : report_by f c ≡ report_of f
  unfolding report_of
  by_check = rw (le-ltb 65536 (length f) h) (ap (report_by f) e)

  pub report-refused : (c.number ≡ 0 → ⊥) → refused_line c ≡ report_of f
  report-refused n = rw (ne_eqb c.number 0 n) at by_check

  pub report-accepted : c.number ≡ 0 → accepted_line c ++ profile_lines f c.profiles ≡ report_of f
  report-accepted n = rw (eq-eqb c.number 0 n) at by_check
