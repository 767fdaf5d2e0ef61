-- A correction seen from outside the bytes: its answer and its writes come from the file's outcome and the widths of its cells alone, and the bytes it
-- leaves are the file's grid with these writes.
use Prim.Native.Nat.{ℕ, zero, suc, ◌+◌, ◌-◌, ◌<◌}
use mathlib.Core.Path.{◌≡◌, refl, sym, ap, ◌∙◌, subst}
use mathlib.Core.Bool.{cond, ◌||◌}
use mathlib.Core.List.{List, [], ◌∷◌, map}
use lib.ListN.{length, get_or, replicate, length-map, length-replicate, get_or-map}
use lib.Dec.{ltb}
use borrow.Author.Tests.{lt-ltb}
use Rattle.line_bytes.specs.declared.Span.{Span}
use Rattle.line_bytes.specs.Cells.{pieces}
use Rattle.format.specs.Places.{Table, Outcome, accepted, refused, outcome_of}
use Rattle.format.specs.Grid.{starts, span_in, nowhere}
use Rattle.laws.specs.Inner.Writes.{join, ungrid}
use Rattle.format.specs.Profiles.{grid}
use Rattle.format.specs.Answers.{cell_place}
use Rattle.laws.proofs.JoinLaws.{All}
use Rattle.laws.proofs.PlaceLaws.{span-text}
use Rattle.laws.proofs.UngridLaws.{clean-grid, ungrid-grid, lines-ungrid}
use Rattle.numbers.specs.Texts.{at_right}
use Rattle.numbers.specs.Patches.{text_at, patch}
use Rattle.orders.specs.declared.Answer.{Answer}
use Rattle.orders.specs.declared.Answer.TheVariants.{Applied, Refused}
use Rattle.orders.specs.declared.Order.{Order}
use Rattle.orders.specs.Corrections.{Entry, entries_of, number_entries, any_longer, text_too_long, tests_of, first_that, own_text, answer_by, answer_of, fill_at, fills_by, fills_of, filled, left_by, corrected_of}
use Rattle.orders.proofs.GeometryLaws.{Grid, Shape, widths_of, shape, put, cell_in, cell_row, width_at, width-cell, Inside, shape_put, line_long, begin, lines_long, put-patch}
use Rattle.orders.proofs.PutLaws.{Put, puts, Fit}

-- ---- the place of a cell, by the widths
unfoldable pub span_at : Shape → ℕ → ℕ → Span
span_at sh l c = cond (ltb c (length (get_or sh l []))) (record { start = begin sh l c; len = width_at sh l c }) nowhere

inside-row : (sh : Shape) (l c : ℕ) → Inside sh l c → c < length (get_or sh l [])
inside-row [] l c h = absurd h
inside-row (r ∷ sh) zero c h = h
inside-row (r ∷ sh) (suc l) c h = inside-row sh l c h

pub span-inside : (sh : Shape) (l c : ℕ) → Inside sh l c → span_at sh l c ≡ record { start = begin sh l c; len = width_at sh l c }
unfolding span_at
span-inside sh l c h = rw (lt-ltb c (length (get_or sh l [])) (inside-row sh l c h))

lines_joined : (f : List ℕ) → map (join 44) (grid f) ≡ pieces 10 f
lines_joined f = sym (lines-ungrid (grid f) (clean-grid f)) ∙ ap (pieces 10) (ungrid-grid f)

span_shape : (f : List ℕ) (l k : ℕ) → span_in (starts (map length (pieces 10 f)) l) (get_or (grid f) l []) k ≡ span_at (shape (grid f)) l k
unfolding span_in span_at begin
span_shape f l k =
    let ts : List (List ℕ) = get_or (grid f) l [] in
    let ws : List ℕ = get_or (shape (grid f)) l [] in
    let e : ws ≡ map length ts = get_or-map widths_of (grid f) l [] in
    let n : length ts ≡ length ws = sym (ap length e ∙ length-map ts length) in
    let i : starts (map length (pieces 10 f)) l ≡ starts (map line_long (shape (grid f))) l =
    ap (λ (ws : List ℕ). starts ws l) (ap (map length) (sym (lines_joined f)) ∙ lines_long (grid f)) in
    let a : starts (map length ts) k ≡ starts ws k = ap (λ (ws : List ℕ). starts ws k) (sym e) in
    let w : length (get_or ts k []) ≡ width_at (shape (grid f)) l k = sym (width-cell (grid f) l k ∙ ap length (cell_row (grid f) l k)) in
    λ z. cond (ltb k (n z)) (record { start = i z + a z; len = w z }) nowhere

pub place_shape : (t : Table) (f : List ℕ) (r c : ℕ) → cell_place t f r c ≡ span_at (shape (grid f)) (t.line + (r - 1)) (c - 1)
place_shape t f r c = span_shape f (t.line + (r - 1)) (c - 1)

-- the bytes at the place of a cell are the cell
pub text-place : (f : List ℕ) (l c : ℕ) → text_at f (span_at (shape (grid f)) l c) ≡ cell_in (grid f) l c
text-place f l c = ap (text_at f) (sym (span_shape f l c)) ∙ span-text f l c ∙ sym (cell_row (grid f) l c)

abbrev pub line_of : Table → Order → ℕ
line_of t o = t.line + (o.row - 1)

-- ---- the answer, by the outcome and the widths: that of a row of spaces as wide as the file's
abbrev pub blank_row : Shape → ℕ → ℕ → List ℕ
blank_row sh l c = replicate (width_at sh l (c - 1)) 32

pub blank_width : (sh : Shape) (l c : ℕ) → length (blank_row sh l c) ≡ width_at sh l (c - 1)
blank_width sh l c = length-replicate {A = ℕ} (width_at sh l (c - 1)) 32

unfoldable pub decide_in : Table → ℕ → Shape → Order → Answer
decide_in t n sh o = first_that (tests_of t n (blank_row sh (line_of t o)) o)

abbrev pub decide : Outcome → Shape → Order → Answer
decide (accepted t n) sh o = decide_in t n sh o
decide (refused a b c) sh o = Refused a b c

own_width : (t : Table) (f : List ℕ) (o : Order) (c : ℕ) → length (own_text t f o c) ≡ length (blank_row (shape (grid f)) (line_of t o) c)
own_width t f o c =
    ap length (ap (text_at f) (place_shape t f o.row c) ∙ text-place f (line_of t o) (c - 1))
    ∙ sym (width-cell (grid f) (line_of t o) (c - 1)) ∙ sym (blank_width (shape (grid f)) (line_of t o) c)

-- 25: nothing but the width is looked at
any_longer_lem : (own blank : ℕ → List ℕ) → ((c : ℕ) → length (own c) ≡ length (blank c)) → (es : List Entry) → any_longer own es ≡ any_longer blank es
unfolding any_longer
any_longer_lem own blank h [] = refl
any_longer_lem own blank h (e ∷ es) =
    let a = h e.column in
    let b = any_longer_lem own blank h es in
    λ i. ltb (a i) (length e.text) || b i

too_long_lem : (t : Table) (f : List ℕ) (o : Order) → text_too_long t (own_text t f o) o ≡ text_too_long t (blank_row (shape (grid f)) (line_of t o)) o
too_long_lem t f o = any_longer_lem (own_text t f o) (blank_row (shape (grid f)) (line_of t o)) (own_width t f o) (number_entries t o)

pub answer_view : (f : List ℕ) (o : Order) → answer_of f o ≡ decide (outcome_of f) (shape (grid f)) o
unfolding answer_of decide_in
answer_view f o = go (outcome_of f)
  where
    go : (p : Outcome) → answer_by f o p ≡ decide p (shape (grid f)) o
    go (accepted t n) = rw (too_long_lem t f o)
    go (refused a b c) = refl

-- ---- the writes: entries put at their cells of line l
abbrev pub put_of : Shape → ℕ → Entry → Put
put_of sh l e = record { line = l; col = e.column - 1; text = at_right (width_at sh l (e.column - 1)) e.text }

unfoldable pub writes_to : Shape → ℕ → List Entry → List Put
writes_to sh l [] = []
writes_to sh l (e ∷ es) = put_of sh l e ∷ writes_to sh l es

pub all-writes : (P : Entry → Type 0) (Q : Put → Type 0) (sh : Shape) (l : ℕ) (es : List Entry) → ((e : Entry) → P e → Q (put_of sh l e)) → All P es → All Q (writes_to sh l es)
unfolding writes_to
all-writes P Q sh l [] h a = tt
all-writes P Q sh l (e ∷ es) h a = (h e a.0, all-writes P Q sh l es h a.1)

pub writes-on : (sh : Shape) (l : ℕ) (es : List Entry) → All (λ w. w.line ≡ l) (writes_to sh l es)
unfolding writes_to
writes-on sh l [] = tt
writes-on sh l (e ∷ es) = (refl, writes-on sh l es)

pub writes-all : (Q : Put → Type 0) (sh : Shape) (l : ℕ) (es : List Entry) → All Q (writes_to sh l es) → All (λ (e : Entry). Q (put_of sh l e)) es
unfolding writes_to
writes-all Q sh l [] a = tt
writes-all Q sh l (e ∷ es) a = (a.0, writes-all Q sh l es a.1)

abbrev pub if_applied : Answer → List Put → List Put
if_applied Applied ws = ws
if_applied (Refused a b c) ws = []

-- a part of a correction's entries, put where it is applied
abbrev pub Part : Type 0
Part = Table → Order → List Entry

abbrev pub writes : Part → Outcome → Shape → Order → List Put
writes es (accepted t n) sh o = writes_to sh (line_of t o) (es t o)
writes es (refused a b c) sh o = []

unfoldable pub plan_by : Part → Outcome → Shape → Order → List Put
plan_by es p sh o = if_applied (decide p sh o) (writes es p sh o)

abbrev pub plan : Outcome → Shape → Order → List Put
plan p sh o = plan_by entries_of p sh o

-- texts filled into cells are these writes
filled_puts : (es : List Entry) (t : Table) (f : List ℕ) (r : ℕ) (g : Grid) → shape g ≡ shape (grid f) → All (Fit (shape (grid f))) (writes_to (shape (grid f)) (t.line + (r - 1)) es)
    → filled (map (fill_at t f r) es) (ungrid g) ≡ ungrid (puts g (writes_to (shape (grid f)) (t.line + (r - 1)) es))
unfolding filled writes_to
filled_puts [] t f r g e a = refl
filled_puts (x ∷ es) t f r g e a =
    ap (filled (map (fill_at t f r) es))
    (ap (λ (p : Span). patch (ungrid g) p.start (at_right p.len x.text)) (place_shape t f r x.column ∙ span-inside sh l c a.0.inside)
    ∙ ap (λ (s : Shape). patch (ungrid g) (begin s l c) text) (sym e)
    ∙ sym (put-patch g l c text (subst (λ (s : Shape). Inside s l c) (sym e) a.0.inside) long))
    ∙ filled_puts es t f r (put g l c text) (shape_put g l c text long ∙ e) a.1
  where
    sh : Shape
    sh = shape (grid f)

    l : ℕ
    l = t.line + (r - 1)

    c : ℕ
    c = x.column - 1

    text : List ℕ
    text = at_right (width_at sh l c) x.text

    long : length text ≡ width_at (shape g) l c
    long = a.0.long ∙ ap (λ (s : Shape). width_at s l c) (sym e)

-- the bytes left, where the writes fit
pub corrected_view : (f : List ℕ) (o : Order) → All (Fit (shape (grid f))) (plan (outcome_of f) (shape (grid f)) o)
    → corrected_of f o ≡ ungrid (puts (grid f) (plan (outcome_of f) (shape (grid f)) o))
unfolding corrected_of plan_by filled
corrected_view f o a = ap (λ (x : Answer). left_by x new f) (answer_view f o) ∙ go (decide (outcome_of f) sh o) a
  where
    sh : Shape
    sh = shape (grid f)

    new : List ℕ
    new = filled (fills_of f o) f

    full : (p : Outcome) → All (Fit sh) (writes entries_of p sh o) → filled (fills_by f o p) f ≡ ungrid (puts (grid f) (writes entries_of p sh o))
    full (accepted t n) a =
        ap (filled (map (fill_at t f o.row) (entries_of t o))) (sym (ungrid-grid f))
        ∙ filled_puts (entries_of t o) t f o.row (grid f) refl a
    full (refused x y z) a = sym (ungrid-grid f)

    go : (x : Answer) → All (Fit sh) (if_applied x (writes entries_of (outcome_of f) sh o)) → left_by x new f ≡ ungrid (puts (grid f) (if_applied x (writes entries_of (outcome_of f) sh o)))
    go Applied a = full (outcome_of f) a
    go (Refused x y z) a = sym (ungrid-grid f)
