-- The key law, for any file and any correction, refused or not: the outcome stays, the widths of all cells stay, and the grid is changed by the plan alone.
use Prim.Native.Nat.{ℕ, ◌+◌, ◌-◌, ◌<◌}
use mathlib.Core.Path.{◌≡◌, refl, sym, ap, ◌∙◌, subst}
use mathlib.Core.Bool.{Bool, true, false, cond}
use mathlib.Core.List.{List, [], ◌∷◌, map}
use native.Mathlib.Omega.{arith}
use lib.ListN.{length, get_or, length-map, length-drop}
use Rattle.line_bytes.specs.Cells.{pieces}
use Rattle.format.specs.Grid.{nowhere}
use Rattle.format.specs.Columns.{kind_of_name, kinds_of}
use Rattle.format.specs.Places.{Table, Outcome, accepted, refused, outcome_of}
use Rattle.laws.specs.Inner.Writes.{ungrid}
use Rattle.format.specs.Profiles.{grid}
use Rattle.format.specs.Faults.{clean, first_of}
use Rattle.format.specs.Rows.{bound_rules}
use Rattle.format.specs.Inner.Faults.{bound_fault}
use Rattle.format.specs.Answers.{cell_place}
use Rattle.format.specs.Located.{flag_column, has_flag, measurement_cells, cells_by, cells_of}
use Rattle.format.proofs.AcceptLaws.{rows-kept}
use Rattle.format.proofs.GridLaws.{cells-many}
use Rattle.laws.proofs.JoinLaws.{All}
use Rattle.laws.proofs.UngridLaws.{clean-grid, ungrid-grid, grid-ungrid}
use Rattle.laws.proofs.WriteLaws.{row-holds, Fits, file-written}
use Rattle.line_bytes.specs.declared.Span.{Span}
use Rattle.orders.specs.declared.Answer.{Answer}
use Rattle.orders.specs.declared.Answer.TheVariants.{Applied, Refused}
use Rattle.orders.specs.declared.Order.{Order}
use Rattle.orders.specs.Corrections.{Entry, entries_of, answer_of, corrected_of}
use Rattle.orders.proofs.GeometryLaws.{Grid, Shape, shape, line_long, ungrid-long}
use Rattle.orders.proofs.PutLaws.{Put, puts, Fit, PutsDone, puts_done, in_row, puts-row}
use Rattle.orders.proofs.PlanLaws.{span_at, place_shape, line_of, decide_in, decide, answer_view, put_of, all-writes, writes-on, writes, if_applied, Part, plan_by, plan, corrected_view}
use Rattle.orders.proofs.FitLaws.{Asked, applied-asked, Good, goods, put_fit, put-fits}

all_fit : {P Q : Put → Type 0} (ws : List Put) (l : ℕ) → ((w : Put) → w.line ≡ l → P w → Q w) → All (λ w. w.line ≡ l) ws → All P ws → All Q ws
all_fit [] l h a b = tt
all_fit (w ∷ ws) l h a b = (h w a.0 b.0, all_fit ws l h a.1 b.1)

all-rows : (P : Put → Type 0) (ks widths : List ℕ) (ws : List Put) (l : ℕ) → ((w : Put) → w.line ≡ l → P w → Fits ks widths (in_row w)) → All (λ w. w.line ≡ l) ws → All P ws → All (Fits ks widths) (map in_row ws)
all-rows P ks widths [] l h a b = tt
all-rows P ks widths (w ∷ ws) l h a b = (h w a.0 b.0, all-rows P ks widths ws l h a.1 b.1)

-- what binds the cells of a row together holds of the corrected row
bound-kept : (ns ts : List (List ℕ)) → bound_fault ns ts ≡ clean
unfolding bound_fault bound_rules first_of
bound-kept ns ts = refl

-- ---- an accepted file, an applied correction
module _ (f : List ℕ) (t : Table) (n : ℕ) (e : outcome_of f ≡ accepted t n) (o : Order) (a : Asked t n (shape (grid f)) o) where
  abbrev ws : List Put
  ws = writes entries_of (accepted t n) (shape (grid f)) o

  good : All (Good t (shape (grid f))) ws
  good = all-writes (λ (x : Entry). Good t (shape (grid f)) (put_of (shape (grid f)) (line_of t o) x)) (Good t (shape (grid f))) (shape (grid f)) (line_of t o) (entries_of t o) (λ x g. g) (goods f t n o e a)

  below : o.row - 1 < n
  below = omega (arith, a.row, a.rows)

  many : length (get_or (grid f) (line_of t o) []) ≡ length t.names
  many = cells-many (kinds_of t.names) (get_or (grid f) (line_of t o) []) (row-holds f t n (o.row - 1) e below).cells ∙ length-map t.names kind_of_name

  lines : All (λ w. w.line ≡ line_of t o) ws
  lines = writes-on (shape (grid f)) (line_of t o) (entries_of t o)

  applied_fit : All (Fit (shape (grid f))) ws
  applied_fit = all_fit ws (line_of t o) (put_fit f t (line_of t o) many) lines good

  in-grid : line_of t o < length (grid f)
  in-grid = omega (arith, (rows-kept f t n e (o.row - 1) below).line, length-drop t.line (pieces 10 f), length-map (pieces 10 f) (pieces 44))

  applied-kept : outcome_of (ungrid (puts (grid f) ws)) ≡ accepted t n
  applied-kept =
      ap (λ (g : Grid). outcome_of (ungrid g)) (puts-row ws (grid f) (line_of t o) in-grid lines)
      ∙ file-written f t n (o.row - 1) e below (map in_row ws)
      (all-rows (Good t (shape (grid f))) (kinds_of t.names) (map length (get_or (grid f) (line_of t o) [])) ws (line_of t o) (put-fits f t (line_of t o) many) lines good)
      (o.column - 1) (rw length-map a.measured.in-line) a.measured.kind (bound-kept t.names _)

-- ---- any file, any correction
record Planned (f : List ℕ) (p : Outcome) (o : Order) : Type 0 where
  fit : All (Fit (shape (grid f))) (plan p (shape (grid f)) o)
  end : outcome_of (ungrid (puts (grid f) (plan p (shape (grid f)) o))) ≡ p

planned : (f : List ℕ) (p : Outcome) (o : Order) → outcome_of f ≡ p → Planned f p o
unfolding plan_by
planned f (refused x y z) o e = record { fit = tt; end = ap outcome_of (ungrid-grid f) ∙ e }
planned f (accepted t n) o e = go (decide_in t n (shape (grid f)) o) refl
  where
    ws : List Put
    ws = writes entries_of (accepted t n) (shape (grid f)) o

    go : (x : Answer) → decide_in t n (shape (grid f)) o ≡ x → Planned f (accepted t n) o
    go (Refused x y z) q = record {
      fit = subst (λ (a : Answer). All (Fit (shape (grid f))) (if_applied a ws)) (sym q) tt;
      end = ap (λ (a : Answer). outcome_of (ungrid (puts (grid f) (if_applied a ws)))) q ∙ ap outcome_of (ungrid-grid f) ∙ e;
    }
    go Applied q =
        let a = applied-asked t n (shape (grid f)) o q in
        record {
          fit = subst (λ (a : Answer). All (Fit (shape (grid f))) (if_applied a ws)) (sym q) (applied_fit f t n e o a);
          end = ap (λ (a : Answer). outcome_of (ungrid (puts (grid f) (if_applied a ws)))) q ∙ applied-kept f t n e o a;
        }

-- a part of what is put, and all of it
abbrev pub part_of : Part → List ℕ → Order → List Put
part_of es f o = plan_by es (outcome_of f) (shape (grid f)) o

abbrev pub plan_of : List ℕ → Order → List Put
plan_of f o = part_of entries_of f o

pub record Keeps (f : List ℕ) (o : Order) : Type 0 where
  pub fit : All (Fit (shape (grid f))) (plan_of f o)
  pub end : outcome_of (corrected_of f o) ≡ outcome_of f
  pub cells : grid (corrected_of f o) ≡ puts (grid f) (plan_of f o)
  pub wide : shape (grid (corrected_of f o)) ≡ shape (grid f)

pub done : (f : List ℕ) (o : Order) → All (Fit (shape (grid f))) (plan_of f o) → PutsDone (grid f) (shape (grid f)) (plan_of f o)
done f o a = puts_done (plan_of f o) (grid f) (shape (grid f)) (clean-grid f) refl a

pub keeps : (f : List ℕ) (o : Order) → Keeps f o
keeps f o = go (planned f (outcome_of f) o refl)
  where
    go : Planned f (outcome_of f) o → Keeps f o
    go p =
        let w = done f o p.fit in
        let v = corrected_view f o p.fit in
        let c : grid (corrected_of f o) ≡ puts (grid f) (plan_of f o) = ap grid v ∙ grid-ungrid (puts (grid f) (plan_of f o)) w.clean in
        record { fit = p.fit; end = ap outcome_of v ∙ p.end; cells = c; wide = ap shape c ∙ w.wide }

-- ---- so what comes from the outcome and the widths stays: every answer, every plan, where cells stand, the length
pub answer-kept : (f : List ℕ) (o p : Order) → answer_of (corrected_of f o) p ≡ answer_of f p
answer-kept f o p =
    answer_view (corrected_of f o) p
    ∙ ap (λ (x : Outcome). decide x (shape (grid (corrected_of f o))) p) (keeps f o).end
    ∙ ap (λ (sh : Shape). decide (outcome_of f) sh p) (keeps f o).wide
    ∙ sym (answer_view f p)

pub part-kept : (es : Part) (f : List ℕ) (o p : Order) → part_of es (corrected_of f o) p ≡ part_of es f p
part-kept es f o p = ap (λ (x : Outcome). plan_by es x (shape (grid (corrected_of f o))) p) (keeps f o).end ∙ ap (λ (sh : Shape). plan_by es (outcome_of f) sh p) (keeps f o).wide

-- the places of the cells in a line, by the widths
abbrev places_by : Outcome → Shape → ℕ → ℕ → List Span
places_by (accepted t n) sh r c = span_at sh (t.line + (r - 1)) (c - 1) ∷ cond (has_flag t c) (span_at sh (t.line + (r - 1)) (flag_column t c - 1) ∷ []) []
places_by (refused x y z) sh r c = []

places_view : (f : List ℕ) (r c : ℕ) → cells_of f r c ≡ places_by (outcome_of f) (shape (grid f)) r c
unfolding measurement_cells
places_view f r c = go (outcome_of f)
  where
    go : (p : Outcome) → cells_by f r c p ≡ places_by p (shape (grid f)) r c
    go (accepted t n) = by (has_flag t c)
      where
        by : (b : Bool) → cell_place t f r c ∷ cond b (cond b (cell_place t f r (flag_column t c)) nowhere ∷ []) []
            ≡ span_at (shape (grid f)) (t.line + (r - 1)) (c - 1) ∷ cond b (span_at (shape (grid f)) (t.line + (r - 1)) (flag_column t c - 1) ∷ []) []
        by true = rw (place_shape t f r c, place_shape t f r (flag_column t c))
        by false = rw (place_shape t f r c)
    go (refused x y z) = refl

pub places-kept : (f : List ℕ) (o : Order) (r c : ℕ) → cells_of (corrected_of f o) r c ≡ cells_of f r c
places-kept f o r c =
    places_view (corrected_of f o) r c
    ∙ ap (λ (x : Outcome). places_by x (shape (grid (corrected_of f o))) r c) (keeps f o).end
    ∙ ap (λ (sh : Shape). places_by (outcome_of f) sh r c) (keeps f o).wide
    ∙ sym (places_view f r c)

pub length-kept : (f : List ℕ) (o : Order) → length (corrected_of f o) ≡ length f
length-kept f o =
    sym (ap length (ungrid-grid (corrected_of f o)))
    ∙ ungrid-long (grid (corrected_of f o))
    ∙ ap (λ (sh : Shape). line_long (map line_long sh)) (keeps f o).wide
    ∙ sym (ungrid-long (grid f))
    ∙ ap length (ungrid-grid f)
