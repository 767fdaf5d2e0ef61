-- The writes of an applied correction fit an accepted file: each text is one of plain bytes, as long as its cell, and good by the kind of its column.
use Prim.Native.Nat.{ℕ, zero, suc, ◌+◌, ◌-◌, ◌%◌, ◌^◌, ◌≤◌, ◌<◌}
use mathlib.Core.Path.{◌≡◌, refl, sym, ap, ◌∙◌}
use mathlib.Core.Bool.{Bool, true, false, cond, not, ◌&&◌, ◌||◌, true≢false, false≢true, and-eq-true_iff}
use mathlib.Core.List.{List, [], ◌∷◌, map}
use native.Mathlib.Omega.{arith}
use lib.ListN.{length, get_or, length-map, get_or-map}
use lib.Dec.{eqb, leb, ltb}
use lib.IntN.{ℤ}
use borrow.Author.Tests.{leb-true, ltb-true, ltb-false, eqb-true, not-false}
use Rattle.line_bytes.specs.Bytes.{every}
use Rattle.line_bytes.specs.Names.{begins_ctd}
use Rattle.verdicts.specs.Verdicts.{Verdict, blank, wrong, out_of_range, good, is_good}
use Rattle.line_bytes.specs.Spaces.{trim_front, trim_end, trim}
use Rattle.verdicts.specs.Kinds.{kind_of}
use Rattle.verdicts.specs.Judge.{judge, in_set}
use Rattle.line_bytes.proofs.EveryLaws.{every-cons}
use Rattle.line_bytes.specs.Inner.Lines.{is_plain}
use Rattle.format.specs.Faults.{clean, unless, kind_fault, first_of}
use Rattle.format.specs.Columns.{kinds_of}
use Rattle.format.specs.Rows.{cell_rules, row_rules}
use Rattle.format.specs.Places.{Table, accepted, outcome_of}
use Rattle.format.specs.Inner.Faults.{cell_fault, row_fault}
use Rattle.format.specs.Profiles.{grid}
use Rattle.format.specs.Answers.{is_there, kind_at}
use Rattle.format.specs.Located.{name_at, is_measured, flag_column, has_flag}
use Rattle.format.proofs.FaultLaws.{then-clean, breaks-clean}
use Rattle.format.proofs.GridLaws.{cells-many}
use Rattle.format.proofs.InsideLaws.{Inside}
use Rattle.laws.proofs.FlagColumnLaws.{FlagOf, flag_of}
use Rattle.laws.proofs.AskedLaws.{there-inside}
use Rattle.laws.proofs.JoinLaws.{Free, All}
use Rattle.laws.proofs.WriteLaws.{RowHolds, row-holds, Fits}
use Rattle.numbers.specs.Texts.{size, number_text, flag_text}
use Rattle.numbers.proofs.DigitLaws.{every_from}
use Rattle.numbers.proofs.TextLaws.{at_right-length, is_cell_byte, number_plain, flag_plain, Writable, number_judged}
use Rattle.orders.specs.declared.Answer.TheVariants.{Applied}
use Rattle.orders.specs.declared.Order.{Order}
use Rattle.orders.specs.Corrections.{Entry, entry, entries_of, number_entries, not_correctable, bad_number, bad_flag, any_longer, tests_of}
use Rattle.orders.specs.Demand3.{NoneHolds}
use Rattle.orders.proofs.FlagLaws.{flag_judged}
use Rattle.orders.proofs.GeometryLaws.{Shape, shape, cell_row, width_at, width-cell, inside_of}
use Rattle.orders.proofs.PutLaws.{Put, Fit, in_row}
use Rattle.orders.proofs.TestLaws.{none-holds, passed}
use Rattle.orders.proofs.PlanLaws.{line_of, blank_row, blank_width, decide_in, put_of}
use Rattle.orders.proofs.ColumnLaws.{Measured}

-- ---- what an applied correction asks for
-- of a number, to be written into column c
pub record NumberAsked (sh : Shape) (l c : ℕ) (m : ℤ) (d : ℕ) : Type 0 where
  pub number : Writable m d
  pub fits : length (number_text m d) ≤ width_at sh l (c - 1)

pub record Asked (t : Table) (n : ℕ) (sh : Shape) (o : Order) : Type 0 where
  pub row : 1 ≤ o.row
  pub rows : o.row ≤ n
  pub col : 1 ≤ o.column
  pub cols : o.column ≤ length t.names
  pub measured : Measured t o.column
  pub value : NumberAsked sh (line_of t o) o.column o.millionths o.decimals
  pub flag : has_flag t o.column ≡ true → in_set (begins_ctd (name_at t o.column)) o.flag ≡ true

-- 22
column-good : (t : Table) (n : ℕ) (o : Order) → Inside o.row n o.column (length t.names) → not_correctable t o ≡ false → Measured t o.column
column-good t n o w e = record {
  in-line = omega (arith, w.column, w.columns);
  kind = eqb-true (kind_at t o.column) 0 (not-false (is_measured t o.column) e);
}

-- 23
none_of : (a b c : Bool) → (a || (not b || not c)) ≡ false → (a ≡ false) × (b ≡ true) × (c ≡ true)
none_of true b c e = absurd (true≢false e)
none_of false false c e = absurd (true≢false e)
none_of false true false e = absurd (true≢false e)
none_of false true true e = (refl, refl, refl)

pub number-good : (o : Order) → bad_number o ≡ false → Writable o.millionths o.decimals
unfolding bad_number
number-good o e =
    let m : ℤ = o.millionths in
    let d : ℕ = o.decimals in
    let w = none_of (ltb 6 d) (ltb (size m) (10 ^ 15)) (eqb (size m % 10 ^ (6 - d)) 0) e in
    record { few = ltb-false 6 d w.0; small = ltb-true (size m) (10 ^ 15) w.1; exact = eqb-true (size m % 10 ^ (6 - d)) 0 w.2 }

-- 24
flag-good : (t : Table) (o : Order) → bad_flag t o ≡ false → has_flag t o.column ≡ true → in_set (begins_ctd (name_at t o.column)) o.flag ≡ true
unfolding bad_flag
flag-good t o e h = rw h at (not-false (cond (has_flag t o.column) (in_set (begins_ctd (name_at t o.column)) o.flag) (eqb o.flag 0)) e)

-- 25
neither : (a b : Bool) → (a || b) ≡ false → (a ≡ false) × (b ≡ false)
neither true b e = absurd (true≢false e)
neither false b e = (refl, e)

text-fits : (own : ℕ → List ℕ) (es : List Entry) → any_longer own es ≡ false → All (λ (e : Entry). length e.text ≤ length (own e.column)) es
unfolding any_longer
text-fits own [] e = tt
text-fits own (x ∷ es) e =
    let w = neither (ltb (length (own x.column)) (length x.text)) (any_longer own es) e in
    (ltb-false (length (own x.column)) (length x.text) w.0, text-fits own es w.1)

asked : (t : Table) (n : ℕ) (sh : Shape) (o : Order) → NoneHolds (tests_of t n (blank_row sh (line_of t o)) o) → Asked t n sh o
asked t n sh o w =
    let ts = tests_of t n (blank_row sh (line_of t o)) o in
    let h = there-inside t n o.row o.column (not-false (is_there t n o.row o.column) (passed 21 ts w)) in
    let x = text-fits (blank_row sh (line_of t o)) (number_entries t o) (passed 25 ts w) in
    record {
      row = h.row;
      rows = h.rows;
      col = h.column;
      cols = h.columns;
      measured = column-good t n o h (passed 22 ts w);
      value = record { number = number-good o (passed 23 ts w); fits = omega (arith, x.0, blank_width sh (line_of t o) o.column) };
      flag = flag-good t o (passed 24 ts w);
    }

pub applied-asked : (t : Table) (n : ℕ) (sh : Shape) (o : Order) → decide_in t n sh o ≡ Applied → Asked t n sh o
unfolding decide_in
applied-asked t n sh o e = asked t n sh o (none-holds (tests_of t n (blank_row sh (line_of t o)) o) e)

-- ---- the cells of a row that keeps its rules are good, and a flag cell is not empty
fault-kept : (v : Verdict) (c : ℕ) → kind_fault v c ≡ clean → is_good v ≡ true
fault-kept blank c e = absurd (breaks-clean 17 c e)
fault-kept wrong c e = absurd (breaks-clean 16 c e)
fault-kept out_of_range c e = absurd (breaks-clean 18 c e)
fault-kept (good m v d) c e = refl

cell-good : (ks : List ℕ) (ts : List (List ℕ)) (c i : ℕ) → cell_fault c ks ts ≡ clean → length ts ≡ length ks → i < length ks → is_good (judge (kind_of (get_or ks i 0)) (get_or ts i [])) ≡ true
unfolding cell_fault cell_rules first_of
cell-good [] ts c i e l h = absurd (omega arith)
cell-good (k ∷ ks) [] c i e l h = absurd (omega arith)
cell-good (k ∷ ks) (t ∷ ts) c zero e l h = fault-kept (judge (kind_of k) t) c (then-clean (kind_fault (judge (kind_of k) t) c) (cell_fault (c + length t + 1) ks ts) e).0
cell-good (k ∷ ks) (t ∷ ts) c (suc i) e l h =
    cell-good ks ts (c + length t + 1) i (then-clean (kind_fault (judge (kind_of k) t) c) (cell_fault (c + length t + 1) ks ts) e).1 (omega arith) (omega arith)

row-good : (ks : List ℕ) (ts : List (List ℕ)) (i : ℕ) → row_fault ks ts ≡ clean → i < length ks → is_good (judge (kind_of (get_or ks i 0)) (get_or ts i [])) ≡ true
unfolding row_fault cell_fault row_rules first_of
row-good ks ts i e h =
    let w = then-clean (unless (eqb (length ts) (length ks)) 15 1) (cell_fault 1 ks ts) e in
    cell-good ks ts 1 i w.1 (cells-many ks ts e) h

flag-some : (ctd : Bool) (x : List ℕ) → is_good (judge (kind_of (cond ctd 5 4)) x) ≡ true → 1 ≤ length x
unfolding judge kind_of trim trim_front trim_end
flag-some true [] e = absurd (false≢true e)
flag-some false [] e = absurd (false≢true e)
flag-some ctd (y ∷ x) e = omega arith

-- ---- a put that may stand in the file: in a column of the line, as long as its cell, plain, and good by the column's kind
pub record Good (t : Table) (sh : Shape) (w : Put) : Type 0 where
  pub in-line : w.col < length t.names
  pub long : length w.text ≡ width_at sh w.line w.col
  pub plain : every is_cell_byte w.text ≡ true
  pub kind : is_good (judge (kind_of (get_or (kinds_of t.names) w.col 0)) w.text) ≡ true

flag_most : (ctd : Bool) (v : ℕ) → in_set ctd v ≡ true → v ≤ 9
flag_most ctd v e =
    let w = (and-eq-true_iff (leb 1 v && leb v 9) (not (ctd && eqb v 8))).0 e in
    leb-true v 9 ((and-eq-true_iff (leb 1 v) (leb v 9)).0 w.0).1

-- a number in a measured column
number_put : (t : Table) (sh : Shape) (l j : ℕ) (m : ℤ) (d : ℕ) → j - 1 < length t.names → kind_at t j ≡ 0 → NumberAsked sh l j m d → Good t sh (put_of sh l (entry j (number_text m d)))
number_put t sh l j m d i k a = record {
  in-line = i;
  long = at_right-length (width_at sh l (j - 1)) (number_text m d) a.fits;
  plain = number_plain m d (width_at sh l (j - 1));
  kind = rw (k, number_judged m d (width_at sh l (j - 1)) a.number a.fits);
}

pub goods : (f : List ℕ) (t : Table) (n : ℕ) (o : Order) → outcome_of f ≡ accepted t n → Asked t n (shape (grid f)) o
    → All (λ (x : Entry). Good t (shape (grid f)) (put_of (shape (grid f)) (line_of t o) x)) (entries_of t o)
goods f t n o e a = (
  number_put t sh l o.column o.millionths o.decimals a.measured.in-line a.measured.kind a.value,
  flags (has_flag t o.column) refl,
)
  where
    sh : Shape
    sh = shape (grid f)

    l : ℕ
    l = line_of t o

    holds : RowHolds (kinds_of t.names) (get_or (grid f) l [])
    holds = row-holds f t n (o.row - 1) e (omega (arith, a.row, a.rows))

    ctd : Bool
    ctd = begins_ctd (name_at t o.column)

    flag : (j : ℕ) → FlagOf t o.column j → in_set ctd o.flag ≡ true → Good t sh (put_of sh l (entry j (flag_text o.flag)))
    flag j w s =
        let i : j - 1 < length t.names = omega (arith, w.some, w.most) in
        let k : j - 1 < length (kinds_of t.names) = rw length-map i in
        let old : is_good (judge (kind_of (cond ctd 5 4)) (get_or (get_or (grid f) l []) (j - 1) [])) ≡ true =
        rw w.kind at (row-good (kinds_of t.names) (get_or (grid f) l []) (j - 1) holds.cells k) in
        let some : 1 ≤ width_at sh l (j - 1) = rw (width-cell (grid f) l (j - 1), cell_row (grid f) l (j - 1)) (flag-some ctd (get_or (get_or (grid f) l []) (j - 1) []) old) in
        record {
          in-line = i;
          long = at_right-length (width_at sh l (j - 1)) (flag_text o.flag) some;
          plain = flag_plain o.flag (width_at sh l (j - 1)) (flag_most ctd o.flag s);
          kind = rw (w.kind, flag_judged ctd o.flag (width_at sh l (j - 1)) s some);
        }

    flags : (b : Bool) → has_flag t o.column ≡ b → All (λ (x : Entry). Good t sh (put_of sh l x)) (cond b (entry (flag_column t o.column) (flag_text o.flag) ∷ []) [])
    flags true h = (flag (flag_column t o.column) (flag_of t o.column a.measured.in-line h) (a.flag h), tt)
    flags false h = tt

-- ---- such puts fit, by the shape and by the row
plain-free : (c : ℕ) → is_cell_byte c ≡ false → (xs : List ℕ) → every is_cell_byte xs ≡ true → Free c xs
plain-free c n [] e = tt
plain-free c n (x ∷ xs) e = (go (eqb x c) refl, plain-free c n xs (every-cons is_cell_byte x xs e).1)
  where
    go : (b : Bool) → eqb x c ≡ b → b ≡ false
    go true q = absurd (true≢false (sym (every-cons is_cell_byte x xs e).0 ∙ ap is_cell_byte (eqb-true x c q) ∙ n))
    go false q = refl

module _ (f : List ℕ) (t : Table) (l : ℕ) (many : length (get_or (grid f) l []) ≡ length t.names) where
  pub put_fit : (w : Put) → w.line ≡ l → Good t (shape (grid f)) w → Fit (shape (grid f)) w
  put_fit w e g = record {
    inside = rw e (inside_of (grid f) l w.col (omega (arith, many, g.in-line)));
    long = g.long;
    clean = (plain-free 44 refl w.text g.plain, plain-free 10 refl w.text g.plain);
  }

  pub put-fits : (w : Put) → w.line ≡ l → Good t (shape (grid f)) w → Fits (kinds_of t.names) (map length (get_or (grid f) l [])) (in_row w)
  put-fits w e g = record {
    inside = rw length-map (omega (arith, many, g.in-line));
    long =
        g.long ∙ ap (λ (k : ℕ). width_at (shape (grid f)) k w.col) e
        ∙ width-cell (grid f) l w.col ∙ ap length (cell_row (grid f) l w.col) ∙ sym (get_or-map length (get_or (grid f) l []) w.col []);
    plain = every_from is_plain is_cell_byte (λ x h. ((and-eq-true_iff (is_plain x) (not (eqb x 44))).0 h).0) w.text g.plain;
    comma = plain-free 44 refl w.text g.plain;
    kind = g.kind;
  }
