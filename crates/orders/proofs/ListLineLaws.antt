-- A list line as it is read: its fields' records, the whole line, and the column name's place in it.
use Prim.Native.Nat.{ℕ, ◌+◌, ◌-◌, ◌≤◌, ◌<◌}
use mathlib.Core.Path.{◌≡◌, refl, sym, ap, ◌∙◌}
use mathlib.Core.List.{List, [], ◌∷◌, map}
use mathlib.Core.Bool.{Bool, true, false, cond, not, ◌&&◌}
use native.Mathlib.Omega.{arith}
use lib.ListN.{length, get_or, take, drop}
use lib.Dec.{eqb}
use lib.IntN.{ℤ}
use mir.Syntax.{w64}
use mir.Val.{to_z, of_z}
use Rattle.verdicts.specs.declared.Judged.{Judged}
use Rattle.line_bytes.specs.Cells.{first_piece, later_pieces, pieces, cell_end}
use Rattle.line_bytes.specs.Spaces.{trim_front, trim_end, trim}
use Rattle.line_bytes.specs.Names.{is_name}
use Rattle.verdicts.specs.Verdicts.{Verdict, blank, wrong, out_of_range, good, is_good, decimals_of, signed, millionths_of}
use Rattle.verdicts.specs.Kinds.{kind_of}
use Rattle.verdicts.specs.Judge.{judged_of, judged_at, whole_at}
use Rattle.line_bytes.proofs.CellLaws.{is_end, cell_end_from, cell_end-within, cell_in_lem, cell-end}
use Rattle.line_bytes.proofs.SpaceLaws.{slice-take}
use Rattle.verdicts.proofs.JudgeLaws.{judged-stop, judged-end, whole-stop, whole-end}
use Rattle.verdicts.proofs.SignLaws.{signed_small}
use Rattle.text.proofs.ReadingLaws.{number-back}
use Rattle.format.specs.Inner.Lines.{Ends}
use Rattle.format.proofs.GridWalkLaws.{cell-slice}
use Rattle.format.proofs.GridLaws.{total, total-pieces}
use Rattle.format.proofs.VerdictLaws.{size_anywhere}
use Rattle.orders.specs.declared.ListLine.{ListLine}
use Rattle.orders.specs.ListLines.{malformed, whole, is_row, decimal_in, by_fields, is_one_line, line_read}
use Rattle.orders.proofs.FieldLaws.{after, field, fields, tabs-stop, after-ends, after_fields, all_good, listed, line_of, fields-line, good_at, line_with, four_fields}

-- ---- a field's verdict as its record gives it
record-good : (n : ℕ) (v : Verdict) → eqb (judged_of n v).number 0 ≡ is_good v
record-good n blank = refl
record-good n wrong = refl
record-good n out_of_range = refl
record-good n (good m v d) = refl

record_decimals : (n : ℕ) (v : Verdict) → (judged_of n v).decimals ≡ decimals_of v
record_decimals n blank = refl
record_decimals n wrong = refl
record_decimals n out_of_range = refl
record_decimals n (good m v d) = refl

record_millionths : (n : ℕ) (v : Verdict) → signed (judged_of n v).minus (judged_of n v).size ≡ millionths_of v
unfolding signed
record_millionths n blank = refl
record_millionths n wrong = refl
record_millionths n out_of_range = refl
record_millionths n (good m v d) = refl

-- the code's number has it again
pub millionths-back : (m : ℤ) (minus : Bool) (size : ℕ) → m ≡ signed minus size → to_z w64 (of_z w64 m) ≡ signed minus size
millionths-back m minus size e = number-back m (rw e (signed_small minus size)) ∙ e

tests_same : {p q u v w p' q' u' v' w' : Bool} → p ≡ p' → q ≡ q' → u ≡ u' → v ≡ v' → w ≡ w' → (p && q && (u && v) && w) ≡ (p' && q' && (u' && v') && w')
tests_same a b c d e = rw (a, b, c, d, e)

listed_same : {r n d v r' n' d' v' : ℕ} {m m' : ℤ} (a : ℕ) → r ≡ r' → n ≡ n' → m ≡ m' → d ≡ d' → v ≡ v' → listed r a n m d v ≡ listed r' a n' m' d' v'
listed_same a e f g h i = rw (e, f, g, h, i)

-- a row's first byte is the line's
row_first : (s : List ℕ) → 0 < length s → (is_good (whole 7 (field s 0)) && not (eqb (get_or s 0 0) 48)) ≡ is_row (field s 0)
unfolding trim trim_end trim_front
row_first s l = go (is_end 9 (get_or s 0 0)) refl
  where
    go : (z : Bool) → is_end 9 (get_or s 0 0) ≡ z → (is_good (whole 7 (field s 0)) && not (eqb (get_or s 0 0) 48)) ≡ is_row (field s 0)
    go true h = rw (cell-end s 0 l 9 h)
    go false h = ap (λ (x : ℕ). is_good (whole 7 (field s 0)) && not (eqb x 48)) (sym (ap (λ (x : List ℕ). get_or x 0 0) (cell_in_lem s 0 l 9 h)))

-- ---- the code's values: the row and the name
module _ {s : List ℕ} {e : ℕ} (t : Ends s 0 e) {row name : Judged} {a : ℕ}
    (w1 : row ≡ whole_at 7 9 s 0 e) (h1 : a ≡ after row.at e) (w2 : name ≡ judged_at 11 9 s a e) where
  row_is : row ≡ judged_of (cell_end 9 s 0) (whole 7 (field s 0))
  row_is = w1 ∙ whole-stop (tabs-stop t) 7 (omega arith)

  name_at_lem : a ≡ after (cell_end 9 s 0) e
  name_at_lem = h1 ∙ ap (λ (x : ℕ). after x e) (ap (λ (x : Judged). x.at) w1 ∙ whole-end (tabs-stop t) 7 (omega arith))

  name-ends : Ends s a e
  name-ends = rw name_at_lem (after-ends t)

  name-next : name.at ≡ cell_end 9 s a
  name-next = ap (λ (x : Judged). x.at) w2 ∙ judged-end (tabs-stop name-ends) 11

  pub name_from : a ≤ name.at
  name_from = rw name-next (cell_end_from 9 s a)

  pub name-to : name.at ≤ length s
  name-to = rw name-next (omega (arith, cell_end-within (tabs-stop name-ends), t.room))

  name-text : take (name.at - a) (drop a s) ≡ field s a
  name-text = rw name-next (sym (slice-take a (cell_end 9 s a) s) ∙ cell-slice 9 s a)

  name-length : name.at - a ≡ length (field s a)
  unfolding cell_end
  name-length = omega (arith, name-next)

  -- the decimal and the flag
  module _ {value flag : Judged} {b c : ℕ} (h2 : b ≡ after name.at e) (w3 : value ≡ judged_at 0 9 s b e)
      (h3 : c ≡ after value.at e) (w4 : flag ≡ whole_at 1 9 s c e) where
    value_at_lem : b ≡ after (cell_end 9 s a) e
    value_at_lem = h2 ∙ ap (λ (x : ℕ). after x e) name-next

    value-ends : Ends s b e
    value-ends = rw value_at_lem (after-ends name-ends)

    value_is : value ≡ judged_of (cell_end 9 s b) (decimal_in (field s b))
    unfolding kind_of
    value_is = w3 ∙ judged-stop (tabs-stop value-ends) 0

    flag_at : c ≡ after (cell_end 9 s b) e
    flag_at = h3 ∙ ap (λ (x : ℕ). after x e) (ap (λ (x : Judged). x.at) w3 ∙ judged-end (tabs-stop value-ends) 0)

    flag-ends : Ends s c e
    flag-ends = rw flag_at (after-ends value-ends)

    flag_is_lem : flag ≡ judged_of (cell_end 9 s c) (whole 1 (field s c))
    flag_is_lem = w4 ∙ whole-stop (tabs-stop flag-ends) 1 (omega arith)

    flag-next : flag.at ≡ cell_end 9 s c
    flag-next = ap (λ (x : Judged). x.at) w4 ∙ whole-end (tabs-stop flag-ends) 1 (omega arith)

    parts : cond (good_at s a b c && eqb (cell_end 9 s c) e) (line_with s a b c) malformed ≡ by_fields (fields s 0)
    parts = four_fields {a = a} {b = b} flag-ends (rw name_at_lem (after_fields t)) (rw value_at_lem (after_fields name-ends)) (rw flag_at (after_fields value-ends))

    abbrev passes : Bool → Bool
    passes q = eqb row.number 0 && not (eqb (get_or s 0 0) 48) && q && (eqb value.number 0 && eqb flag.number 0) && eqb flag.at e

    passes-all : (q : Bool) → q ≡ is_name (take (name.at - a) (drop a s)) → passes q ≡ (good_at s a b c && eqb (cell_end 9 s c) e)
    unfolding all_good
    passes-all q h =
        tests_same
        (ap (λ (x : Bool). x && not (eqb (get_or s 0 0) 48)) (ap (λ (x : Judged). eqb x.number 0) row_is ∙ record-good (cell_end 9 s 0) (whole 7 (field s 0)))
        ∙ row_first s (omega (arith, t.room)))
        (h ∙ ap is_name name-text)
        (ap (λ (x : Judged). eqb x.number 0) value_is ∙ record-good (cell_end 9 s b) (decimal_in (field s b)))
        (ap (λ (x : Judged). eqb x.number 0) flag_is_lem ∙ record-good (cell_end 9 s c) (whole 1 (field s c)))
        (ap (λ (x : ℕ). eqb x e) flag-next)

    pub fields_read_lem : (q z : Bool) (m : ℤ) → q ≡ is_name (take (name.at - a) (drop a s)) → m ≡ signed value.minus value.size → passes q ≡ z
        → cond z (listed row.size a (name.at - a) m value.decimals flag.size) malformed ≡ by_fields (fields s 0)
    fields_read_lem q z m h f g =
        let same : listed row.size a (name.at - a) m value.decimals flag.size ≡ line_with s a b c =
        listed_same a
        (ap (λ (x : Judged). x.size) row_is ∙ size_anywhere (cell_end 9 s 0) (whole 7 (field s 0)))
        name-length
        (f ∙ ap (λ (x : Judged). signed x.minus x.size) value_is ∙ record_millionths (cell_end 9 s b) (decimal_in (field s b)))
        (ap (λ (x : Judged). x.decimals) value_is ∙ record_decimals (cell_end 9 s b) (decimal_in (field s b)))
        (ap (λ (x : Judged). x.size) flag_is_lem ∙ size_anywhere (cell_end 9 s c) (whole 1 (field s c))) in
        rw (same, ← g, passes-all q h) parts

-- ---- the whole line
module _ (s : List ℕ) {x : ListLine} where
  pub line_refused : x ≡ malformed → is_one_line s ≡ false → x ≡ line_read s
  unfolding line_read
  line_refused e h = rw h e

  pub line-by_fields : x ≡ by_fields (pieces 9 (first_piece 10 s)) → is_one_line s ≡ true → x ≡ line_read s
  unfolding line_read
  line-by_fields e h = rw h e

-- ---- the column name's place is inside the line
abbrev NameWithin : ℕ → ListLine → Type 0
NameWithin k x = x.name.start + x.name.len ≤ k

either-within : (k : ℕ) (z : Bool) (x : ListLine) → NameWithin k x → NameWithin k (cond z x malformed)
either-within k true x h = h
either-within k false x h = omega arith

fields_within : (k : ℕ) (ls : List (List ℕ)) → total (map length ls) ≤ k → NameWithin k (by_fields ls)
unfolding total
fields_within k [] h = omega arith
fields_within k (r ∷ []) h = omega arith
fields_within k (r ∷ (n ∷ [])) h = omega arith
fields_within k (r ∷ (n ∷ (d ∷ []))) h = omega arith
fields_within k (r ∷ (n ∷ (d ∷ (g ∷ [])))) h =
    rw (← fields-line (length r + 1) r n d g refl) (either-within k (all_good r n d g) (line_of (length r + 1) r n d g) (omega arith))
fields_within k (r ∷ (n ∷ (d ∷ (g ∷ (x ∷ xs))))) h = omega arith

first-within : (w : ℕ) (ws : List ℕ) → w ≤ total (w ∷ ws)
unfolding total
first-within w [] = omega arith
first-within w (v ∷ ws) = omega arith

pub name-within : (s : List ℕ) (x : ListLine) → x ≡ line_read s → x.name.start + x.name.len ≤ length s
unfolding line_read
name-within s x e =
    rw e
    (either-within (length s) (is_one_line s) (by_fields (pieces 9 (first_piece 10 s)))
    (fields_within (length s) (pieces 9 (first_piece 10 s))
    (rw total-pieces (omega (arith, first-within (length (first_piece 10 s)) (map length (later_pieces 10 s)), total-pieces 10 s)))))
