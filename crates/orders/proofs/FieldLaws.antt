-- The fields of a list line, parted by tabs: from one to the next, and the four of a good line.
use Prim.Native.Nat.{ℕ, ◌+◌, ◌<◌}
use mathlib.Core.Path.{◌≡◌, refl, sym, ap, ◌∙◌}
use mathlib.Core.Logic.{⊎_elim}
use mathlib.Core.List.{List, [], ◌∷◌}
use mathlib.Core.Bool.{Bool, true, false, cond, ◌&&◌, and-true, and-false}
use native.Mathlib.Nat.{eq-or-lt_of_le}
use native.Mathlib.Omega.{arith}
use lib.ListN.{length, get_or}
use lib.Dec.{eqb, ltb}
use lib.IntN.{ℤ}
use borrow.Author.Tests.{eqb-true, eqb-false, ltb-true, ltb-false}
use Rattle.line_bytes.specs.Cells.{pieces, line_at, cell_at, cell_end}
use Rattle.line_bytes.specs.Spaces.{trim_front, trim_end, trim}
use Rattle.line_bytes.specs.Names.{is_name}
use Rattle.verdicts.specs.Judge.{judge}
use Rattle.verdicts.specs.Verdicts.{is_good, size_of, decimals_of, millionths_of}
use Rattle.line_bytes.specs.Inner.Scans.{Stop}
use Rattle.line_bytes.proofs.CellLaws.{end-feed, cell_end_from, cell_end-within, cell_end-parts, cell-end, pieces-last, pieces_more}
use Rattle.format.specs.Inner.Lines.{Ends}
use Rattle.format.proofs.EndsLaws.{ends-stop, ends-before, ends_moved}
use Rattle.orders.specs.declared.ListLine.{ListLine}
use Rattle.orders.specs.ListLines.{malformed, whole, is_row, decimal_in, fields_read, by_fields}

-- ---- from field to field
abbrev pub after : ℕ → ℕ → ℕ
after at e = cond (ltb at e) (at + 1) at

-- the field that goes on at i, and it with those after it
abbrev pub field : List ℕ → ℕ → List ℕ
field s i = cell_at 9 s i

abbrev pub fields : List ℕ → ℕ → List (List ℕ)
fields s i = pieces 9 (line_at s i)

-- the field at i is the last, and the one at j is empty; or the one at j is the next
pub data Fields (s : List ℕ) (i j : ℕ) : Type 0 where
  last : fields s i ≡ field s i ∷ [] → field s j ≡ [] → Fields s i j
  more : j ≡ cell_end 9 s i + 1 → fields s i ≡ field s i ∷ fields s j → Fields s i j

module _ {s : List ℕ} {i e : ℕ} (t : Ends s i e) where
  pub tabs-stop : Stop 9 s i e
  tabs-stop = record { inside = omega (arith, t.far); room = t.room; feed = (ends-stop t).feed; parts = refl }

  pub fields-end : cell_end 9 s i ≡ e → fields s i ≡ field s i ∷ []
  fields-end q = pieces-last tabs-stop (rw q tabs-stop.feed)

  pub fields-on : cell_end 9 s i < e → fields s i ≡ field s i ∷ fields s (cell_end 9 s i + 1)
  fields-on h = pieces_more tabs-stop (λ z. omega arith) (cell_end-parts tabs-stop (ends-before (ends_moved t (cell_end_from 9 s i) (omega arith)) h))

  next-short : eqb (cell_end 9 s i) e ≡ false → cell_end 9 s i < e
  next-short f = ⊎_elim (λ (q : cell_end 9 s i ≡ e). absurd (eqb-false (cell_end 9 s i) e f q)) (λ (l : cell_end 9 s i < e). l) (eq-or-lt_of_le (cell_end-within tabs-stop))

  pub after-ends : Ends s (after (cell_end 9 s i) e) e
  after-ends = go (ltb (cell_end 9 s i) e) refl
    where
      go : (z : Bool) → ltb (cell_end 9 s i) e ≡ z → Ends s (cond z (cell_end 9 s i + 1) (cell_end 9 s i)) e
      go true h = let l = ltb-true (cell_end 9 s i) e h in ends_moved t (omega (arith, cell_end_from 9 s i)) (omega arith)
      go false h = ends_moved t (cell_end_from 9 s i) (cell_end-within tabs-stop)

  pub after_fields : Fields s i (after (cell_end 9 s i) e)
  after_fields = go (ltb (cell_end 9 s i) e) refl
    where
      go : (z : Bool) → ltb (cell_end 9 s i) e ≡ z → Fields s i (cond z (cell_end 9 s i + 1) (cell_end 9 s i))
      go true h = more refl (fields-on (ltb-true (cell_end 9 s i) e h))
      go false h =
          let q : cell_end 9 s i ≡ e = omega (arith, ltb-false (cell_end 9 s i) e h, cell_end-within tabs-stop) in
          last (fields-end q) (cell-end s (cell_end 9 s i) (omega (arith, t.room)) 9 (end-feed 9 (get_or s (cell_end 9 s i) 0) (rw q tabs-stop.feed)))

-- ---- the four fields
unfoldable pub all_good : List ℕ → List ℕ → List ℕ → List ℕ → Bool
all_good r n d g = is_row r && is_name n && (is_good (decimal_in d) && is_good (whole 1 g))

-- an empty name, decimal or flag is none
good-name : (r d g : List ℕ) → all_good r [] d g ≡ false
unfolding all_good is_name
good-name r d g = go (is_row r)
  where
    go : (p : Bool) → (p && false && (is_good (decimal_in d) && is_good (whole 1 g))) ≡ false
    go true = refl
    go false = refl

good-decimal : (r n g : List ℕ) → all_good r n [] g ≡ false
unfolding all_good judge trim trim_end trim_front
good-decimal r n g = and-false (is_row r && is_name n)

good-flag : (r n d : List ℕ) → all_good r n d [] ≡ false
unfolding all_good trim trim_end trim_front
good-flag r n d = rw (and-false (is_good (decimal_in d))) (and-false (is_row r && is_name n))

-- what they read as, the name starting at a
abbrev pub listed : ℕ → ℕ → ℕ → ℤ → ℕ → ℕ → ListLine
listed row a len m d v = record { number = 0; row = row; name = record { start = a; len = len }; millionths = m; decimals = d; flag = v }

abbrev pub line_of : ℕ → List ℕ → List ℕ → List ℕ → List ℕ → ListLine
line_of a r n d g = listed (size_of (whole 7 r)) a (length n) (millionths_of (decimal_in d)) (decimals_of (decimal_in d)) (size_of (whole 1 g))

pub fields-line : (a : ℕ) (r n d g : List ℕ) → a ≡ length r + 1 → cond (all_good r n d g) (line_of a r n d g) malformed ≡ fields_read r n d g
unfolding fields_read all_good
fields-line a r n d g h = rw h

-- with the fields that go on at 0, a, b and c
abbrev pub good_at : List ℕ → ℕ → ℕ → ℕ → Bool
good_at s a b c = all_good (field s 0) (field s a) (field s b) (field s c)

abbrev pub line_with : List ℕ → ℕ → ℕ → ℕ → ListLine
line_with s a b c = line_of a (field s 0) (field s a) (field s b) (field s c)

second-start : (s : List ℕ) (a : ℕ) → a ≡ cell_end 9 s 0 + 1 → a ≡ length (field s 0) + 1
unfolding cell_end
second-start s a h = omega (arith, h)

module _ {s : List ℕ} {a b c e : ℕ} (t : Ends s c e) where
  pub four_fields : Fields s 0 a → Fields s a b → Fields s b c
      → cond (good_at s a b c && eqb (cell_end 9 s c) e) (line_with s a b c) malformed ≡ by_fields (fields s 0)
  four_fields (last p q) y z = rw (q, good-name (field s 0) (field s b) (field s c)) (sym (ap by_fields p))
  four_fields (more h p) (last q u) z = rw (u, good-decimal (field s 0) (field s a) (field s c)) (sym (ap by_fields (p ∙ ap (◌∷◌ (field s 0)) q)))
  four_fields (more h p) (more k q) (last v w) =
      rw (w, good-flag (field s 0) (field s a) (field s b)) (sym (ap by_fields (p ∙ ap (◌∷◌ (field s 0)) (q ∙ ap (◌∷◌ (field s a)) v))))
  four_fields (more h p) (more k q) (more l v) = go (eqb (cell_end 9 s c) e) refl ∙ sym (ap by_fields (p ∙ ap (◌∷◌ (field s 0)) (q ∙ ap (◌∷◌ (field s a)) v)))
    where
      go : (z : Bool) → eqb (cell_end 9 s c) e ≡ z
          → cond (good_at s a b c && z) (line_with s a b c) malformed ≡ by_fields (field s 0 ∷ field s a ∷ field s b ∷ fields s c)
      go true f =
          rw (and-true (good_at s a b c))
          (fields-line a (field s 0) (field s a) (field s b) (field s c) (second-start s a h)
          ∙ sym (ap (λ (l : List (List ℕ)). by_fields (field s 0 ∷ field s a ∷ field s b ∷ l)) (fields-end t (eqb-true (cell_end 9 s c) e f))))
      go false f =
          rw (and-false (good_at s a b c))
          (sym (ap (λ (l : List (List ℕ)). by_fields (field s 0 ∷ field s a ∷ field s b ∷ l)) (fields-on t (next-short t f))))
