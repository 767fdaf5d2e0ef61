-- The cells of the names line by their places.
use Prim.Native.Nat.{ℕ, zero, suc, ◌+◌, ◌-◌, ◌≤◌, ◌<◌}
use mathlib.Core.Path.{◌≡◌, refl, sym, ap, ◌∙◌, subst}
use mathlib.Core.Bool.{Bool, true, false, ◌||◌, true≢false}
use mathlib.Core.List.{List, [], ◌∷◌, ◌++◌}
use native.Mathlib.Numerals.{add-one}
use native.Mathlib.Nat.{not-suc-le-zero, le_of_suc-le-suc}
use native.Mathlib.Omega.{arith}
use lib.ListN.{length, get_or, take, drop, set, length-drop, length-set, length-map, length-append, drop_of_length-le, get_or-map}
use lib.Seq.{take-suc, drop-drop, get_or-drop, length-take-le}
use Rattle.std.proofs.Math.Seq.{take-suc-set}
use Rattle.std.proofs.lemmas.List.{map-append}
use lib.Dec.{eqb, leb}
use borrow.Author.Tests.{eqb-true, eqb-false, leb-true, leb-false, le-leb, lt-leb}
use Rattle.line_bytes.specs.declared.Span.{Span}
use Rattle.line_bytes.specs.Cells.{first_piece, later_pieces, pieces, line_at, cell_at, cell_end}
use Rattle.line_bytes.specs.Spaces.{trim_front, trim_end, trim}
use Rattle.line_bytes.proofs.CellLaws.{cell_end_from}
use Rattle.line_bytes.proofs.SpaceLaws.{span_past, span-bytes}
use Rattle.format.specs.Columns.{names_of}
use Rattle.format.specs.Inner.Names.{text_in}
use Rattle.format.specs.Grid.{starts}
use Rattle.columns.specs.Inner.Columns.{start_of, is_last, Placed}
use Rattle.format.proofs.RunLaws.{piece_in}
use Rattle.format.proofs.GridWalkLaws.{cell-slice, cells-ended, cells-fed, cells_parted, end_past}

-- ---- the line's end
module _ (s : List ℕ) (q : ℕ) where
  pub last_past : length s ≤ q → true ≡ is_last s q
  unfolding is_last
  last_past h = rw (le-leb (length s) q h)

  pub last-fed : q < length s → eqb (get_or s q 0) 10 ≡ is_last s q
  unfolding is_last
  last-fed h = rw (lt-leb (length s) q h)

-- ---- a list from place n on
module _ {A : Type 0} (l : List A) (n : ℕ) (x : A) (r : List A) (e : drop n l ≡ x ∷ r) where
  rest-long : length l ≡ n + suc (length r)
  rest-long = let z : length l - n ≡ suc (length r) = sym (length-drop n l) ∙ ap length e in omega arith

  rest-first : (d : A) → get_or l n d ≡ x
  rest-first d =
      let q : n + 0 ≡ n = omega arith in
      sym (rw q at (get_or-drop n l 0 d)) ∙ ap (λ (y : List A). get_or y 0 d) e

  rest-later : drop (n + 1) l ≡ r
  rest-later = sym (drop-drop 1 n l) ∙ ap (drop 1) e

-- ---- where a piece starts
pub start_first : (c : ℕ) (ts : List (List ℕ)) → start_of c ts 0 ≡ c
unfolding start_of starts
start_first c [] = omega arith
start_first c (t ∷ ts) = omega arith

pub start-later : (c : ℕ) (t : List ℕ) (ts : List (List ℕ)) (k : ℕ) → start_of c (t ∷ ts) (suc k) ≡ start_of (c + length t + 1) ts k
unfolding start_of starts
start-later c t ts k = omega arith

pub start-next : (c : ℕ) (ts : List (List ℕ)) (k : ℕ) → k < length ts → start_of c ts (k + 1) ≡ start_of c ts k + length (get_or ts k []) + 1
start-next c ts k h = rw (add-one k) (go c ts k h)
  where
    go : (c : ℕ) (ts : List (List ℕ)) (k : ℕ) → k < length ts → start_of c ts (suc k) ≡ start_of c ts k + length (get_or ts k []) + 1
    go c [] k h = absurd (not-suc-le-zero h)
    go c (t ∷ ts) zero h = start-later c t ts 0 ∙ start_first (c + length t + 1) ts ∙ ap (λ (n : ℕ). n + length t + 1) (sym (start_first c (t ∷ ts)))
    go c (t ∷ ts) (suc k) h =
        start-later c t ts (suc k) ∙ go (c + length t + 1) ts k (le_of_suc-le-suc h) ∙ ap (λ (n : ℕ). n + length (get_or ts k []) + 1) (sym (start-later c t ts k))

-- from a place of the file to a column
module _ (at v : ℕ) (ts : List (List ℕ)) (k : ℕ) (e : v ≡ start_of at ts k) where
  pub start-after : at ≤ v
  unfolding start_of
  start-after = omega (arith, e)

  pub start-column : (v - at) + 1 ≡ start_of 1 ts k
  unfolding start_of
  start-column = omega (arith, e)

-- ---- a cell of any line, whether it has its line feed or not
module _ (s : List ℕ) (i : ℕ) where
  pub end-within : i ≤ length s → cell_end 44 s i ≤ length s
  unfolding cell_end
  end-within h = omega (arith, piece_in 44 (line_at s i), piece_in 10 (drop i s), length-drop i s)

  -- its text without the spaces at its ends
  pub cell-text : (q : ℕ) → q ≡ cell_end 44 s i → text_in s i q ≡ trim (cell_at 44 s i)
  unfolding trim trim_front trim_end first_piece
  cell-text q e = ap (text_in s i) e ∙ go (leb i (length s)) refl
    where
      go : (b : Bool) → leb i (length s) ≡ b → text_in s i (cell_end 44 s i) ≡ trim (cell_at 44 s i)
      go true p = span-bytes s i (cell_end 44 s i) (cell_end_from 44 s i) (end-within (leb-true i (length s) p)) ∙ ap trim (cell-slice 44 s i)
      go false p =
          let h : length s < i = leb-false i (length s) p in
          let z : length s ≤ i = omega arith in
          let f = end_past s i z in
          ap (λ (r : Span). take r.len (drop r.start s)) (sym (span_past s i (cell_end 44 s i) (cell_end_from 44 s i) (omega (arith, f, h))))
          ∙ sym (rw (drop_of_length-le s z))

  -- the line ends with it, or goes on after a comma
  pub cells-last : (q : ℕ) → q ≡ cell_end 44 s i → is_last s q ≡ true → pieces 44 (line_at s i) ≡ cell_at 44 s i ∷ []
  unfolding is_last
  cells-last q e h = go (leb (length s) q) (eqb (get_or s q 0) 10) refl refl h
    where
      go : (a b : Bool) → leb (length s) q ≡ a → eqb (get_or s q 0) 10 ≡ b → (a || b) ≡ true → pieces 44 (line_at s i) ≡ cell_at 44 s i ∷ []
      go true b u v h = cells-ended s i (subst (λ (n : ℕ). length s ≤ n) e (leb-true (length s) q u))
      go false true u v h = cells-fed s i (subst (λ (n : ℕ). get_or s n 0 ≡ 10) e (eqb-true (get_or s q 0) 10 v))
      go false false u v h = absurd (true≢false (sym h))

  pub cells-more : (q : ℕ) → q ≡ cell_end 44 s i → is_last s q ≡ false → (q < length s) × (pieces 44 (line_at s i) ≡ cell_at 44 s i ∷ pieces 44 (line_at s (q + 1)))
  unfolding is_last
  cells-more q e h = go (leb (length s) q) (eqb (get_or s q 0) 10) refl refl h
    where
      go : (a b : Bool) → leb (length s) q ≡ a → eqb (get_or s q 0) 10 ≡ b → (a || b) ≡ false → (q < length s) × (pieces 44 (line_at s i) ≡ cell_at 44 s i ∷ pieces 44 (line_at s (q + 1)))
      go true b u v h = absurd (true≢false h)
      go false true u v h = absurd (true≢false h)
      go false false u v h =
          let l = leb-false (length s) q u in (
            l,
            cells_parted s i (subst (λ (n : ℕ). n < length s) e l) (subst (λ (n : ℕ). get_or s n 0 ≡ 10 → ⊥) e (eqb-false (get_or s q 0) 10 v))
                ∙ ap (λ (n : ℕ). cell_at 44 s i ∷ pieces 44 (line_at s (n + 1))) (sym e),
          )

-- ---- one more cell
-- the walk over the cells: the first n places are theirs, and the next starts at i
pub record Walked (s : List ℕ) (at i n : ℕ) (ps : List Span) : Type 0 where
  pub wide : length ps ≡ 256
  pub few : n ≤ 256
  pub placed : Placed s at (take n ps)
  pub left : drop n (pieces 44 (line_at s at)) ≡ pieces 44 (line_at s i)
  pub here : i ≡ start_of at (pieces 44 (line_at s at)) n
  pub later : n ≤ i
  pub near : i ≤ at + length s

pub walked_none : (s : List ℕ) (at : ℕ) (ps : List Span) → length ps ≡ 256 → Walked s at at 0 ps
walked_none s at ps a =
    record {
      wide = a;
      few = omega arith;
      placed = subst (Placed s at) (sym (none ps)) (record {
        few = omega arith;
        names = refl;
        begin = λ k d h. absurd (not-suc-le-zero h);
        inside = λ k d h. absurd (not-suc-le-zero h);
      });
      left = refl;
      here = sym (start_first at (pieces 44 (line_at s at)));
      later = omega arith;
      near = omega arith;
    }
  where
    none : (ps : List Span) → take 0 ps ≡ []
    none [] = refl
    none (p ∷ ps) = refl

-- what holds of some places, and of one more
more-placed : (P : ℕ → Span → Type 0) (ps : List Span) (p : Span) → ((k : ℕ) (d : Span) → k < length ps → P k (get_or ps k d)) → P (length ps) p
    → (k : ℕ) (d : Span) → k < length (ps ++ p ∷ []) → P k (get_or (ps ++ p ∷ []) k d)
more-placed P [] p f x zero d h = x
more-placed P [] p f x (suc k) d h = absurd (not-suc-le-zero (le_of_suc-le-suc h))
more-placed P (q ∷ ps) p f x zero d h = f 0 d (omega arith)
more-placed P (q ∷ ps) p f x (suc k) d h = more-placed (λ (j : ℕ). P (suc j)) ps p (λ j e l. f (suc j) e (omega arith)) x k d (le_of_suc-le-suc h)

module _ (s : List ℕ) (at i n : ℕ) (ps : List Span) (w : Walked s at i n ps) where
  abbrev ts : List (List ℕ)
  ts = pieces 44 (line_at s at)

  pub walked_more : n < length ts
  walked_more = omega (arith, rest-long ts n (cell_at 44 s i) (later_pieces 44 (line_at s i)) w.left)

  module _ (h : n < 256) (q : ℕ) (eq : q ≡ cell_end 44 s i) where
    name-here : text_in s i (i + (q - i)) ≡ get_or (names_of (line_at s at)) n []
    unfolding trim trim_front trim_end
    name-here =
        let z : i + (q - i) ≡ q = omega (arith, eq, cell_end_from 44 s i) in
        ap (text_in s i) z ∙ cell-text s i q eq
        ∙ ap trim (sym (rest-first ts n (cell_at 44 s i) (later_pieces 44 (line_at s i)) w.left []))
        ∙ sym (get_or-map trim ts n [])

    one_more : take (n + 1) (set ps n (record { start = i; len = q - i })) ≡ take n ps ++ (record { start = i; len = q - i }) ∷ []
    one_more = rw (add-one n) (take-suc-set ps n (record { start = i; len = q - i }) (omega (arith, w.wide)))

    pub placed-more : Placed s at (take (n + 1) (set ps n (record { start = i; len = q - i })))
    placed-more =
        let p = w.placed in
        let m : length (take n ps) ≡ n = length-take-le n ps (omega (arith, w.wide)) in
        let z : n < length (names_of (line_at s at)) = rw length-map walked_more in
        let l : length (take n ps ++ (record { start = i; len = q - i }) ∷ []) ≡ n + 1 = length-append (take n ps) ((record { start = i; len = q - i }) ∷ []) ∙ ap (λ (x : ℕ). x + 1) m in
        subst (Placed s at) (sym one_more) (record {
          few = omega (arith, l);
          names = map-append (λ (p : Span). text_in s p.start (p.start + p.len)) (take n ps) ((record { start = i; len = q - i }) ∷ [])
              ∙ ap (λ (x : List (List ℕ)). x ++ text_in s i (i + (q - i)) ∷ []) (p.names ∙ ap (λ (x : ℕ). take x (names_of (line_at s at))) m)
              ∙ ap (λ (x : List ℕ). take n (names_of (line_at s at)) ++ x ∷ []) name-here
              ∙ sym (ap (λ (x : ℕ). take x (names_of (line_at s at))) (l ∙ add-one n) ∙ take-suc (names_of (line_at s at)) n [] z);
          begin = more-placed (λ (k : ℕ) (x : Span). x.start ≡ start_of at ts k) (take n ps) (record { start = i; len = q - i }) p.begin (w.here ∙ ap (start_of at ts) (sym m));
          inside = more-placed (λ (k : ℕ) (x : Span). x.start ≤ at + length s) (take n ps) (record { start = i; len = q - i }) p.inside w.near;
        })

    -- the cell is the last
    pub walked-last : is_last s q ≡ true → n + 1 ≡ length ts
    walked-last f = omega (arith, rest-long ts n (cell_at 44 s i) [] (w.left ∙ cells-last s i q eq f))

    pub walked-room : is_last s q ≡ false → q < length s
    walked-room f = (cells-more s i q eq f).0

    pub walked_on_lem : is_last s q ≡ false → Walked s at (q + 1) (n + 1) (set ps n (record { start = i; len = q - i }))
    unfolding cell_end
    walked_on_lem f =
        let m = cells-more s i q eq f in
        let start : start_of at ts (n + 1) ≡ start_of at ts n + length (cell_at 44 s i) + 1 =
        start-next at ts n walked_more ∙ ap (λ (x : List ℕ). start_of at ts n + length x + 1) (rest-first ts n (cell_at 44 s i) (later_pieces 44 (line_at s i)) w.left []) in
        record {
          wide = length-set ps n (record { start = i; len = q - i }) ∙ w.wide;
          few = omega arith;
          placed = placed-more;
          left = rest-later ts n (cell_at 44 s i) (pieces 44 (line_at s (q + 1))) (w.left ∙ m.1);
          here = rw start (ap (λ (x : ℕ). x + 1) (eq ∙ ap (λ (x : ℕ). x + length (cell_at 44 s i)) w.here));
          later = omega (arith, eq, w.later);
          near = omega (arith, m.0);
        }
