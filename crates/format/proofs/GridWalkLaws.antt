-- Where lines and cells stand.
use Prim.Native.Nat.{ℕ, zero, suc, ◌+◌, ◌-◌, ◌≤◌, ◌<◌}
use mathlib.Core.Path.{◌≡◌, refl, sym, ap, subst, ◌∙◌}
use mathlib.Core.List.{List, [], ◌∷◌, map}
use mathlib.Core.Bool.{Bool, true, false, cond}
use native.Mathlib.Nat.{add-zero, zero-add, not-suc-le-zero, le_of_suc-le-suc}
use native.Mathlib.Numerals.{add-one}
use native.Mathlib.Omega.{arith}
use lib.ListN.{length, get_or, take, drop, drop_of_length-le, length-drop}
use lib.Seq.{slice, take-take, drop-cons, drop-drop, get_or-drop}
use lib.Dec.{eqb, ltb}
use borrow.Author.Tests.{eqb-true, eqb-false, eq-eqb, ne_eqb, lt-ltb, le-ltb, ltb-true, ltb-false}
use Rattle.line_bytes.specs.declared.Span.{Span}
use Rattle.line_bytes.specs.Cells.{first_piece, later_pieces, pieces, line_at, cell_at, cell_end}
use Rattle.line_bytes.specs.Inner.Scans.{Stop}
use Rattle.line_bytes.proofs.CellLaws.{cell_end-parts, pieces_more, count-step}
use Rattle.line_bytes.proofs.SpaceLaws.{slice-take}
use Rattle.format.specs.Grid.{starts, span_in}
use Rattle.format.specs.Inner.Grid.{line_start, cell_span, count_of, skip, skipped}
use Rattle.format.proofs.RunLaws.{piece_in, piece-take}

-- ---- skipping line feeds
suc-cond : (z : Bool) (a b c d : ℕ) → suc a ≡ c → suc b ≡ d → suc (cond z a b) ≡ cond z c d
suc-cond true a b c d e f = e
suc-cond false a b c d e f = f

suc_less : (k m : ℕ) → ltb (suc k) (suc m) ≡ ltb k m
suc_less k m = go (ltb k m) refl
  where
    go : (z : Bool) → ltb k m ≡ z → ltb (suc k) (suc m) ≡ z
    go true e = lt-ltb (suc k) (suc m) (omega (arith, ltb-true k m e))
    go false e = le-ltb (suc k) (suc m) (omega (arith, ltb-false k m e))

-- the k-th piece begins after k line feeds
skip-starts : (k : ℕ) (xs : List ℕ) → skip k xs ≡ cond (ltb k (length (pieces 10 xs))) (starts (map length (pieces 10 xs)) k) (length xs)
unfolding skip starts first_piece later_pieces
skip-starts zero [] = refl
skip-starts zero (x ∷ xs) = rw (lt-ltb 0 (length (pieces 10 (x ∷ xs))) (omega arith))
skip-starts (suc k) [] = rw (le-ltb (suc k) 1 (omega arith))
skip-starts (suc k) (x ∷ xs) = go (eqb x 10) (skip-starts k xs) (skip-starts (suc k) xs)
  where
    go : (b : Bool) → skip k xs ≡ cond (ltb k (length (pieces 10 xs))) (starts (map length (pieces 10 xs)) k) (length xs)
        → skip (suc k) xs ≡ cond (ltb (suc k) (length (pieces 10 xs))) (starts (map length (pieces 10 xs)) (suc k)) (length xs)
        → suc (cond b (skip k xs) (skip (suc k) xs))
        ≡ cond (ltb (suc k) (length {A = List ℕ} (cond b [] (x ∷ first_piece 10 xs) ∷ cond b (first_piece 10 xs ∷ later_pieces 10 xs) (later_pieces 10 xs))))
        (starts (map length (cond b [] (x ∷ first_piece 10 xs) ∷ cond b (first_piece 10 xs ∷ later_pieces 10 xs) (later_pieces 10 xs))) (suc k)) (suc (length xs))
    go true p q = ap suc p ∙ rw (suc_less k (suc (length (later_pieces 10 xs)))) (suc-cond (ltb k (suc (length (later_pieces 10 xs)))) _ _ _ _ (omega arith) refl)
    go false p q = ap suc q ∙ suc-cond (ltb (suc k) (suc (length (later_pieces 10 xs)))) _ _ _ _ (omega arith) refl

-- no line on; and from a place past the end
pub start_none : (s : List ℕ) (i : ℕ) → line_start s i 0 ≡ i
unfolding line_start starts
start_none s i = rw (lt-ltb 0 (suc (length (later_pieces 10 (drop i s)))) (omega arith)) (add-zero i)

pub start_past : (s : List ℕ) (i k : ℕ) → length s < i → (k ≡ 0 → ⊥) → line_start s i k ≡ length s
unfolding line_start first_piece later_pieces
start_past s i k h z =
    let g : length s ≤ i = omega arith in
    let e : drop i s ≡ [] = drop_of_length-le s g in
    rw e (rw (le-ltb k 1 (omega (arith, z))))

pub start-skipped : (s : List ℕ) (i k : ℕ) → i ≤ length s → line_start s i k ≡ skipped s i k
unfolding line_start
start-skipped s i k h = rw (skip-starts k (drop i s)) (go (ltb k (length (pieces 10 (drop i s)))))
  where
    go : (z : Bool) → cond z (i + starts (map length (pieces 10 (drop i s))) k) (length s) ≡ i + cond z (starts (map length (pieces 10 (drop i s))) k) (length (drop i s))
    go true = refl
    go false = rw (length-drop i s) (omega arith)

-- ---- one byte at a time
module _ (s : List ℕ) (i : ℕ) where
  pub skipped-end : length s ≤ i → (k : ℕ) → skipped s i k ≡ i
  unfolding skip
  skipped-end h zero = add-zero i
  skipped-end h (suc k) = rw (drop_of_length-le s h) (add-zero i)

  module _ (h : i < length s) where
    skipped-feed : (k : ℕ) → get_or s i 0 ≡ 10 → skipped s i (k + 1) ≡ skipped s (i + 1) k
    unfolding skip
    skipped-feed k e = rw (add-one k, add-one i, drop-cons s i 0 h) (rw (eq-eqb _ _ e) (omega arith))

    skipped-other : (k : ℕ) → (get_or s i 0 ≡ 10 → ⊥) → skipped s i (k + 1) ≡ skipped s (i + 1) (k + 1)
    unfolding skip
    skipped-other k e = rw (add-one k, add-one i, drop-cons s i 0 h) (rw (ne_eqb _ _ e) (omega arith))

    -- m line feeds to go at i, and n after the byte there
    pub skipped-last : (m : ℕ) → get_or s i 0 ≡ 10 → m ≡ 1 → skipped s i m ≡ i + 1
    unfolding skip
    skipped-last m e o = ap (λ (x : ℕ). skipped s i x) o ∙ skipped-feed 0 e ∙ add-zero (i + 1)

    pub skipped-fed : (m n : ℕ) → get_or s i 0 ≡ 10 → 1 ≤ m → (m ≡ 1 → ⊥) → n ≡ m - 1 → (1 ≤ n) × (skipped s i m ≡ skipped s (i + 1) n)
    skipped-fed m n e l o g =
        let f : m ≡ n + 1 = omega (arith, l, o, g) in
        (omega (arith, l, o, g), ap (λ (x : ℕ). skipped s i x) f ∙ skipped-feed n e)

    pub skipped_past : (m n : ℕ) → (get_or s i 0 ≡ 10 → ⊥) → 1 ≤ m → n ≡ m → (1 ≤ n) × (skipped s i m ≡ skipped s (i + 1) n)
    skipped_past m n e l g =
        let f : m ≡ m - 1 + 1 = omega arith in
        (omega arith, ap (λ (x : ℕ). skipped s i x) f ∙ skipped-other (m - 1) e ∙ ap (λ (x : ℕ). skipped s (i + 1) x) (sym f ∙ sym g))

-- ---- a block at a time
skip_block : (m k : ℕ) (xs : List ℕ) → m ≤ length xs → count_of 10 (take m xs) < k → skip k xs ≡ m + skip (k - count_of 10 (take m xs)) (drop m xs)
unfolding skip count_of
skip_block zero k xs h l = let e : k - 0 ≡ k = omega arith in rw e (sym (zero-add _))
skip_block (suc m) zero xs h l = absurd (omega arith)
skip_block (suc m) (suc k) [] h l = absurd (not-suc-le-zero h)
skip_block (suc m) (suc k) (x ∷ xs) h l = go (eqb x 10) l (skip_block m k xs (le_of_suc-le-suc h)) (skip_block m (suc k) xs (le_of_suc-le-suc h))
  where
    f : ℕ
    f = count_of 10 (take m xs)

    go : (b : Bool) → cond b 1 0 + f < suc k → (f < k → skip k xs ≡ m + skip (k - f) (drop m xs)) → (f < suc k → skip (suc k) xs ≡ m + skip (suc k - f) (drop m xs))
        → suc (cond b (skip k xs) (skip (suc k) xs)) ≡ suc m + skip (suc k - (cond b 1 0 + f)) (drop m xs)
    go true l p q = let e : suc k - (1 + f) ≡ k - f = omega arith in rw e (omega (arith, p (omega arith)))
    go false l p q = let e : suc k - (0 + f) ≡ suc k - f = omega arith in rw e (omega (arith, q (omega arith)))

pub skipped-block : (s : List ℕ) (i k n : ℕ) → i + 32 ≤ length s → n ≡ count_of 10 (take 32 (drop i s)) → n < k → skipped s i k ≡ skipped s (i + 32) (k - n)
skipped-block s i k n h e l =
    let b : 32 ≤ length (drop i s) = rw length-drop (omega arith) in
    ap (λ (x : ℕ). i + x) (skip_block 32 k (drop i s) b (subst (λ (x : ℕ). x < k) e l))
    ∙ rw (drop-drop 32 i s, ← e) (omega arith)

-- counting a block: what is passed and the byte at its end
module _ (b : ℕ) where
  pub count_none : (xs : List ℕ) → count_of b (take 0 xs) ≡ 0
  unfolding count_of
  count_none xs = refl

  count-more : (m : ℕ) (xs : List ℕ) → m < length xs → count_of b (take (m + 1) xs) ≡ count_of b (take m xs) + cond (eqb (get_or xs m 0) b) 1 0
  unfolding count_of
  count-more zero [] h = absurd (not-suc-le-zero h)
  count-more zero (x ∷ xs) h = omega arith
  count-more (suc m) [] h = absurd (not-suc-le-zero h)
  count-more (suc m) (x ∷ xs) h = let e : suc m + 1 ≡ suc (m + 1) = omega arith in rw e (omega (arith, count-more m xs (le_of_suc-le-suc h)))

  pub count_byte : (s : List ℕ) (i k : ℕ) → i + k < length s → count_of b (take (k + 1) (drop i s)) ≡ count_of b (take k (drop i s)) + cond (eqb (get_or s (i + k) 0) b) 1 0
  count_byte s i k l =
      let d : k < length (drop i s) = rw length-drop (omega arith) in
      count-more k (drop i s) d ∙ rw (get_or-drop i s k 0)

  -- the first byte of a block, and the rest of it
  pub count-first : (s : List ℕ) (i m : ℕ) → i < length s → count_of b (take (suc m) (drop i s)) ≡ cond (eqb (get_or s i 0) b) 1 0 + count_of b (take m (drop (i + 1) s))
  unfolding count_of
  count-first s i m h = rw (add-one i, drop-cons s i 0 h)

-- ---- the end of a line
module _ (s : List ℕ) (p : ℕ) where
  pub line-stop : p < length s → get_or s p 0 ≡ 10 → p + length (line_at s p) ≡ p
  unfolding first_piece
  line-stop h e = rw (drop-cons s p 0 h) (rw (eq-eqb _ _ e) (add-zero p))

  pub line_on : p < length s → (get_or s p 0 ≡ 10 → ⊥) → p + length (line_at s p) ≡ p + 1 + length (line_at s (p + 1))
  unfolding first_piece
  line_on h e = rw (add-one p, drop-cons s p 0 h) (rw (ne_eqb _ _ e) (omega arith))

  pub line-none : length s ≤ p → p + length (line_at s p) ≡ p
  unfolding first_piece
  line-none h = rw (drop_of_length-le s h) (add-zero p)

-- ---- the cells of a line
span-on : (i : ℕ) (c : List ℕ) (ts : List (List ℕ)) (k : ℕ) → span_in i (c ∷ ts) (suc k) ≡ span_in (i + length c + 1) ts k
unfolding span_in starts
span-on i c ts k = rw (suc_less k (length ts)) (go (ltb k (length ts)))
  where
    e : i + (length c + 1 + starts (map length ts) k) ≡ i + length c + 1 + starts (map length ts) k
    e = omega arith

    go : (z : Bool) → ◌≡◌ {A = Span} (cond z (record { start = i + (length c + 1 + starts (map length ts) k); len = length (get_or ts k []) }) (record { start = 0; len = 0 }))
        (cond z (record { start = i + length c + 1 + starts (map length ts) k; len = length (get_or ts k []) }) (record { start = 0; len = 0 }))
    go true = λ d. record { start = e d; len = length (get_or ts k []) }
    go false = refl

span-here : (i : ℕ) (c : List ℕ) (ts : List (List ℕ)) → span_in i (c ∷ ts) 0 ≡ record { start = i; len = length c }
unfolding span_in starts
span-here i c ts = rw (lt-ltb 0 (suc (length ts)) (omega arith)) (λ d. record { start = add-zero i d; len = length c })

span_past : (i k : ℕ) → span_in i [] k ≡ record { start = 0; len = 0 }
unfolding span_in
span_past i k = rw (le-ltb k 0 (omega arith))

module _ {s : List ℕ} {i e : ℕ} (t : Stop 44 s i e) where
  pub span-first : (q : ℕ) → q ≡ cell_end 44 s i → cell_span s i 0 ≡ record { start = i; len = q - i }
  unfolding cell_end
  span-first q h = span-here i (cell_at 44 s i) (later_pieces 44 (line_at s i)) ∙ (λ d. record { start = i; len = len_is d })
    where
      len_is : length (cell_at 44 s i) ≡ q - i
      len_is = omega (arith, h)

  pub span_more : (k : ℕ) → (get_or s (cell_end 44 s i) 0 ≡ 10 → ⊥) → cell_span s i (k + 1) ≡ cell_span s (cell_end 44 s i + 1) k
  unfolding cell_end
  span_more k h =
      ap (λ (n : ℕ). cell_span s i n) (add-one k) ∙ ap (λ (ts : List (List ℕ)). span_in i ts (suc k)) (pieces_more t (λ z. absurd (omega arith)) (cell_end-parts t h))
      ∙ span-on i (cell_at 44 s i) (pieces 44 (line_at s (cell_end 44 s i + 1))) k

-- ---- a cell as a part of the file
pub cell-slice : (c : ℕ) (s : List ℕ) (i : ℕ) → slice i (cell_end c s i) s ≡ cell_at c s i
unfolding cell_end
cell-slice c s i =
    let q : (i + length (cell_at c s i)) - i ≡ length (cell_at c s i) = omega arith in
    slice-take i (i + length (cell_at c s i)) s
    ∙ ap (λ (k : ℕ). take k (drop i s)) q
    ∙ sym (take-take (length (cell_at c s i)) (length (line_at s i)) (drop i s) (piece_in c (line_at s i)))
    ∙ ap (take (length (cell_at c s i))) (piece-take 10 (drop i s))
    ∙ piece-take c (line_at s i)

-- ---- the cells of a line counted byte by byte
module _ (s : List ℕ) (p : ℕ) (l : p < length s) (n : get_or s p 0 ≡ 10 → ⊥) where
  pub count-comma : get_or s p 0 ≡ 44 → length (pieces 44 (line_at s p)) ≡ 1 + length (pieces 44 (line_at s (p + 1)))
  count-comma e = count-step 44 s p l n ∙ rw (eq-eqb (get_or s p 0) 44 e)

  pub count-other : (get_or s p 0 ≡ 44 → ⊥) → length (pieces 44 (line_at s p)) ≡ 0 + length (pieces 44 (line_at s (p + 1)))
  count-other e = count-step 44 s p l n ∙ rw (ne_eqb (get_or s p 0) 44 e)

-- ---- the cells of any line, whether it has its line feed or not
-- what is left of a line after its first cell, by the byte where that cell ends
module _ (c : ℕ) (n : c ≡ 10 → ⊥) where
  later-none : (xs : List ℕ) → length xs ≤ length (first_piece c (first_piece 10 xs)) → later_pieces c (first_piece 10 xs) ≡ []
  unfolding first_piece later_pieces
  later-none [] h = refl
  later-none (x ∷ xs) h = go (eqb x 10) (eqb x c) refl h (later-none xs)
    where
      go : (a b : Bool) → eqb x c ≡ b → suc (length xs) ≤ length (first_piece c (cond a [] (x ∷ first_piece 10 xs)))
          → (length xs ≤ length (first_piece c (first_piece 10 xs)) → later_pieces c (first_piece 10 xs) ≡ [])
          → later_pieces c (cond a [] (x ∷ first_piece 10 xs)) ≡ []
      go true b d h f = refl
      go false true d h f = absurd (omega (arith, rw d at h))
      go false false d h f = rw d (f (let k = rw d at h in omega arith))

  later-fed : (xs : List ℕ) → get_or xs (length (first_piece c (first_piece 10 xs))) 0 ≡ 10 → later_pieces c (first_piece 10 xs) ≡ []
  unfolding first_piece later_pieces
  later-fed [] h = refl
  later-fed (x ∷ xs) h = go (eqb x 10) (eqb x c) refl refl h (later-fed xs)
    where
      go : (a b : Bool) → eqb x 10 ≡ a → eqb x c ≡ b → get_or (x ∷ xs) (length (first_piece c (cond a [] (x ∷ first_piece 10 xs)))) 0 ≡ 10
          → (get_or xs (length (first_piece c (first_piece 10 xs))) 0 ≡ 10 → later_pieces c (first_piece 10 xs) ≡ [])
          → later_pieces c (cond a [] (x ∷ first_piece 10 xs)) ≡ []
      go true b p d h f = refl
      go false true p d h f = absurd (eqb-false x 10 p (rw d at h))
      go false false p d h f = rw d (f (rw d at h))

  later_parted : (xs : List ℕ) → length (first_piece c (first_piece 10 xs)) < length xs → (get_or xs (length (first_piece c (first_piece 10 xs))) 0 ≡ 10 → ⊥)
      → (later_pieces c (first_piece 10 xs) ≡ pieces c (first_piece 10 (drop (suc (length (first_piece c (first_piece 10 xs)))) xs))) × (get_or xs (length (first_piece c (first_piece 10 xs))) 0 ≡ c)
  unfolding first_piece later_pieces
  later_parted [] h g = absurd (omega arith)
  later_parted (x ∷ xs) h g = go (eqb x 10) (eqb x c) refl refl h g (later_parted xs)
    where
      Parts : List ℕ → List ℕ → Type 0
      Parts line all = (later_pieces c line ≡ pieces c (first_piece 10 (drop (suc (length (first_piece c line))) all))) × (get_or all (length (first_piece c line)) 0 ≡ c)

      go : (a b : Bool) → eqb x 10 ≡ a → eqb x c ≡ b → length (first_piece c (cond a [] (x ∷ first_piece 10 xs))) < suc (length xs)
          → (get_or (x ∷ xs) (length (first_piece c (cond a [] (x ∷ first_piece 10 xs)))) 0 ≡ 10 → ⊥)
          → (length (first_piece c (first_piece 10 xs)) < length xs → (get_or xs (length (first_piece c (first_piece 10 xs))) 0 ≡ 10 → ⊥) → Parts (first_piece 10 xs) xs)
          → Parts (cond a [] (x ∷ first_piece 10 xs)) (x ∷ xs)
      go true b p d h g f = absurd (g (eqb-true x 10 p))
      go false true p d h g f = rw d (refl, eqb-true x c d)
      go false false p d h g f = rw d (f (let k = rw d at h in omega arith) (rw d at g))

module _ (s : List ℕ) (i : ℕ) where
  -- its last cell, at the end of the bytes or before a line feed
  pub cells-ended : length s ≤ cell_end 44 s i → pieces 44 (line_at s i) ≡ cell_at 44 s i ∷ []
  unfolding cell_end
  cells-ended h = ap (λ (r : List (List ℕ)). cell_at 44 s i ∷ r) (later-none 44 (λ z. omega (arith, z)) (drop i s) (omega (arith, h, length-drop i s)))

  pub cells-fed : get_or s (cell_end 44 s i) 0 ≡ 10 → pieces 44 (line_at s i) ≡ cell_at 44 s i ∷ []
  unfolding cell_end
  cells-fed h = ap (λ (r : List (List ℕ)). cell_at 44 s i ∷ r) (later-fed 44 (λ z. omega (arith, z)) (drop i s) (get_or-drop i s (length (cell_at 44 s i)) 0 ∙ h))

  -- a cell before another byte: that is a comma, and the cells after it follow
  module _ (h : cell_end 44 s i < length s) (g : get_or s (cell_end 44 s i) 0 ≡ 10 → ⊥) where
    parts : (later_pieces 44 (line_at s i) ≡ pieces 44 (first_piece 10 (drop (suc (length (cell_at 44 s i))) (drop i s)))) × (get_or (drop i s) (length (cell_at 44 s i)) 0 ≡ 44)
    unfolding cell_end
    parts = later_parted 44 (λ z. omega (arith, z)) (drop i s) (omega (arith, h, length-drop i s)) (λ e. g (sym (get_or-drop i s (length (cell_at 44 s i)) 0) ∙ e))

    pub cells_parted : pieces 44 (line_at s i) ≡ cell_at 44 s i ∷ pieces 44 (line_at s (cell_end 44 s i + 1))
    unfolding cell_end
    cells_parted =
        let k : i + suc (length (cell_at 44 s i)) ≡ i + length (cell_at 44 s i) + 1 = omega arith in
        ap (λ (r : List (List ℕ)). cell_at 44 s i ∷ r) (parts.0 ∙ ap (λ (xs : List ℕ). pieces 44 (first_piece 10 xs)) (drop-drop (suc (length (cell_at 44 s i))) i s ∙ ap (λ (n : ℕ). drop n s) k))

-- ---- a cell byte by byte
module _ (s : List ℕ) (p : ℕ) where
  pub end_past : length s ≤ p → cell_end 44 s p ≡ p
  unfolding cell_end first_piece
  end_past h = rw (drop_of_length-le s h) (add-zero p)

  pub count_past : length s ≤ p → length (pieces 44 (line_at s p)) ≡ 1
  unfolding first_piece later_pieces
  count_past h = rw (drop_of_length-le s h)

  -- a span past the last cell
  pub span-ended : (k : ℕ) → length s ≤ cell_end 44 s p → cell_span s p (k + 1) ≡ record { start = 0; len = 0 }
  span-ended k h = ap (λ (n : ℕ). cell_span s p n) (add-one k) ∙ ap (λ (ts : List (List ℕ)). span_in p ts (suc k)) (cells-ended s p h) ∙ span-on p (cell_at 44 s p) [] k ∙ span_past (p + length (cell_at 44 s p) + 1) k

  pub span-fed : (k : ℕ) → get_or s (cell_end 44 s p) 0 ≡ 10 → cell_span s p (k + 1) ≡ record { start = 0; len = 0 }
  span-fed k h = ap (λ (n : ℕ). cell_span s p n) (add-one k) ∙ ap (λ (ts : List (List ℕ)). span_in p ts (suc k)) (cells-fed s p h) ∙ span-on p (cell_at 44 s p) [] k ∙ span_past (p + length (cell_at 44 s p) + 1) k

  -- the next cell's
  pub span-next : (k : ℕ) → cell_end 44 s p < length s → (get_or s (cell_end 44 s p) 0 ≡ 10 → ⊥) → cell_span s p (k + 1) ≡ cell_span s (cell_end 44 s p + 1) k
  unfolding cell_end
  span-next k l h =
      ap (λ (n : ℕ). cell_span s p n) (add-one k) ∙ ap (λ (ts : List (List ℕ)). span_in p ts (suc k)) (cells_parted s p l h)
      ∙ span-on p (cell_at 44 s p) (pieces 44 (line_at s (cell_end 44 s p + 1))) k

  -- the first cell's
  pub span_own : (q : ℕ) → q ≡ cell_end 44 s p → cell_span s p 0 ≡ record { start = p; len = q - p }
  unfolding cell_end
  span_own q h = span-here p (cell_at 44 s p) (later_pieces 44 (line_at s p)) ∙ (λ d. record { start = p; len = len_is d })
    where
      len_is : length (cell_at 44 s p) ≡ q - p
      len_is = omega (arith, h)
