-- Line 1: what its rules say at each return, and what its callers have of it.
use Prim.Native.Nat.{ℕ, ◌+◌, ◌-◌, ◌≤◌, ◌<◌}
use mathlib.Core.Path.{◌≡◌, refl, sym, ap, ◌∙◌}
use mathlib.Core.List.{List, [], ◌∷◌}
use mathlib.Core.Bool.{Bool, true, false, cond, not, ◌||◌}
use native.Mathlib.Omega.{arith}
use lib.ListN.{length, take, length-take}
use lib.Dec.{eqb}
use borrow.Author.Tests.{eq-eqb, ne_eqb, eqb-true, eqb-false}
use Rattle.line_bytes.specs.Bytes.{equal}
use Rattle.line_bytes.specs.Cells.{first_piece, line_at, cell_end}
use Rattle.line_bytes.proofs.SpaceLaws.{slice-take}
use Rattle.std.specs.Prelude.{nat_eq, Some, None, Ok, Err}
use Rattle.std.specs.List.{starts_with}
use lib.Pointwise.{pointwise}
use Rattle.line_one.specs.declared.First.{First}
use Rattle.format.specs.declared.BrokenRule.{BrokenRule}
use Rattle.format.specs.declared.FileKind.{FileKind}
use Rattle.format.specs.declared.FileKind.TheVariants.{Bottle, Ctd}
use Rattle.format.specs.Faults.{Fault, clean, breaks, ◌then◌, first_of, unless}
use Rattle.format.specs.Places.{is_mark, is_bottle, is_ctd, first_line_rules}
use Rattle.format.specs.Inner.Lines.{line_fault_at, line_of}
use Rattle.line_one.specs.Inner.First.{kind_said, first_fault, first_by, first_for}
use Rattle.format.proofs.GridWalkLaws.{cell-slice}
use Rattle.format.proofs.RunLaws.{piece_in, piece-take, line_ok, line_err, line-ends}
use Rattle.format.proofs.FaultLaws.{breaks-clean}
use Rattle.line_bytes.proofs.EqualLaws.{equal_lengths}

-- ---- the text before line 1's first comma
pub word-inside : (s : List ℕ) (q : ℕ) → q ≡ cell_end 44 s 0 → q ≤ length s
unfolding cell_end
word-inside s q e = omega (arith, e, piece_in 44 (line_at s 0), piece_in 10 s)

first_word : (s : List ℕ) (q : ℕ) → q ≡ cell_end 44 s 0 → take q s ≡ first_piece 44 (line_at s 0)
first_word s q e =
    let n : cell_end 44 s 0 - 0 ≡ cell_end 44 s 0 = omega arith in
    ap (λ (k : ℕ). take k s) (e ∙ sym n) ∙ sym (slice-take 0 (cell_end 44 s 0) s) ∙ cell-slice 44 s 0

pub word_is : (s : List ℕ) (q : ℕ) → q ≡ cell_end 44 s 0 → (w : List ℕ) (r : Bool) → r ≡ equal (take q s) w → equal (first_piece 44 (line_at s 0)) w ≡ r
word_is s q e w r h = sym (h ∙ ap (λ (x : List ℕ). equal x w) (first_word s q e))

-- ---- the mark of UTF-8
eqb-swap : (x y : ℕ) → eqb y x ≡ eqb x y
eqb-swap x y = go (eqb x y) refl
  where
    go : (b : Bool) → eqb x y ≡ b → eqb y x ≡ b
    go true e = eq-eqb y x (sym (eqb-true x y e))
    go false e = ne_eqb y x (λ z. eqb-false x y e (sym z))

same-bytes : (ys xs : List ℕ) → pointwise nat_eq ys xs ≡ equal xs ys
unfolding equal
same-bytes [] [] = refl
same-bytes [] (x ∷ xs) = refl
same-bytes (y ∷ ys) [] = refl
same-bytes (y ∷ ys) (x ∷ xs) = rw (eqb-swap x y, same-bytes ys xs)

pub mark-starts : (x : List ℕ) → starts_with nat_eq x (0xef ∷ 0xbb ∷ 0xbf ∷ []) ≡ is_mark x
mark-starts x = same-bytes (0xef ∷ 0xbb ∷ 0xbf ∷ []) (take 3 x)

-- ---- line 1, as `first_line` reads it
pub first-refused : (s : List ℕ) (b : BrokenRule) → first_fault s ≡ breaks b.number b.column → Err b ≡ first_for s
unfolding first_by
first-refused s b e = ap (λ (f : Fault). first_by f s) (sym e)

pub first-none : (s : List ℕ) → length s ≡ 0 → first_fault s ≡ breaks 14 1
unfolding first_fault
first-none s h = rw (eq-eqb (length s) 0 h)

module _ (s : List ℕ) (h : length s ≡ 0 → ⊥) where
  pub first_some : first_fault s ≡ (line_fault_at true s 0 then first_of (first_line_rules (line_at s 0)))
  unfolding first_fault
  first_some = rw (ne_eqb (length s) 0 h)

  pub first_broken : (b : BrokenRule) → line_of true s 0 ≡ Err b → first_fault s ≡ breaks b.number b.column
  first_broken b e = first_some ∙ ap (λ (f : Fault). f then first_of (first_line_rules (line_at s 0))) (line_err true s 0 b e)

  module _ (q : ℕ) (z : line_of true s 0 ≡ Ok q) where
    -- its text
    first-text : take q s ≡ line_at s 0
    first-text =
        let d : q ≡ length (line_at s 0) = omega (arith, (line-ends true s 0 q z).0) in
        ap (λ (k : ℕ). take k s) d ∙ piece-take 10 s

    first_rules : first_fault s ≡ (unless (not (is_mark (line_at s 0))) 6 1 then unless (is_bottle (line_at s 0) || is_ctd (line_at s 0)) 7 1 then clean)
    unfolding first_line_rules first_of
    first_rules = first_some ∙ ap (λ (f : Fault). f then first_of (first_line_rules (line_at s 0))) (line_ok true s 0 q z)

    pub first_marked : is_mark (take q s) ≡ true → first_fault s ≡ breaks 6 1
    first_marked m =
        let a : is_mark (line_at s 0) ≡ true = rw first-text at m in
        first_rules ∙ rw a

    module _ (m : is_mark (take q s) ≡ false) where
      first-kinds : first_fault s ≡ (unless (is_bottle (line_at s 0) || is_ctd (line_at s 0)) 7 1 then clean)
      first-kinds =
          let a : is_mark (line_at s 0) ≡ false = rw first-text at m in
          first_rules ∙ rw a

      pub first_neither : kind_said (line_at s 0) ≡ None → first_fault s ≡ breaks 7 1
      first_neither w = first-kinds ∙ go (is_bottle (line_at s 0)) (is_ctd (line_at s 0)) w
        where
          go : (a b : Bool) → cond a (Some Bottle) (cond b (Some Ctd) None) ≡ None → (unless (a || b) 7 1 then clean) ≡ breaks 7 1
          go true b h = absurd cc
          go false true h = absurd cc
          go false false h = refl

      pub first_good : (kind : FileKind) → kind_said (line_at s 0) ≡ Some kind → Ok (record { at = q + 1; kind = kind }) ≡ first_for s
      unfolding first_by
      first_good kind w =
          let f = go (is_bottle (line_at s 0)) (is_ctd (line_at s 0)) w in
          let d : q + 1 ≡ length (line_at s 0) + 1 = omega (arith, (line-ends true s 0 q z).0) in
          (λ j. Ok (record { at = d j; kind = f.1 j })) ∙ ap (λ (g : Fault). first_by g s) (sym (first-kinds ∙ f.0))
        where
          go : (a b : Bool) → cond a (Some Bottle) (cond b (Some Ctd) None) ≡ Some kind → ((unless (a || b) 7 1 then clean) ≡ clean) × (kind ≡ cond a Bottle Ctd)
          go true b h = (refl, cc)
          go false true h = (refl, cc)
          go false false h = absurd cc

-- ---- what a caller has of it
module _ (s : List ℕ) where
  pub first-breaks : (b : BrokenRule) → first_for s ≡ Err b → first_fault s ≡ breaks b.number b.column
  unfolding first_by
  first-breaks b e = go (first_fault s) e
    where
      go : (g : Fault) → first_by g s ≡ Err b → g ≡ breaks b.number b.column
      go clean p = absurd cc
      go (breaks n c) p = let k : record { number = n; column = c } ≡ b = cc in rw (← k)

  module _ (r : First) (e : first_for s ≡ Ok r) where
    read : (g : Fault) → first_by g s ≡ Ok r → (g ≡ clean) × (r.at ≡ length (line_at s 0) + 1) × (r.kind ≡ cond (is_bottle (line_at s 0)) Bottle Ctd)
    unfolding first_by
    read clean p =
        let k : r ≡ record { at = length (line_at s 0) + 1; kind = cond (is_bottle (line_at s 0)) Bottle Ctd } = cc in
        rw k (refl, refl, refl)
    read (breaks n c) p = absurd cc

    pub first-clean : first_fault s ≡ clean
    first-clean = (read (first_fault s) e).0

    -- the file is not empty; where the next line starts, and the kind
    pub first_full : length s ≡ 0 → ⊥
    first_full h = breaks-clean 14 1 (sym (first-none s h) ∙ first-clean)

    pub first_next : (r.at ≡ length (line_at s 0) + 1) × (r.kind ≡ cond (is_bottle (line_at s 0)) Bottle Ctd)
    first_next = let w = read (first_fault s) e in (w.1, w.2)

-- ---- a line that is too short for the mark
pub mark-short : (x : List ℕ) → length x < 3 → false ≡ is_mark x
mark-short x h = sym (equal_lengths (take 3 x) (0xef ∷ 0xbb ∷ 0xbf ∷ []) (λ e. omega (arith, length-take 3 x)))
