-- Rules 3, 4 and 5 of a line: the searches by an index, and lines of plain bytes, which break none of them.
use Prim.Native.Nat.{ℕ, zero, suc, pred, ◌+◌, ◌-◌, ◌≤◌, ◌<◌}
use mathlib.Core.Path.{◌≡◌, refl, sym, ap, ◌∙◌}
use mathlib.Core.List.{List, [], ◌∷◌}
use mathlib.Core.Bool.{Bool, true, false, cond, not, and-eq-true_iff}
use native.Mathlib.Nat.{le_refl, add-zero, suc-add, add-suc}
use native.Mathlib.Omega.{arith}
use lib.ListN.{length, take, drop, length-drop, drop_of_length-le}
use lib.Seq.{drop-cons, drop-drop, take_all}
use lib.Dec.{leb, eqb}
use borrow.Author.Tests.{eq-eqb, ne_eqb, le-ltb, leb-true}
use Rattle.std.specs.Prelude.{position, Some, None}
use Rattle.std.proofs.lemmas.List.Quantifiers.{position-Some}
use Rattle.line_bytes.specs.Inner.Lines.{is_plain}
use Rattle.line_bytes.specs.Bytes.{every}
use Rattle.line_bytes.specs.Lines.{ill_from, ill_formed, is_return, return_at, is_control, control_at}
use Rattle.utf8.specs.Syntax.{alternatives, character_in, character}
use Rattle.utf8.specs.Rows.{rows_in}
use Rattle.utf8.proofs.CharacterLaws.{character_ascii, character_in_lem}
use Rattle.utf8.proofs.RowLaws.{rows-character}
use Rattle.line_bytes.proofs.EveryLaws.{every-cons, nowhere-none, position-every}

-- a character that has been read is passed over
skip : (xs : List ℕ) (i k : ℕ) → ill_from i k xs ≡ ill_from (i + k) 0 (drop k xs)
unfolding ill_from
skip xs i zero = rw add-zero
skip [] i (suc k) = refl
skip (x ∷ xs) i (suc k) = skip xs (suc i) k ∙ ap (λ (n : ℕ). ill_from n 0 (drop k xs)) (suc-add i k ∙ sym (add-suc i k))

stop : (x : ℕ) (xs : List ℕ) (i : ℕ) → character (x ∷ xs) ≡ 0 → ill_from i 0 (x ∷ xs) ≡ Some i
unfolding ill_from
stop x xs i e = rw (eq-eqb _ 0 e)

step : (x : ℕ) (xs : List ℕ) (i n : ℕ) → character (x ∷ xs) ≡ n → (n ≡ 0 → ⊥) → ill_from i 0 (x ∷ xs) ≡ ill_from (i + n) 0 (drop n (x ∷ xs))
unfolding ill_from
step x xs i zero e z = absurd (z refl)
step x xs i (suc k) e z = rw (e, ne_eqb (suc k) 0 z) (skip (x ∷ xs) i (suc k))

module _ (s : List ℕ) (i : ℕ) where
  -- the character at i, by a table of the alternatives and the bytes from i on
  pub character_at : (t : List (List ℕ)) (n : ℕ) → rows_in t ≡ alternatives → n ≡ character_in (rows_in t) (take (length s - i) (drop i s)) → character (drop i s) ≡ n
  character_at t n e h =
      let l : length (drop i s) ≤ length s - i = rw length-drop (le_refl _) in
      rw (take_all (length s - i) (drop i s) l) at (rows-character t _ n e h)

  pub character-room : (n : ℕ) → i < length s → character (drop i s) ≡ n → i + n ≤ length s
  character-room n h e = omega (arith, e, character_in_lem (drop i s), length-drop i s)

  pub ill-end : length s ≤ i → ill_from i 0 (drop i s) ≡ None
  unfolding ill_from
  ill-end h = rw (drop_of_length-le s h)

  pub ill-stop : i < length s → character (drop i s) ≡ 0 → ill_from i 0 (drop i s) ≡ Some i
  ill-stop h e = let d = drop-cons s i 0 h in rw d (stop _ _ i (rw d at e))

  pub ill-step : (n : ℕ) → i < length s → character (drop i s) ≡ n → (n ≡ 0 → ⊥) → ill_from i 0 (drop i s) ≡ ill_from (i + n) 0 (drop (i + n) s)
  ill-step n h e z =
      let d = drop-cons s i 0 h in
      let f : ill_from i 0 (drop i s) ≡ ill_from (i + n) 0 (drop n (drop i s)) = rw d (step _ _ i n (rw d at e) z) in
      f ∙ rw drop-drop

-- ---- plain bytes
plain : (x : ℕ) → is_plain x ≡ true → (0x20 ≤ x) × (x ≤ 0x7e)
plain x e =
    let w = (and-eq-true_iff (leb 0x20 x) (leb x 0x7e)).0 e in
    (leb-true 0x20 x w.0, leb-true x 0x7e w.1)

plain_ill : (xs : List ℕ) (i : ℕ) → every is_plain xs ≡ true → ill_from i 0 xs ≡ None
unfolding ill_from
plain_ill [] i e = refl
plain_ill (x ∷ xs) i e =
    let w = every-cons is_plain x xs e in
    rw (character_ascii x xs (omega (arith, plain x w.0))) (plain_ill xs (suc i) w.1)

plain-first : (p : ℕ → Bool) → ((x : ℕ) → is_plain x ≡ true → p x ≡ false) → (xs : List ℕ) → every is_plain xs ≡ true → position p xs ≡ None
unfolding every
plain-first p f xs e = nowhere-none (position p xs) (position-every p xs ∙ go xs e)
  where
    go : (xs : List ℕ) → every is_plain xs ≡ true → every (λ (x : ℕ). not (p x)) xs ≡ true
    go [] e = refl
    go (x ∷ xs) e = let w = every-cons is_plain x xs e in rw (f x w.0) (go xs w.1)

module _ (xs : List ℕ) (e : every is_plain xs ≡ true) where
  pub plain_well_formed : ill_formed xs ≡ None
  unfolding ill_formed
  plain_well_formed = plain_ill xs 0 e

  pub plain_no_return : return_at xs ≡ None
  unfolding return_at
  plain_no_return = plain-first is_return (λ x h. ne_eqb x 0x0d (λ q. omega (arith, plain x h))) xs e

  pub plain_no_control : control_at xs ≡ None
  unfolding control_at
  plain_no_control =
      plain-first is_control
      (λ x h. rw (le-ltb x 0x20 (plain x h).0, ne_eqb x 0x7f (λ q. omega (arith, plain x h)))) xs e

-- ---- a byte that is found stands in the line
ill-inside : (xs : List ℕ) (i k j : ℕ) → ill_from i k xs ≡ Some j → j < i + length xs
unfolding ill_from
ill-inside [] i k j e = let z : ◌≡◌ {A = ℕ} 0 1 = cc in absurd (omega arith)
ill-inside (x ∷ xs) i (suc k) j e = omega (arith, ill-inside xs (suc i) k j e)
ill-inside (x ∷ xs) i zero j e = go (eqb (character (x ∷ xs)) 0) (character (x ∷ xs)) e (λ (m : ℕ). ill-inside xs (suc i) m j)
  where
    go : (b : Bool) (m : ℕ) → cond b (Some i) (ill_from (suc i) (pred m) xs) ≡ Some j → ((m : ℕ) → ill_from (suc i) m xs ≡ Some j → j < suc i + length xs) → j < i + suc (length xs)
    go true m e f = let z : i ≡ j = cc in omega arith
    go false m e f = omega (arith, f _ e)

module _ (x : List ℕ) (j : ℕ) where
  pub ill_formed-inside : ill_formed x ≡ Some j → j < length x
  unfolding ill_formed
  ill_formed-inside e = omega (arith, ill-inside x 0 0 j e)

  pub return-inside : return_at x ≡ Some j → j < length x
  unfolding return_at
  return-inside e = (position-Some _ x j 0 e).0

  pub control-inside : control_at x ≡ Some j → j < length x
  unfolding control_at
  control-inside e = (position-Some _ x j 0 e).0
