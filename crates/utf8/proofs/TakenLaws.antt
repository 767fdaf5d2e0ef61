-- A sequence is taken exactly if a row takes it, and by that row's length: the first bytes of the alternatives rise from row to row, so no two rows take the same
-- bytes.
--   taken_exactly : TakenExactly
use Prim.Native.Nat.{ℕ, suc, ◌≤◌}
use mathlib.Core.Path.{◌≡◌, refl, sym, ap, ◌∙◌}
use mathlib.Core.Logic.{inl, inr, ◌↔◌}
use mathlib.Core.List.{List, [], ◌∷◌}
use mathlib.Core.Bool.{Bool, true, false, cond, ◌&&◌, true≢false, and-eq-true_iff}
use native.Mathlib.Omega.{arith}
use lib.ListN.{length}
use lib.Dec.{leb}
use borrow.Author.Tests.{leb-true}
use Rattle.utf8.specs.Syntax.{Range, within, alternatives, takes, character_in, character}
use Rattle.utf8.specs.Rows.{rows_in}
use Rattle.utf8.specs.Promises.{TakenBy, TakenExactly}

-- each row has a first range, which is not empty, begins at b or above, and above that of the row before
unfoldable rise : ℕ → List (List Range) → Bool
rise b [] = true
rise b ([] ∷ others) = false
rise b ((r ∷ rs) ∷ others) = leb b r.low && (leb r.low r.high && rise (suc r.high) others)

rise-first : (b : ℕ) (r : Range) (rs : List Range) (others : List (List Range)) → rise b ((r ∷ rs) ∷ others) ≡ true
    → (b ≤ r.low) × (r.low ≤ r.high) × (rise (suc r.high) others ≡ true)
unfolding rise
rise-first b r rs others h =
    let p = (and-eq-true_iff (leb b r.low) (leb r.low r.high && rise (suc r.high) others)).0 h in
    let q = (and-eq-true_iff (leb r.low r.high) (rise (suc r.high) others)).0 p.1 in
    (leb-true _ _ p.0, leb-true _ _ q.0, q.1)

within_first : (r : Range) (rs : List Range) (x : ℕ) (xs : List ℕ) → takes (r ∷ rs) (x ∷ xs) ≡ true → (r.low ≤ x) × (x ≤ r.high)
within_first r rs x xs e =
    let w = ((and-eq-true_iff (within r x) (takes rs xs)).0 e).0 in
    let v = (and-eq-true_iff (leb r.low x) (leb x r.high)).0 w in
    (leb-true _ _ v.0, leb-true _ _ v.1)

module _ (n : ℕ) where
  -- what such rows take begins with b or above
  above : (rows : List (List Range)) (b x : ℕ) (xs : List ℕ) → rise b rows ≡ true → TakenBy rows (x ∷ xs) n → b ≤ x
  unfolding rise
  above [] b x xs h w = absurd w
  above ([] ∷ others) b x xs h w = absurd (true≢false (sym h))
  above ((r ∷ rs) ∷ others) b x xs h (inl w) = omega (arith, (rise-first b r rs others h).0, (within_first r rs x xs w.0).0)
  above ((r ∷ rs) ∷ others) b x xs h (inr w) =
      let s = rise-first b r rs others h in
      omega (arith, s.0, s.1, above others (suc r.high) x xs s.2 w)

  -- the row that takes the bytes is the first that does
  decides : (rows : List (List Range)) (b : ℕ) (xs : List ℕ) → rise b rows ≡ true → TakenBy rows xs n → character_in rows xs ≡ n
  unfolding rise
  decides [] b xs h w = absurd w
  decides ([] ∷ others) b xs h w = absurd (true≢false (sym h))
  decides ((r ∷ rs) ∷ others) b xs h (inl w) = rw w.0 w.1
  decides ((r ∷ rs) ∷ others) b [] h (inr w) = decides others (suc r.high) [] (rise-first b r rs others h).2 w
  decides ((r ∷ rs) ∷ others) b (x ∷ xs) h (inr w) = go (takes (r ∷ rs) (x ∷ xs)) refl (decides others (suc r.high) (x ∷ xs) s.2 w)
    where
      s : (b ≤ r.low) × (r.low ≤ r.high) × (rise (suc r.high) others ≡ true)
      s = rise-first b r rs others h

      go : (t : Bool) → takes (r ∷ rs) (x ∷ xs) ≡ t → character_in others (x ∷ xs) ≡ n → cond t (length (r ∷ rs)) (character_in others (x ∷ xs)) ≡ n
      go true e k = absurd (omega (arith, (within_first r rs x xs e).1, above others (suc r.high) x xs s.2 w))
      go false e k = k

  long : (rows : List (List Range)) (b : ℕ) (xs : List ℕ) → rise b rows ≡ true → TakenBy rows xs n → 1 ≤ n
  unfolding rise
  long [] b xs h w = absurd w
  long ([] ∷ others) b xs h w = absurd (true≢false (sym h))
  long ((r ∷ rs) ∷ others) b xs h (inl w) = omega (arith, w.1)
  long ((r ∷ rs) ∷ others) b xs h (inr w) = long others (suc r.high) xs (rise-first b r rs others h).2 w

  found : (rows : List (List Range)) (xs : List ℕ) → character_in rows xs ≡ n → 1 ≤ n → TakenBy rows xs n
  found [] xs e h = absurd (omega arith)
  found (a ∷ others) xs e h = go (takes a xs) refl e (λ q. found others xs q h)
    where
      go : (t : Bool) → takes a xs ≡ t → cond t (length a) (character_in others xs) ≡ n → (character_in others xs ≡ n → TakenBy others xs n) → TakenBy (a ∷ others) xs n
      go true p q k = inl (p, q)
      go false p q k = inr (k q)

exactly : (rows : List (List Range)) → rise 0 rows ≡ true → (xs : List ℕ) (n : ℕ) → ((character_in rows xs ≡ n) × (1 ≤ n)) ↔ TakenBy rows xs n
exactly rows h xs n = ((λ w. found n rows xs w.0 w.1), (λ w. (decides n rows 0 xs h w, long n rows 0 xs h w)))

-- the test, computed over the nine rows
alternatives_rise : rise 0 alternatives ≡ true
unfolding rise
alternatives_rise = refl

pub taken_exactly : TakenExactly
unfolding character
taken_exactly = record {
  rule = exactly alternatives alternatives_rise;
  call = λ t e. exactly (rows_in t) (ap (rise 0) e ∙ alternatives_rise);
}
