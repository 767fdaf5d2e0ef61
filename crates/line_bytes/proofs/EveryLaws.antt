-- A test at every byte: its two parts at a byte, its steps by an index, and the same said by std's words.
use Prim.Native.Nat.{ℕ, suc, ◌+◌, ◌≤◌, ◌<◌}
use mathlib.Core.Path.{◌≡◌, refl, sym}
use mathlib.Core.List.{List, ◌∷◌, [], ◌++◌}
use mathlib.Core.Bool.{Bool, true, false, false≢true, and-eq-true_iff, ◌&&◌, and_assoc, cond, not}
use native.Mathlib.Numerals.{add-one, one-add}
use lib.Dec.{ltb}
use borrow.Author.Tests.{lt-ltb}
use Prim.Native.Nat.compare
use native.Mathlib.Omega.{arith}
use lib.ListN.{length, get_or, drop, drop_of_length-le}
use lib.Seq.{drop-cons}
use Rattle.std.specs.Prelude.{position, Option, Some, None}
use Rattle.std.specs.List.{list_all, prefix_len}
use Rattle.line_bytes.specs.Bytes.{every}

module _ (p : ℕ → Bool) where
  pub every-cons : (x : ℕ) (xs : List ℕ) → every p (x ∷ xs) ≡ true → (p x ≡ true) × (every p xs ≡ true)
  unfolding every
  every-cons x xs e = (and-eq-true_iff (p x) (every p xs)).0 e

  pub every-end : (s : List ℕ) (i : ℕ) → length s ≤ i → every p (drop i s) ≡ true
  unfolding every
  every-end s i h = rw (drop_of_length-le s h)

  pub every-stop : (s : List ℕ) (i : ℕ) → i < length s → p (get_or s i 0) ≡ false → every p (drop i s) ≡ false
  unfolding every
  every-stop s i h e = rw (drop-cons s i 0 h) (rw e)

  pub every-step : (s : List ℕ) (i : ℕ) → i < length s → p (get_or s i 0) ≡ true → every p (drop i s) ≡ every p (drop (i + 1) s)
  unfolding every
  every-step s i h e = rw (add-one i, drop-cons s i 0 h) (rw e)

-- at every byte of two texts, one after the other
pub every_append : (f : ℕ → Bool) (xs ys : List ℕ) → every f (xs ++ ys) ≡ (every f xs && every f ys)
unfolding every
every_append f [] ys = refl
every_append f (x ∷ xs) ys = rw (every_append f xs ys) (sym (and_assoc (f x) (every f xs) (every f ys)))

-- ---- as std says it
pub every_listed : (f : ℕ → Bool) (xs : List ℕ) → list_all f xs ≡ every f xs
unfolding every
every_listed f [] = refl
every_listed f (x ∷ xs) = rw (every_listed f xs)

-- no byte is found
abbrev pub nowhere : Option ℕ → Bool
nowhere (Some i) = false
nowhere None = true

pub nowhere-none : (r : Option ℕ) → nowhere r ≡ true → r ≡ None
nowhere-none (Some i) e = absurd (false≢true e)
nowhere-none None e = refl

some_fails : (f : ℕ → Bool) (xs : List ℕ) → ltb (prefix_len f xs) (length xs) ≡ not (every f xs)
unfolding every
some_fails f [] = refl
some_fails f (x ∷ xs) = go (f x) (some_fails f xs)
  where
    go : (b : Bool) → ltb (prefix_len f xs) (length xs) ≡ not (every f xs) → ltb (cond b (1 + prefix_len f xs) 0) (suc (length xs)) ≡ not (b && every f xs)
    go true h = rw (one-add (prefix_len f xs), compare.suc-suc) h
    go false h = lt-ltb 0 (suc (length xs)) (omega arith)

pub position-every : (p : ℕ → Bool) (xs : List ℕ) → nowhere (position p xs) ≡ every (λ (x : ℕ). not (p x)) xs
position-every p xs = rw (some_fails f xs) (go (every f xs))
  where
    f : ℕ → Bool
    f x = not (p x)

    go : (b : Bool) → nowhere (cond (not b) (Some (prefix_len f xs)) None) ≡ b
    go true = refl
    go false = refl
