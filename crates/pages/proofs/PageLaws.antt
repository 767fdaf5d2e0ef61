-- Texts laid out one after another.
use Prim.Native.Nat.{ℕ, ◌+◌, ◌≤◌, ◌<◌}
use mathlib.Core.Path.{◌≡◌, refl, sym, ap, ◌∙◌}
use mathlib.Core.Bool.{Bool, true, false, cond}
use mathlib.Core.List.{List, [], ◌∷◌, ◌++◌}
use native.Mathlib.Nat.{add-zero, zero-add}
use native.Mathlib.Numerals.{add-one}
use native.Mathlib.Omega.{arith}
use lib.ListN.{length, get_or, set, drop, length-set, length-append}
use lib.Seq.{drop-cons, drop-length, set_at, append_snoc}
use lib.Dec.{ltb}
use borrow.Author.Tests.{lt-ltb, le-ltb}
use Rattle.pages.specs.Pages.{Page, page, lay_byte, lay}

-- one byte
module _ (s : List ℕ) (at x : ℕ) where
  pub byte_put : at < length s → page (set s at x) (at + 1) ≡ lay_byte (page s at) x
  unfolding lay_byte
  byte_put h = rw (lt-ltb at (length s) h)

  pub byte_left : length s ≤ at → page s at ≡ lay_byte (page s at) x
  unfolding lay_byte
  byte_left h = rw (le-ltb at (length s) h)

-- a text: at its end, and one byte more
module _ (p : Page) (t : List ℕ) (i : ℕ) where
  pub text-end : length t ≤ i → i ≤ length t → lay p (drop i t) ≡ p
  unfolding lay
  text-end h l = let e : i ≡ length t = omega arith in rw (e, drop-length)

  pub text-step : i < length t → lay p (drop i t) ≡ lay (lay_byte p (get_or t i 0)) (drop (i + 1) t)
  unfolding lay
  text-step h = rw (add-one i, drop-cons t i 0 h)

-- two texts
pub lay-append : (t u : List ℕ) (p : Page) → lay p (t ++ u) ≡ lay (lay p t) u
unfolding lay
lay-append [] u p = refl
lay-append (x ∷ t) u p = lay-append t u (lay_byte p x)

-- a text put after another
pub put-after : (s s₁ s₂ : List ℕ) (at r₁ r₂ : ℕ) (t u : List ℕ) → page s₁ r₁ ≡ lay (page s at) t → page s₂ r₂ ≡ lay (page s₁ r₁) u → page s₂ r₂ ≡ lay (page s at) (t ++ u)
put-after s s₁ s₂ at r₁ r₂ t u e d = d ∙ ap (λ (p : Page). lay p u) e ∙ sym (lay-append t u (page s at))

-- the room stays as long as it is
byte-long : (p : Page) (x : ℕ) → length (lay_byte p x).room ≡ length p.room
unfolding lay_byte
byte-long p x = go (ltb p.at (length p.room))
  where
    go : (b : Bool) → length (cond b (page (set p.room p.at x) (p.at + 1)) p).room ≡ length p.room
    go true = length-set p.room p.at x
    go false = refl

lay-long : (t : List ℕ) (p : Page) → length (lay p t).room ≡ length p.room
unfolding lay
lay-long [] p = refl
lay-long (x ∷ t) p = lay-long t (lay_byte p x) ∙ byte-long p x

module _ (s u : List ℕ) (at r : ℕ) where
  pub byte-room : (x : ℕ) → page u r ≡ lay_byte (page s at) x → length u ≡ length s
  byte-room x e = ap (λ (p : Page). length p.room) e ∙ byte-long (page s at) x

  pub text-room : (t : List ℕ) → page u r ≡ lay (page s at) t → length u ≡ length s
  text-room t e = ap (λ (p : Page). length p.room) e ∙ lay-long t (page s at)

-- a text that there is room for: it stands at its place, with what was before it and after it
lay_at : (t a b : List ℕ) → length t ≤ length b → lay (page (a ++ b) (length a)) t ≡ page (a ++ (t ++ drop (length t) b)) (length a + length t)
unfolding lay
lay_at [] a b h = ap (page (a ++ b)) (sym (add-zero (length a)))
lay_at (x ∷ t) a [] h = absurd (omega arith)
lay_at (x ∷ t) a (y ∷ b) h =
    let long : length (a ++ x ∷ []) ≡ length a + 1 = length-append a (x ∷ []) in
    let room : length a < length (a ++ y ∷ b) = rw (length-append a (y ∷ b)) (omega arith) in
    let put : lay_byte (page (a ++ y ∷ b) (length a)) x ≡ page ((a ++ x ∷ []) ++ b) (length (a ++ x ∷ [])) =
    sym (byte_put (a ++ y ∷ b) (length a) x room) ∙ ap (λ (s : List ℕ). page s (length a + 1)) (set_at a y b x (length a) refl ∙ sym (append_snoc a x b)) ∙ ap (page ((a ++ x ∷ []) ++ b)) (sym long) in
    ap (λ (p : Page). lay p t) put ∙ lay_at t (a ++ x ∷ []) b (omega arith)
    ∙ ap (λ (s : List ℕ). page s (length (a ++ x ∷ []) + length t)) (append_snoc a x (t ++ drop (length t) b)) ∙ ap (page (a ++ x ∷ (t ++ drop (length t) b))) (omega (arith, long))

pub lay-fits : (s t : List ℕ) → length t ≤ length s → lay (page s 0) t ≡ page (t ++ drop (length t) s) (length t)
lay-fits s t h = lay_at t [] s h ∙ ap (page (t ++ drop (length t) s)) (zero-add (length t))
