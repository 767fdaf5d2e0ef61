-- The keys of two rows, by the texts of their cells.
use Prim.Native.Nat.{ℕ, ◌+◌, ◌-◌, ◌<◌}
use mathlib.Core.Path.{◌≡◌, refl, sym, ap, ◌∙◌}
use mathlib.Core.List.{List, []}
use mathlib.Core.Bool.{Bool, true, false, not, ◌&&◌, true≢false}
use native.Mathlib.Omega.{arith}
use lib.ListN.{length, take, drop}
use lib.Seq.{slice}
use lib.Dec.{leb, eqb}
use borrow.Author.Tests.{leb-true, leb-false, eq-eqb, ne_eqb}
use Rattle.line_bytes.specs.declared.Span.{Span}
use Rattle.line_bytes.specs.Bytes.{equal}
use Rattle.line_bytes.specs.Spaces.{trim_front, trim_end, trim}
use Rattle.line_bytes.proofs.SpaceLaws.{slice-take, span-bytes, span_past}
use Rattle.format.specs.Inner.Names.{text_in}
use Rattle.format.specs.Inner.Rows.{span_text}
use Rattle.format.specs.Profiles.{Key, same_key}

-- ---- the text of a span
trim-none : trim [] ≡ []
unfolding trim trim_front trim_end
trim-none = refl

module _ (s : List ℕ) (x : Span) where
  pub span_none : length s < x.start + x.len → [] ≡ span_text s x
  unfolding span_text
  span_none h = ap (λ (p : Span). take p.len (drop p.start s)) (span_past s x.start (x.start + x.len) (omega arith) h)

  pub span-some : (u : List ℕ) → u ≡ text_in s x.start (x.start + x.len) → u ≡ span_text s x
  unfolding span_text
  span-some u e = e

  pub span_empty : x.len ≡ 0 → span_text s x ≡ []
  span_empty z = go (leb (x.start + x.len) (length s)) refl
    where
      go : (b : Bool) → leb (x.start + x.len) (length s) ≡ b → span_text s x ≡ []
      go true h =
          let n : (x.start + x.len) - x.start ≡ 0 = omega (arith, z) in
          let e : slice x.start (x.start + x.len) s ≡ [] = slice-take x.start (x.start + x.len) s ∙ ap (λ (m : ℕ). take m (drop x.start s)) n in
          sym (span-some [] (sym (span-bytes s x.start (x.start + x.len) (omega arith) (leb-true (x.start + x.len) (length s) h) ∙ ap trim e ∙ trim-none)))
      go false h = sym (span_none (omega (arith, leb-false (x.start + x.len) (length s) h)))

pub spans_empty : (s : List ℕ) (x y : Span) → (x.len ≡ 0) × (y.len ≡ 0) → true ≡ equal (span_text s x) (span_text s y)
unfolding equal
spans_empty s x y h = rw (span_empty s x h.0, span_empty s y h.1)

-- ---- two keys compared
pub texts-equal : (r : Bool) (u v a b : List ℕ) → r ≡ equal u v → u ≡ a → v ≡ b → r ≡ equal a b
texts-equal r u v a b h p q = h ∙ ap (λ (w : List ℕ). equal w v) p ∙ ap (equal a) q

module _ (x y : Key) where
  pub key-castno : (x.castno ≡ y.castno → ⊥) → false ≡ same_key x y
  key-castno h = rw (ne_eqb x.castno y.castno h)

  pub key-stnnbr : (r : Bool) → r ≡ equal x.stnnbr y.stnnbr → not r ≡ true → false ≡ same_key x y
  key-stnnbr true e h = absurd (true≢false (sym h))
  key-stnnbr false e h = rw (sym e) (go (eqb x.castno y.castno))
    where
      go : (b : Bool) → false ≡ (b && false)
      go true = refl
      go false = refl

  pub key-expocode : (r q : Bool) → x.castno ≡ y.castno → not r ≡ false → r ≡ equal x.stnnbr y.stnnbr → q ≡ equal x.expocode y.expocode → q ≡ same_key x y
  key-expocode false q c h e f = absurd (true≢false h)
  key-expocode true q c h e f = rw (eq-eqb x.castno y.castno c, sym e) f
