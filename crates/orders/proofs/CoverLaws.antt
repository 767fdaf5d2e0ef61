-- Writes that are all made again: the later ones alone. The later may have more.
use mathlib.Core.Path.{◌≡◌, refl, ap, ◌∙◌}
use mathlib.Core.List.{List, [], ◌∷◌}
use mathlib.Core.Logic.{◌⊎◌, inl, inr}
use mathlib.Core.Bool.{Bool, true, false}
use lib.Dec.{eqb}
use borrow.Author.Tests.{eqb-true, eqb-false}
use Rattle.laws.proofs.JoinLaws.{All}
use Rattle.orders.proofs.GeometryLaws.{Grid, put, put_comm, put_put}
use Rattle.orders.proofs.PutLaws.{Put, puts}

abbrev pub Hit : Put → List Put → Type 0
Hit w [] = ⊥
Hit w (v ∷ vs) = ((w.line ≡ v.line) × (w.col ≡ v.col)) ⊎ Hit w vs

over : (g : Grid) (w v : Put) → w.line ≡ v.line → w.col ≡ v.col → put (put g w.line w.col w.text) v.line v.col v.text ≡ put g v.line v.col v.text
over g w v a b = rw (a, b) (put_put g v.line v.col w.text v.text)

put_hit : (vs : List Put) (g : Grid) (w : Put) → Hit w vs → puts (put g w.line w.col w.text) vs ≡ puts g vs
put_hit [] g w h = absurd h
put_hit (v ∷ vs) g w (inl e) = ap (λ (x : Grid). puts x vs) (over g w v e.0 e.1)
put_hit (v ∷ vs) g w (inr h) = go (eqb w.line v.line) refl (eqb w.col v.col) refl (put_hit vs (put g v.line v.col v.text) w h)
  where
    apart : ((w.line ≡ v.line) × (w.col ≡ v.col) → ⊥) → puts (put (put g v.line v.col v.text) w.line w.col w.text) vs ≡ puts (put g v.line v.col v.text) vs
        → puts (put (put g w.line w.col w.text) v.line v.col v.text) vs ≡ puts (put g v.line v.col v.text) vs
    apart d ih = ap (λ (x : Grid). puts x vs) (put_comm g w.line w.col w.text v.line v.col v.text d) ∙ ih

    go : (a : Bool) → eqb w.line v.line ≡ a → (b : Bool) → eqb w.col v.col ≡ b
        → puts (put (put g v.line v.col v.text) w.line w.col w.text) vs ≡ puts (put g v.line v.col v.text) vs
        → puts (put (put g w.line w.col w.text) v.line v.col v.text) vs ≡ puts (put g v.line v.col v.text) vs
    go true p true q ih = ap (λ (x : Grid). puts x vs) (over g w v (eqb-true w.line v.line p) (eqb-true w.col v.col q))
    go true p false q ih = apart (λ e. eqb-false w.col v.col q e.1) ih
    go false p b q ih = apart (λ e. eqb-false w.line v.line p e.0) ih

pub puts_covered : (ws vs : List Put) (g : Grid) → All (λ w. Hit w vs) ws → puts (puts g ws) vs ≡ puts g vs
puts_covered [] vs g a = refl
puts_covered (w ∷ ws) vs g a = puts_covered ws vs (put g w.line w.col w.text) a.1 ∙ put_hit vs g w a.0
