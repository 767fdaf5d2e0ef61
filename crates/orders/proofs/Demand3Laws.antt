-- Demand 3 holds: the term of specs/Demand3.antt.
use Prim.Native.Nat.{ℕ}
use mathlib.Core.Path.{◌≡◌, sym, ap, ◌∙◌}
use mathlib.Core.List.{List, [], ◌∷◌}
use Rattle.orders.specs.declared.Answer.{Answer}
use Rattle.orders.specs.declared.Answer.TheVariants.{Applied}
use Rattle.orders.specs.declared.Order.{Order}
use Rattle.orders.specs.Corrections.{answer_of, corrected_of}
use Rattle.orders.specs.Demand3.{Measurement, Same, Different, corrected_all, answers_to, EitherOrder, Demand3}
use Rattle.orders.proofs.KeepsLaws.{answer-kept}
use Rattle.orders.proofs.PairLaws.{Differ, either_order, later_alone}
use Rattle.orders.proofs.ListLaws.{after_list}

differ : (f : List ℕ) (o p : Order) → Different f o p → Differ o p
differ f o p d e = d (λ i. record { row = e.0 i; column = e.1 i })

alone : (f : List ℕ) (o p : Order) → answers_to f (o ∷ p ∷ []) ≡ answer_of f o ∷ answer_of f p ∷ []
unfolding answers_to
alone f o p = ap (λ (a : Answer). answer_of f o ∷ a ∷ []) (answer-kept f o p)

different : (f : List ℕ) (o p : Order) → Different f o p → EitherOrder f o p
unfolding corrected_all
different f o p d = record { bytes = either_order f o p (differ f o p d); answers = alone f o p; swapped = alone f p o }

same : (f : List ℕ) (o p : Order) → Same f o p → answer_of f o ≡ Applied → answer_of (corrected_of f o) p ≡ Applied → corrected_all f (o ∷ p ∷ []) ≡ corrected_all f (p ∷ [])
unfolding corrected_all
same f o p e a b =
    later_alone f o p (ap (λ (m : Measurement). m.row) e) (ap (λ (m : Measurement). m.column) e) a (sym (answer-kept f o p) ∙ b)

pub demand3 : Demand3
demand3 = record { list = after_list; different = different; same = same }
