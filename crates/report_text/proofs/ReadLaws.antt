-- What is read of a file whose bytes are known, and the report on it.
use Prim.Native.Nat.{ℕ, ◌≤◌, ◌<◌}
use mathlib.Core.Path.{◌≡◌, sym, ap, subst, ◌∙◌}
use mathlib.Core.List.{List, ◌++◌}
use native.Mathlib.Omega.{arith}
use Rattle.std.proofs.Common.{Some, None, IfSome, length, take, length-take-le, append-nil}
use mathlib.Core.Logic.{⊎_elim}
use Rattle.std.proofs.Math.Nat.{eq-or-lt_of_le}
use Rattle.std.proofs.Math.Seq.{take-append_seam}
use Rattle.std.proofs.lemmas.List.{take_all}
use Rattle.std.specs.Io.KnownBytes.{Consumes, Appends, IsAtEnd}
use Rattle.std.specs.declared.option.Option.{Option}
use Rattle.report_text.specs.Report.{report_of}
use Rattle.report_text.specs.Promises.{input_bytes, ReadSays}

-- the first n bytes of the input are those of the file, all of them or as many as there is room for
pub reads-first : (a b : Option (List ℕ)) (input : List ℕ) (n : ℕ) → n ≤ length input → Consumes a b (take n input) → (n < length input → IsAtEnd b)
    → IfSome a (λ f. take n input ≡ take (length input) f)
reads-first None b input n h c e = tt
reads-first (Some f) None input n h c e = absurd c
reads-first (Some f) (Some ys) input n h c e =
    let t : length (take n input) ≡ n = length-take-le n input h in
    ⊎_elim
    (λ (q : n ≡ length input). sym (ap (take (length input)) c ∙ ap (λ (k : ℕ). take k (take n input ++ ys)) (sym q ∙ sym t) ∙ take-append_seam (take n input) ys))
    (λ (q : n < length input).
    let w : f ≡ take n input = c ∙ ap (λ (z : List ℕ). take n input ++ z) (e q) ∙ append-nil (take n input) in
    sym (ap (take (length input)) w ∙ take_all (length input) (take n input) (omega (arith, t, h))))
    (eq-or-lt_of_le h)

-- so many bytes of the file were read
pub reads-enough : (a b : Option (List ℕ)) (input : List ℕ) (n : ℕ) → length input ≡ input_bytes → IfSome a (λ f. take n input ≡ take (length input) f) → Consumes a b (take n input)
    → IfSome a (λ f. Consumes a b (take input_bytes f))
reads-enough None b input n l e c = tt
reads-enough (Some f) b input n l e c = subst (Consumes (Some f) b) (e ∙ ap (λ (k : ℕ). take k f) l) c

-- the report on what was read is the one on the file
pub reports-file : (a c d : Option (List ℕ)) (input : List ℕ) (n : ℕ) → IfSome a (λ f. take n input ≡ take (length input) f) → ReadSays input n → Appends c d (report_of (take n input))
    → IfSome a (λ f. Appends c d (report_of f))
reports-file None c d input n e s w = tt
reports-file (Some f) c d input n e s w = subst (Appends c d) (s f e) w

-- the front of the page is the report that was put there
pub page-front : (room t rest : List ℕ) (n : ℕ) → n ≡ length t → room ≡ t ++ rest → take n room ≡ t
page-front room t rest n e h = ap (take n) h ∙ ap (λ (k : ℕ). take k (t ++ rest)) e ∙ take-append_seam t rest
