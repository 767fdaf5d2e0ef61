-- A cell looked for in a line, and what is read from it.
use Prim.Native.Nat.{ℕ, ◌+◌, ◌-◌, ◌≤◌, ◌<◌}
use mathlib.Core.Path.{◌≡◌, refl, sym, ap, subst, ◌∙◌}
use mathlib.Core.List.{List}
use mathlib.Core.Bool.{Bool, true, false, cond, ◌||◌}
use Rattle.std.specs.Prelude.{Option, Some, None}
use Rattle.std.proofs.lemmas.Option.{none-some, cond_some}
use native.Mathlib.Omega.{arith}
use lib.ListN.{length}
use lib.Dec.{eqb}
use Rattle.line_bytes.specs.declared.Span.{Span}
use Rattle.line_bytes.specs.Cells.{line_at, pieces, cell_end}
use Rattle.line_bytes.specs.Spaces.{trim_span}
use Rattle.verdicts.specs.declared.Judged.{Judged}
use Rattle.verdicts.specs.Kinds.{kind_of}
use Rattle.verdicts.specs.Verdicts.{size_of, number_of}
use Rattle.verdicts.specs.Judge.{judge, judged_of, judged_at}
use Rattle.verdicts.proofs.JudgeLaws.{judged-stop, judged-number}
use Rattle.text.specs.declared.Reading.{Reading}
use Rattle.text.specs.declared.Reading.TheVariants.{Refused}
use Rattle.text.specs.Reading.{reading_of, reading_at}
use Rattle.format.specs.declared.CellPlace.{CellPlace}
use Rattle.format.specs.declared.Flagged.{Flagged}
use Rattle.format.specs.declared.DecimalStep.{DecimalStep}
use Rattle.format.specs.declared.FlagStep.{FlagStep}
use Rattle.format.specs.Grid.{span_in}
use Rattle.format.specs.Answers.{trimmed_place}
use Rattle.format.specs.Records.{no_place}
use Rattle.format.specs.Inner.Grid.{cell_span}
use Rattle.format.specs.ByPlace.{line_after, cells_in, has_cell, text_of, cell_in, decimal_in, no_flag, flag_in, decimal_step, flag_step}
use Rattle.format.proofs.VerdictLaws.{reading_anywhere, size_anywhere}
use Rattle.format.proofs.ByPlaceLaws.{after-fed, CellThere, cell-there, has_there, span-feed}
use Rattle.opened.specs.declared.Part.{Part}
use Rattle.opened.specs.Inner.Parts.{part_there, part_of}

-- ---- a cell looked for
module _ (s : List ℕ) (i c : ℕ) where
  pub part_none : has_cell s i c ≡ false → ◌≡◌ {A = Option Part} None (part_of s i c)
  unfolding part_of
  part_none h = rw h

  pub part-found : (p : Span) (e : ℕ) → p ≡ cell_span s i (c - 1) → e ≡ p.start + length (line_at s p.start) → 1 ≤ c → c ≤ length (pieces 44 (line_at s i)) → e < length s
      → ◌≡◌ {A = Option Part} (Some (record { start = p.start; len = p.len; feed = e; next = e + 1 })) (part_of s i c)
  unfolding part_of
  part-found p e d f o m h = rw w.has (λ j. Some (record { start = (d j).start; len = (d j).len; feed = g j; next = n j }))
    where
      g : e ≡ i + length (line_at s i)
      g = f ∙ span-feed s i c o p d m

      n : e + 1 ≡ line_after s i
      n = after-fed s i e g h

      w : CellThere s i c
      w = cell-there s i c (subst (λ (j : ℕ). j < length s) g h) o m

-- ---- what is read from it
module _ (s : List ℕ) (i c : ℕ) where
  module _ (w : ◌≡◌ {A = Option Part} None (part_of s i c)) where
    lacks : has_cell s i c ≡ false
    unfolding part_of
    lacks = go (has_cell s i c) w
      where
        go : (b : Bool) → None ≡ cond b (Some (part_there s i c)) None → b ≡ false
        go true e = absurd (none-some (part_there s i c) e)
        go false e = refl

    pub cell-none : (y : CellPlace) → y ≡ no_place 21 0 0 → y ≡ cell_in s i c
    unfolding cell_in
    cell-none y e = rw lacks e

    module _ (n : ℕ) (m : n ≡ line_after s i) where
      pub decimal-none : (k : ℕ) → ◌≡◌ {A = DecimalStep} (record { reading = Refused 21 0 0; next = n }) (decimal_step s i c k)
      unfolding decimal_in
      decimal-none k = rw (lacks, m)

      pub flag-none : (k : ℕ) (y : Flagged) → y ≡ no_flag 21 → ◌≡◌ {A = FlagStep} (record { flagged = y; next = n }) (flag_step s i c k)
      unfolding flag_in
      flag-none k y e = rw (lacks, m, e)

  module _ (x : Part) (w : Some x ≡ part_of s i c) where
    there : (has_cell s i c ≡ true) × (x ≡ part_there s i c)
    unfolding part_of
    there =
        let m = cond_some (has_cell s i c) (part_there s i c) x (sym w) in
        (m.0, sym m.1)

    next_is : x.next ≡ line_after s i
    next_is = ap (λ (p : Part). p.next) there.1

    cell : CellThere s i c
    cell = has_there s i c there.0

    start_is : x.start ≡ (cell_span s i (c - 1)).start
    start_is = ap (λ (p : Part). p.start) there.1

    len_is : x.len ≡ (cell_span s i (c - 1)).len
    len_is = ap (λ (p : Part). p.len) there.1

    pub part_room : x.start + x.len ≤ length s
    part_room = omega (arith, start_is, len_is, cell.room)

    pub cell-some : (p : Span) → p ≡ trim_span s x.start (x.start + x.len) → ◌≡◌ {A = CellPlace} (record { number = 0; line = 0; column = 0; place = p }) (cell_in s i c)
    unfolding cell_in
    cell-some p e = rw there.0 (λ j. record { number = 0; line = 0; column = 0; place = place_is j })
      where
        place_is : p ≡ trimmed_place s (span_in i (cells_in s i) (c - 1))
        place_is =
            e ∙ ap (λ (y : Part). trim_span s y.start (y.start + y.len)) there.1
            ∙ ap (λ (ts : List (List ℕ)). trimmed_place s (span_in i ts (c - 1))) (sym cell.cells)

    module _ (k : ℕ) where
      judged_is : judged_at k 44 s x.start x.feed ≡ judged_of (cell_end 44 s x.start) (judge (kind_of k) (text_of s i c))
      judged_is =
          let f : x.feed ≡ i + length (line_at s i) = ap (λ (p : Part). p.feed) there.1 in
          judged-stop (rw (start_is, f) cell.stop) k ∙ ap (λ (t : List ℕ). judged_of (cell_end 44 s x.start) (judge (kind_of k) t)) (rw start_is cell.text)

      pub decimal-some : (r : Reading) → r ≡ reading_at k 44 s x.start x.feed → ◌≡◌ {A = DecimalStep} (record { reading = r; next = x.next }) (decimal_step s i c k)
      unfolding decimal_in reading_at
      decimal-some r e =
          let v = judge (kind_of k) (text_of s i c) in
          let q : r ≡ reading_of k (judged_of 0 v) = e ∙ ap (reading_of k) judged_is ∙ reading_anywhere k (cell_end 44 s x.start) v in
          rw (there.0, next_is, q)

      pub flag-some : (eqb k 4 || eqb k 5) ≡ true → (j : Judged) → j ≡ judged_at k 44 s x.start x.feed
          → ◌≡◌ {A = FlagStep} (record { flagged = record { number = j.number; line = 0; column = 0; flag = j.size }; next = x.next }) (flag_step s i c k)
      unfolding flag_in
      flag-some b j e =
          let v = judge (kind_of k) (text_of s i c) in
          let n : j.number ≡ number_of v = ap (λ (z : Judged). z.number) (e ∙ judged_is) ∙ judged-number (cell_end 44 s x.start) v in
          let m : j.size ≡ size_of v = ap (λ (z : Judged). z.size) (e ∙ judged_is) ∙ size_anywhere (cell_end 44 s x.start) v in
          rw (there.0, b, n, m, next_is)

      pub flag-other : (eqb k 4 || eqb k 5) ≡ false → (y : Flagged) → y ≡ no_flag 22 → ◌≡◌ {A = FlagStep} (record { flagged = y; next = x.next }) (flag_step s i c k)
      unfolding flag_in
      flag-other b y e = rw (there.0, b, next_is, e)
