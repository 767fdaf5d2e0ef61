-- The lines before the names line: the run from line 1 comes to it, or is refused.
use Prim.Native.Nat.{ℕ, ◌≤◌}
use mathlib.Core.Path.{◌≡◌, refl, sym, ap, ◌∙◌}
use mathlib.Core.List.{List, []}
use native.Mathlib.Omega.{arith}
use Rattle.rules.specs.declared.free.LineStart.{LineStart}
use Rattle.rules.specs.declared.free.FreeLines.TheVariants.{Comments}
use Rattle.line_one.specs.declared.First.{First}
use Rattle.format.specs.declared.FileKind.TheVariants.{Ctd}
use Rattle.format.specs.declared.Refusal.{Refusal}
use Rattle.format.specs.Columns.{Sort, bottle, ctd}
use Rattle.format.specs.Places.{comments, refused, run, outcome_of}
use Rattle.format.specs.Answers.{kind_by}
use Rattle.format.specs.Inner.Lines.{lines_from, StartsAt}
use Rattle.rules.specs.Inner.Free.{commented, FreePassed}
use Rattle.rules.specs.Inner.Heads.{HeadersPassed}
use Rattle.rules.specs.Inner.Top.{TopRead}
use Rattle.rules.proofs.FirstRunLaws.{FirstRead}
use Rattle.rules.proofs.TableLaws.{comments-names}
use Rattle.std.specs.Prelude.{Ok}

module _ {s : List ℕ} {r : First} (a : FirstRead s r) where
  -- what line 1 says
  is_ctd_lem : r.kind ≡ Ctd → a.sort ≡ ctd
  is_ctd_lem e = go a.sort (sym a.kind ∙ e)
    where
      go : (k : Sort) → kind_by k ≡ Ctd → k ≡ ctd
      go bottle h = absurd cc
      go ctd h = refl

  is_bottle_lem : (r.kind ≡ Ctd → ⊥) → a.sort ≡ bottle
  is_bottle_lem n = go a.sort (λ e. n (a.kind ∙ e))
    where
      go : (k : Sort) → (kind_by k ≡ Ctd → ⊥) → k ≡ bottle
      go bottle h = refl
      go ctd h = absurd (h refl)

  module _ (h : LineStart) (f : FreePassed Comments s (record { at = r.at; line = 2 }) h) where
    below : outcome_of s ≡ run h.line (comments a.sort) (lines_from s h.at)
    below = a.on ∙ f.on (comments a.sort) commented

    counted : (1 ≤ h.line) × StartsAt s h.line h.at
    counted = f.counted (omega arith) a.counted

    pub top-bottle : (r.kind ≡ Ctd → ⊥) → TopRead s (Ok (record { kind = r.kind; headers = h.at; names = h }))
    top-bottle n = (
      bottle,
      [],
      h.line,
      record {
        kind = a.kind ∙ ap kind_by (is_bottle_lem n);
        on = below ∙ ap (λ (k : Sort). run h.line (comments k) (lines_from s h.at)) (is_bottle_lem n) ∙ comments-names s h.at h.line (λ q. (f.other q).1);
        inside = (f.inside.1, omega (arith, f.inside.2));
        counted = counted;
        headers = (omega arith, counted.0, record { inside = f.inside.1; starts = counted.1 });
      },
    )

    module _ (e : r.kind ≡ Ctd) where
      below_ctd : outcome_of s ≡ run h.line (comments ctd) (lines_from s h.at)
      below_ctd = below ∙ ap (λ (k : Sort). run h.line (comments k) (lines_from s h.at)) (is_ctd_lem e)

      pub top-ctd : (g : LineStart) → HeadersPassed s h g → TopRead s (Ok (record { kind = r.kind; headers = h.at; names = g }))
      top-ctd g w = (
        ctd,
        w.on.0,
        h.line,
        record {
          kind = e;
          on = below_ctd ∙ w.on.1;
          inside = w.inside;
          counted = w.counted counted.0 counted.1;
          headers = (w.on.2, counted.0, record { inside = f.inside.1; starts = counted.1 });
        },
      )

      pub top-refused : (x : Refusal) → run h.line (comments ctd) (lines_from s h.at) ≡ refused x.number x.line x.column → outcome_of s ≡ refused x.number x.line x.column
      top-refused x w = below_ctd ∙ w
