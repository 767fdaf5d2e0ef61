-- Each of the six names is searched for among the names.
use Rattle.std.proofs.Common.{rules, ◌≡◌}
use Rattle.std.specs.Prelude.{List, [], ◌∷◌, ℕ, map, is_some, position, Bool, ◌&&◌}
use Rattle.std.specs.List.{list_all}
use Rattle.std.specs.Borrow.{Bor}
use Rattle.std.proofs.lemmas.Iterator.{YieldsList-from_slice}
use Rattle.std.proofs.lemmas.Iterator.Search.{all_from_yields_List}
use mathlib.Core.Path.{refl, ap, ◌∙◌}
use Rattle.line_bytes.specs.Bytes.{equal}
use Rattle.format.specs.Headers.{station_names}
use Rattle.format.specs.Inner.Names.{names_at}
use Rattle.format.proofs.NameLaws.{all_found}
use Rattle.names.proofs.has_station.Goals as goal

-- a test of what the references lend is one of the names themselves
through : (p : List ℕ → Bool) (ns : List (Bor (List ℕ))) → list_all (λ n. p n.now) ns ≡ list_all p (map (λ n. n.now) ns)
through p [] = refl
through p (n ∷ ns) = ap (λ b. p n.now && b) (through p ns)

pub returns : goal.returns
returns c =
    let a = c.args in
    let ns = names_at a.s.now a.places.now in
    let z : map (λ (n : Bor (List ℕ)). n.now) c.iter.result.rest.now ≡ station_names = search rules in
    all_from_yields_List (λ (n : Bor (List ℕ)). is_some (position (λ x. equal x n.now) ns)) _ _ c.all.result c.all.ensures.ran (YieldsList-from_slice c.iter.result.rest.now cc) (λ x b q k. search rules)
    ∙ through (λ n. is_some (position (λ x. equal x n) ns)) c.iter.result.rest.now ∙ ap (list_all _) z ∙ all_found station_names ns
