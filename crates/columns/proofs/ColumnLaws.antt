-- The kinds of the columns, and the rules of the names line.
use Prim.Native.Nat.{ℕ, zero, suc, ◌+◌, ◌-◌, ◌≤◌, ◌<◌}
use mathlib.Core.Path.{◌≡◌, refl, sym, ap, ◌∙◌, subst}
use mathlib.Core.List.{List, [], ◌∷◌, ◌++◌, map}
use mathlib.Core.Bool.{Bool, true, false, cond, not, ◌&&◌}
use native.Mathlib.Numerals.{add-one}
use native.Mathlib.Nat.{not-suc-le-zero, le_of_suc-le-suc}
use native.Mathlib.Omega.{arith}
use lib.ListN.{length, get_or, take, drop, set, replicate, length-map, length-append, drop_of_length-le, get_or-map}
use lib.Seq.{drop-cons, take-suc, take_all, take-append_seam, length-take-le}
use lib.Dec.{ltb}
use borrow.Author.Tests.{lt-ltb, le-ltb, ltb-true}
use Rattle.std.specs.Prelude.{Option, Some, None, Result, Ok, Err, is_some, position}
use Rattle.line_bytes.specs.declared.Span.{Span}
use Rattle.line_bytes.specs.Bytes.{bytes, equal}
use Rattle.line_bytes.specs.Cells.{pieces, line_at}
use Rattle.line_bytes.specs.Spaces.{trim_front, trim_end, trim}
use Rattle.line_bytes.specs.Names.{is_name, parameter_length, begins_ctd}
use Rattle.text.specs.Catalogue.{names, kinds, kind_in}
use Rattle.format.specs.declared.NameFault.{NameFault}
use Rattle.format.specs.declared.NameFault.TheVariants.{Bad, Repeated}
use Rattle.format.specs.declared.BrokenRule.{BrokenRule}
use Rattle.format.specs.Faults.{Fault, clean, breaks, ◌then◌, unless, member, has_all, first_of}
use Rattle.format.specs.Headers.{station_names}
use Rattle.format.specs.Columns.{Sort, ctd, is_flag, parameter_of, has_parameter, required_names, names_of, kind_of_name, kinds_of, name_rules, flag_rules}
use Rattle.format.specs.Inner.Faults.{name_fault, flag_fault, names_line_fault}
use Rattle.columns.specs.declared.Cells.{Cells}
use Rattle.columns.specs.declared.Columns.{Columns}
use Rattle.format.specs.Inner.Sorts.{sort_for}
use Rattle.format.specs.Inner.Names.{fault_in, names_at}
use Rattle.columns.specs.Inner.Columns.{start_of, Placed, CellsFound, keeps_parameter, filled, broken, columns_by, columns_for, ColumnsRead}
use Rattle.format.proofs.NameLaws.{names-length, position-member, Within, fault-within}
use Rattle.columns.proofs.NamesLineLaws.{start_first, start-later, start-next, start-column}
use Rattle.format.proofs.FaultLaws.{breaks-clean}
use Rattle.format.proofs.NamesLineLaws.{parameter-length}
use Rattle.format.proofs.RuleLaws.{names_rules}

-- ---- a flag column's parameter, and the kind of a name
module _ (n : List ℕ) (p : ℕ) (e : p ≡ parameter_length n) where
  pub parameter_taken : p ≡ length (take p n)
  parameter_taken = sym (length-take-le p n (omega (arith, e, parameter-length n)))

  pub not_flag : p ≡ 0 → is_flag n ≡ false
  not_flag z = ap (ltb 0) (sym e ∙ z)

  pub is-flag : (p ≡ 0 → ⊥) → is_flag n ≡ true
  is-flag z = lt-ltb 0 (parameter_length n) (omega (arith, e, z))

  pub parameter-there : take p n ≡ parameter_of n
  parameter-there = ap (λ (m : ℕ). take m n) e

  pub kind-listed : p ≡ 0 → (ls ks : List ℕ) → ls ≡ names → ks ≡ kinds → (k : ℕ) → k ≡ kind_in ls ks n → k ≡ kind_of_name n
  unfolding kind_of_name
  kind-listed z ls ks a b k d = rw (not_flag z) (d ∙ rw (a, b))

  pub kind-flagged : (p ≡ 0 → ⊥) → (b : Bool) → b ≡ begins_ctd (take p n) → cond b 5 4 ≡ kind_of_name n
  unfolding kind_of_name
  kind-flagged z b d = rw (is-flag z, ← parameter-there, ← d)

  -- rule 12 of the name
  module _ (ns : List (List ℕ)) where
    pub keeps_plain : p ≡ 0 → true ≡ keeps_parameter ns n
    unfolding keeps_parameter
    keeps_plain z = rw (not_flag z)

    module _ (z : p ≡ 0 → ⊥) (l : ℕ) (d : l ≡ parameter_length (take p n)) where
      keeps_by : (b : Bool) → ltb 0 l ≡ b → (not b && member (take p n) ns) ≡ keeps_parameter ns n
      unfolding keeps_parameter has_parameter
      keeps_by b q = rw (is-flag z, ← parameter-there, ← d, q)

      pub keeps-flag : 0 < l → false ≡ keeps_parameter ns n
      keeps-flag h = keeps_by true (lt-ltb 0 l h)

      pub keeps_placed : l ≤ 0 → is_some (position (λ x. equal x (take p n)) ns) ≡ keeps_parameter ns n
      keeps_placed h = position-member (take p n) ns ∙ keeps_by false (le-ltb 0 l h)

-- ---- rule 13
pub required-bottle : (b r : Bool) (ns : List (List ℕ)) → b ≡ true → r ≡ has_all station_names ns → r ≡ has_all (required_names (sort_for b)) ns
required-bottle b r ns e h = rw e h

pub required-ctd : (b r : Bool) (ns : List (List ℕ)) → b ≡ false → r ≡ has_all (required_names ctd) ns → r ≡ has_all (required_names (sort_for b)) ns
required-ctd b r ns e h = rw e h

and_true : (b : Bool) → b ≡ (b && true)
and_true true = refl
and_true false = refl

pub pressure-found : (ns : List (List ℕ)) → is_some (position (λ x. equal x (bytes "CTDPRS")) ns) ≡ has_all (required_names ctd) ns
unfolding has_all
pressure-found ns = position-member (bytes "CTDPRS") ns ∙ and_true (member (bytes "CTDPRS") ns)

-- ---- an array filled from its start
set-end : (ks : List ℕ) (z v : ℕ) (zs : List ℕ) → set (ks ++ z ∷ zs) (length ks) v ≡ (ks ++ v ∷ []) ++ zs
set-end [] z v zs = refl
set-end (k ∷ ks) z v zs = ap (◌∷◌ k) (set-end ks z v zs)

fill_more : (ks : List ℕ) (k v : ℕ) → length ks ≡ k → k < 256 → set (filled ks) k v ≡ filled (ks ++ v ∷ [])
fill_more ks k v e h =
    let n : length (ks ++ v ∷ []) ≡ length ks + 1 = length-append ks (v ∷ []) in
    let d : 256 - length ks ≡ suc (256 - length (ks ++ v ∷ [])) = omega (arith, n, e) in
    ap (λ (m : ℕ). set (filled ks) m v) (sym e)
    ∙ ap (λ (m : ℕ). set (ks ++ replicate m 0) (length ks) v) d
    ∙ set-end ks 0 v (replicate (256 - length (ks ++ v ∷ [])) 0)

map_snoc : (f : List ℕ → ℕ) (xs : List (List ℕ)) (x : List ℕ) → map f (xs ++ x ∷ []) ≡ map f xs ++ f x ∷ []
map_snoc f [] x = refl
map_snoc f (z ∷ zs) x = ap (◌∷◌ (f z)) (map_snoc f zs x)

-- ---- the columns up to name k: their kinds, and rule 12
pub record Kinded (ts : List (List ℕ)) (k : ℕ) (of : List ℕ) : Type 0 where
  pub inside : k ≤ length ts
  pub done : of ≡ filled (kinds_of (take k (map trim ts)))
  pub left : flag_fault 1 (map trim ts) ts ≡ flag_fault (start_of 1 ts k) (map trim ts) (drop k ts)

pub kinded-none : (ts : List (List ℕ)) (of : List ℕ) → of ≡ replicate 256 0 → Kinded ts 0 of
kinded-none ts of e =
    record {
      inside = omega arith;
      done = e;
      left = ap (λ (c : ℕ). flag_fault c (map trim ts) ts) (sym (start_first 1 ts));
    }

module _ (ts : List (List ℕ)) (k : ℕ) (h : k < length ts) where
  names-room : k < length (map trim ts)
  names-room = rw length-map h

  here-trim : trim (get_or ts k []) ≡ get_or (map trim ts) k []
  unfolding trim trim_front trim_end
  here-trim = sym (get_or-map trim ts k [])

  take_one : take (k + 1) (map trim ts) ≡ take k (map trim ts) ++ get_or (map trim ts) k [] ∷ []
  take_one = rw (add-one k) (take-suc (map trim ts) k [] names-room)

  faults-here : flag_fault (start_of 1 ts k) (map trim ts) (drop k ts)
      ≡ ((unless (keeps_parameter (map trim ts) (get_or (map trim ts) k [])) 12 (start_of 1 ts k)) then flag_fault (start_of 1 ts (k + 1)) (map trim ts) (drop (k + 1) ts))
  unfolding flag_fault flag_rules first_of keeps_parameter
  faults-here = rw (start-next 1 ts k h, add-one k, ← here-trim, drop-cons ts k [] h)

  module _ (of : List ℕ) (w : Kinded ts k of) where
    kinded-stop : keeps_parameter (map trim ts) (get_or (map trim ts) k []) ≡ false → flag_fault 1 (map trim ts) ts ≡ breaks 12 (start_of 1 ts k)
    kinded-stop b = w.left ∙ faults-here ∙ rw b

    kinded-more : length ts ≤ 256 → keeps_parameter (map trim ts) (get_or (map trim ts) k []) ≡ true → (v : ℕ) → v ≡ kind_of_name (get_or (map trim ts) k []) → Kinded ts (k + 1) (set of k v)
    kinded-more few b v e =
        let l : length (kinds_of (take k (map trim ts))) ≡ k = length-map (take k (map trim ts)) kind_of_name ∙ length-take-le k (map trim ts) (omega (arith, names-room)) in
        record {
          inside = omega arith;
          done = ap (λ (o : List ℕ). set o k v) w.done
              ∙ fill_more (kinds_of (take k (map trim ts))) k v l (omega arith)
              ∙ ap filled (ap (λ (x : ℕ). kinds_of (take k (map trim ts)) ++ x ∷ []) e
              ∙ sym (ap (map kind_of_name) take_one ∙ map_snoc kind_of_name (take k (map trim ts)) (get_or (map trim ts) k [])));
          left = w.left ∙ faults-here ∙ rw b;
        }

-- ---- the turns of the walk over the names
module _ (s : List ℕ) (at : ℕ) (ps : List Span) (pl : Placed s at ps) (en : length ps ≡ length (pieces 44 (line_at s at))) where
  abbrev ts : List (List ℕ)
  ts = pieces 44 (line_at s at)

  pub names-whole : names_at s ps ≡ map trim (pieces 44 (line_at s at))
  names-whole = pl.names ∙ take_all (length ps) (map trim (pieces 44 (line_at s at))) (omega (arith, en, length-map (pieces 44 (line_at s at)) trim))

  module _ (k : ℕ) (h : k < length ps) (of : List ℕ) (w : Kinded ts k of) (t : List ℕ) (et : t ≡ get_or (names_at s ps) k [])
      (b : Bool) (eb : b ≡ keeps_parameter (names_at s ps) t) where
    name-there : t ≡ get_or (map trim ts) k []
    name-there = et ∙ ap (λ (l : List (List ℕ)). get_or l k []) names-whole

    keeps-there : keeps_parameter (map trim ts) (get_or (map trim ts) k []) ≡ b
    keeps-there = sym (eb ∙ ap (λ (l : List (List ℕ)). keeps_parameter l t) names-whole ∙ ap (keeps_parameter (map trim ts)) name-there)

    pub turn-refused : b ≡ false → flag_fault 1 (map trim ts) ts ≡ breaks 12 (start_of 1 ts k)
    turn-refused z = kinded-stop ts k (omega (arith, en)) of w (keeps-there ∙ z)

    pub turn-kept : b ≡ true → (v : ℕ) → v ≡ kind_of_name t → Kinded ts (k + 1) (set of k v)
    turn-kept z v e = kinded-more ts k (omega (arith, en)) of w (omega (arith, en, pl.few)) (keeps-there ∙ z) v (e ∙ ap kind_of_name name-there)

-- ---- what is handed back
-- a rule that the cell at v, which is cell k of the line, breaks
module _ (at v : ℕ) (ts : List (List ℕ)) (k : ℕ) (p : v ≡ start_of at ts k) (b : BrokenRule) (n : ℕ) (e : b ≡ broken n (v - at + 1)) where
  broken-here : b ≡ broken n (start_of 1 ts k)
  broken-here = e ∙ ap (broken n) (start-column at v ts k p)

  pub kinds-refused : (ns : List (List ℕ)) → flag_fault 1 ns ts ≡ breaks n (start_of 1 ts k) → Err b ≡ columns_by ns (flag_fault 1 ns ts)
  kinds-refused ns f = rw f (ap Err broken-here)

  pub names-refused : (j : Sort) (x : List ℕ) → names_line_fault j x ≡ breaks n (start_of 1 ts k) → Err b ≡ columns_for j x
  unfolding columns_for
  names-refused j x f = rw f (ap Err broken-here)

-- the kinds
pub kinds_done : (ts : List (List ℕ)) (k n : ℕ) (of : List ℕ) → Kinded ts k of → n ≤ k → n ≡ length ts
    → ◌≡◌ {A = Result Columns BrokenRule} (Ok (record { count = n; kinds = of })) (columns_by (map trim ts) (flag_fault 1 (map trim ts) ts))
unfolding flag_fault flag_rules first_of
kinds_done ts k n of w h e =
    let a : take k (map trim ts) ≡ map trim ts = take_all k (map trim ts) (rw length-map (omega (arith, w.inside))) in
    let f : flag_fault 1 (map trim ts) ts ≡ clean = w.left ∙ rw (drop_of_length-le ts {i = k} (omega (arith, w.inside))) in
    let c : n ≡ length (map trim ts) = e ∙ sym (length-map ts trim) in
    let o : of ≡ filled (kinds_of (map trim ts)) = w.done ∙ ap (λ (l : List (List ℕ)). filled (kinds_of l)) a in
    (λ j. Ok (record { count = c j; kinds = o j })) ∙ ap (columns_by (map trim ts)) (sym f)

-- ---- the rules of the names line in their order
module _ (k : Sort) (x : List ℕ) where
  pub rules-names : (m c : ℕ) → name_fault 1 [] (pieces 44 x) ≡ breaks m c → names_line_fault k x ≡ breaks m c
  rules-names m c e = names_rules k x ∙ rw e

  module _ (e : name_fault 1 [] (pieces 44 x) ≡ clean) where
    rules_flags : (m c : ℕ) → flag_fault 1 (names_of x) (pieces 44 x) ≡ breaks m c → names_line_fault k x ≡ breaks m c
    rules_flags m c f = names_rules k x ∙ rw (e, f)

    rules_required : (b : Bool) → flag_fault 1 (names_of x) (pieces 44 x) ≡ clean → has_all (required_names k) (names_of x) ≡ b → names_line_fault k x ≡ unless b 13 1
    rules_required b f h = names_rules k x ∙ rw (e, f, h)

  -- by what the kinds say
  module _ (e : name_fault 1 [] (pieces 44 x) ≡ clean) (r : Result Columns BrokenRule) (w : r ≡ columns_by (names_of x) (flag_fault 1 (names_of x) (pieces 44 x))) where
    pub names-flagged : (b : BrokenRule) → r ≡ Err b → Err b ≡ columns_for k x
    unfolding columns_for
    names-flagged b z = go (flag_fault 1 (names_of x) (pieces 44 x)) refl (sym z ∙ w)
      where
        go : (f : Fault) → flag_fault 1 (names_of x) (pieces 44 x) ≡ f → Err b ≡ columns_by (names_of x) f → Err b ≡ columns_by (names_of x) (names_line_fault k x)
        go clean d v = absurd cc
        go (breaks m c) d v = rw (rules_flags e m c d) v

    module _ (c : Columns) (z : r ≡ Ok c) where
      flags-clean : flag_fault 1 (names_of x) (pieces 44 x) ≡ clean
      flags-clean = go (flag_fault 1 (names_of x) (pieces 44 x)) (sym z ∙ w)
        where
          go : (f : Fault) → Ok c ≡ columns_by (names_of x) f → f ≡ clean
          go clean v = refl
          go (breaks m d) v = absurd cc

      module _ (b : Bool) (h : has_all (required_names k) (names_of x) ≡ b) where
        pub names-read : b ≡ true → Ok c ≡ columns_for k x
        unfolding columns_for
        names-read g = sym z ∙ w ∙ ap (columns_by (names_of x)) (flags-clean ∙ sym (rules_required e b flags-clean h ∙ rw g))

        pub names_lacking : b ≡ false → Err (broken 13 1) ≡ columns_for k x
        unfolding columns_for
        names_lacking g = let f : names_line_fault k x ≡ breaks 13 1 = rules_required e b flags-clean h ∙ rw g in rw f

-- ---- what a caller has
names-few : (c : ℕ) (earlier ts : List (List ℕ)) → length earlier ≤ 256 → name_fault c earlier ts ≡ clean → length earlier + length ts ≤ 256
unfolding name_fault name_rules first_of
names-few c earlier [] l e = omega arith
names-few c earlier (t ∷ ts) l e =
    go (ltb (length earlier) 256) (is_name (trim t)) (member (trim t) earlier) refl e
    (names-few (c + length t + 1) (earlier ++ trim t ∷ []) ts)
  where
    go : (a p q : Bool) → ltb (length earlier) 256 ≡ a
        → ((unless a 11 c) then (unless p 10 c) then (unless (not q) 9 c) then name_fault (c + length t + 1) (earlier ++ trim t ∷ []) ts) ≡ clean
        → (length (earlier ++ trim t ∷ []) ≤ 256 → name_fault (c + length t + 1) (earlier ++ trim t ∷ []) ts ≡ clean → length (earlier ++ trim t ∷ []) + length ts ≤ 256)
        → length earlier + suc (length ts) ≤ 256
    go false p q d e f = absurd (breaks-clean 11 c e)
    go true false q d e f = absurd (breaks-clean 10 c e)
    go true true true d e f = absurd (breaks-clean 9 c e)
    go true true false d e f =
        let n : length (earlier ++ trim t ∷ []) ≡ length earlier + 1 = length-append earlier (trim t ∷ []) in
        let g = f (omega (arith, n, ltb-true (length earlier) 256 d)) e in
        omega (arith, n, g)

clean-names : (k : Sort) (x : List ℕ) → names_line_fault k x ≡ clean → name_fault 1 [] (pieces 44 x) ≡ clean
clean-names k x e = go (name_fault 1 [] (pieces 44 x)) (sym (names_rules k x) ∙ e)
  where
    go : (f : Fault) → (f then flag_fault 1 (names_of x) (pieces 44 x) then unless (has_all (required_names k) (names_of x)) 13 1) ≡ clean → f ≡ clean
    go clean e = refl
    go (breaks n c) e = e

module _ (k : Sort) (x : List ℕ) where
  pub columns-broken : (b : BrokenRule) → columns_for k x ≡ Err b → names_line_fault k x ≡ breaks b.number b.column
  unfolding columns_for
  columns-broken b e = go (names_line_fault k x) e
    where
      go : (f : Fault) → columns_by (names_of x) f ≡ Err b → f ≡ breaks b.number b.column
      go clean e = absurd cc
      go (breaks n c) e = let d : broken n c ≡ b = cc in rw (← d)

  -- a names line that keeps its rules
  pub columns-kept : names_line_fault k x ≡ clean → columns_for k x ≡ Ok (record { count = length (names_of x); kinds = filled (kinds_of (names_of x)) })
  unfolding columns_for
  columns-kept e = rw e

  pub columns-read : (r : Columns) → columns_for k x ≡ Ok r → ColumnsRead k x r
  unfolding columns_for
  columns-read r e = subst (ColumnsRead k x) d read
    where
      kept : names_line_fault k x ≡ clean
      kept = go (names_line_fault k x) e
        where
          go : (f : Fault) → columns_by (names_of x) f ≡ Ok r → f ≡ clean
          go clean e = refl
          go (breaks n c) e = absurd cc

      d : record { count = length (names_of x); kinds = filled (kinds_of (names_of x)) } ≡ r
      d = let z = sym (columns-kept kept) ∙ e in cc

      read : ColumnsRead k x (record { count = length (names_of x); kinds = filled (kinds_of (names_of x)) })
      read = record {
        fault = kept;
        few = omega (arith, names-few 1 [] (pieces 44 x) (omega arith) (clean-names k x kept), length-map (pieces 44 x) trim);
        many = refl;
        kinds = let l : length (names_of x) ≡ length (kinds_of (names_of x)) = sym (length-map (names_of x) kind_of_name) in
            ap (λ (n : ℕ). take n (filled (kinds_of (names_of x)))) l ∙ take-append_seam (kinds_of (names_of x)) (replicate (256 - length (kinds_of (names_of x))) 0);
      }

-- ---- 11, 10 and 9: the first fault of the first 256 names, else the 257th cell
over_fault : ℕ → ℕ → List (List ℕ) → Fault
over_fault c m [] = clean
over_fault c zero (t ∷ ts) = breaks 11 c
over_fault c (suc m) (t ∷ ts) = over_fault (c + length t + 1) m ts

over_none : (c m : ℕ) (ts : List (List ℕ)) → length ts ≤ m → over_fault c m ts ≡ clean
unfolding over_fault
over_none c m [] h = refl
over_none c zero (t ∷ ts) h = absurd (not-suc-le-zero h)
over_none c (suc m) (t ∷ ts) h = over_none (c + length t + 1) m ts (le_of_suc-le-suc h)

over_one : (c m : ℕ) (ts : List (List ℕ)) → m < length ts → over_fault c m ts ≡ breaks 11 (start_of c ts m)
unfolding over_fault
over_one c m [] h = absurd (not-suc-le-zero h)
over_one c zero (t ∷ ts) h = ap (breaks 11) (sym (start_first c (t ∷ ts)))
over_one c (suc m) (t ∷ ts) h = over_one (c + length t + 1) m ts (le_of_suc-le-suc h) ∙ ap (breaks 11) (sym (start-later c t ts m))

abbrev found_fault_of : (ℕ → ℕ) → Fault → Option NameFault → Fault
found_fault_of col f None = f
found_fault_of col f (Some (Bad k)) = breaks 10 (col k)
found_fault_of col f (Some (Repeated k)) = breaks 9 (col k)

names_faults : (col : ℕ → ℕ) (c : ℕ) (earlier ts : List (List ℕ)) (m b : ℕ) → length earlier ≡ b → b + m ≡ 256 → ((j : ℕ) → col (b + j) ≡ start_of c ts j)
    → name_fault c earlier ts ≡ found_fault_of col (over_fault c m ts) (fault_in earlier (take m (map trim ts)) b)
unfolding name_fault name_rules first_of fault_in over_fault
names_faults col c earlier [] zero b l g f = refl
names_faults col c earlier [] (suc m) b l g f = refl
names_faults col c earlier (t ∷ ts) zero b l g f = rw (le-ltb (length earlier) 256 (omega arith))
names_faults col c earlier (t ∷ ts) (suc m) b l g f =
    rw (lt-ltb (length earlier) 256 (omega arith))
    (go (is_name (trim t)) (member (trim t) earlier)
    (names_faults col (c + length t + 1) (earlier ++ trim t ∷ []) ts m (suc b) (length-append earlier (trim t ∷ []) ∙ omega arith) (omega arith) (λ j. later j)))
  where
    here : col b ≡ c
    here = let q : b ≡ b + 0 = omega arith in ap col q ∙ f 0 ∙ start_first c (t ∷ ts)

    later : (j : ℕ) → col (suc b + j) ≡ start_of (c + length t + 1) ts j
    later j = let q : suc b + j ≡ b + suc j = omega arith in ap col q ∙ f (suc j) ∙ start-later c t ts j

    go : (p q : Bool)
        → name_fault (c + length t + 1) (earlier ++ trim t ∷ []) ts
        ≡ found_fault_of col (over_fault (c + length t + 1) m ts) (fault_in (earlier ++ trim t ∷ []) (take m (map trim ts)) (suc b))
        → ((unless p 10 c) then (unless (not q) 9 c) then name_fault (c + length t + 1) (earlier ++ trim t ∷ []) ts)
        ≡ found_fault_of col (over_fault (c + length t + 1) m ts)
        (cond p (cond q (Some (Repeated b)) (fault_in (earlier ++ trim t ∷ []) (take m (map trim ts)) (suc b))) (Some (Bad b)))
    go false q h = ap (breaks 10) (sym here)
    go true true h = ap (breaks 9) (sym here)
    go true false h = h

module _ (s : List ℕ) (at : ℕ) (r : Cells) (w : CellsFound s at r) (f : Option NameFault) (e : f ≡ fault_in [] (names_at s (take r.count r.places)) 0) where
  pub places-long : length (take r.count r.places) ≡ r.count
  places-long = length-take-le r.count r.places (omega (arith, w.wide, w.few))

  first-names : take r.count (map trim (pieces 44 (line_at s at))) ≡ take 256 (map trim (pieces 44 (line_at s at)))
  first-names = go r.over refl
    where
      go : (o : Option ℕ) → r.over ≡ o → take r.count (map trim (pieces 44 (line_at s at))) ≡ take 256 (map trim (pieces 44 (line_at s at)))
      go None z =
          let l : length (map trim (pieces 44 (line_at s at))) ≡ r.count = length-map (pieces 44 (line_at s at)) trim ∙ sym (w.all z) in
          take_all r.count (map trim (pieces 44 (line_at s at))) (omega arith)
          ∙ sym (take_all 256 (map trim (pieces 44 (line_at s at))) (omega (arith, w.few)))
      go (Some i) z = ap (λ (n : ℕ). take n (map trim (pieces 44 (line_at s at)))) (w.more i z).0

  faults-found : name_fault 1 [] (pieces 44 (line_at s at)) ≡ found_fault_of (start_of 1 (pieces 44 (line_at s at))) (over_fault 1 256 (pieces 44 (line_at s at))) f
  faults-found =
      names_faults (start_of 1 (pieces 44 (line_at s at))) 1 [] (pieces 44 (line_at s at)) 256 0 refl refl
      (λ j. let q : 0 + j ≡ j = omega arith in ap (start_of 1 (pieces 44 (line_at s at))) q)
      ∙ ap (found_fault_of (start_of 1 (pieces 44 (line_at s at))) (over_fault 1 256 (pieces 44 (line_at s at))))
      (ap (λ (l : List (List ℕ)). fault_in [] l 0) (sym (w.placed.names ∙ ap (λ (n : ℕ). take n (map trim (pieces 44 (line_at s at)))) places-long ∙ first-names)) ∙ sym e)

  index-within : Within f (length (take r.count r.places))
  index-within =
      let z : 0 + length (names_at s (take r.count r.places)) ≡ length (take r.count r.places) = (let y = names-length s (take r.count r.places) in omega arith) in
      subst (Within f) z (rw e (fault-within [] (names_at s (take r.count r.places)) 0))

  pub bad-within : (k : ℕ) → f ≡ Some (Bad k) → k < length (take r.count r.places)
  bad-within k p = rw p at index-within

  pub repeated-within : (k : ℕ) → f ≡ Some (Repeated k) → k < length (take r.count r.places)
  repeated-within k p = rw p at index-within

  pub bad-found : (k : ℕ) → f ≡ Some (Bad k) → name_fault 1 [] (pieces 44 (line_at s at)) ≡ breaks 10 (start_of 1 (pieces 44 (line_at s at)) k)
  bad-found k p = faults-found ∙ rw p

  pub repeated-found : (k : ℕ) → f ≡ Some (Repeated k) → name_fault 1 [] (pieces 44 (line_at s at)) ≡ breaks 9 (start_of 1 (pieces 44 (line_at s at)) k)
  repeated-found k p = faults-found ∙ rw p

  module _ (p : f ≡ None) where
    pub many-found : (i : ℕ) → r.over ≡ Some i → name_fault 1 [] (pieces 44 (line_at s at)) ≡ breaks 11 (start_of 1 (pieces 44 (line_at s at)) 256)
    many-found i z = faults-found ∙ rw p (over_one 1 256 (pieces 44 (line_at s at)) (w.more i z).1)

    module _ (z : r.over ≡ None) where
      pub none_found : name_fault 1 [] (pieces 44 (line_at s at)) ≡ clean
      none_found = faults-found ∙ rw p (over_none 1 256 (pieces 44 (line_at s at)) (omega (arith, w.all z, w.few)))

      names-found : names_at s (take r.count r.places) ≡ names_of (line_at s at)
      names-found = names-whole s at (take r.count r.places) w.placed (places-long ∙ w.all z)

      pub names_required : (k : Sort) (q : Bool) → q ≡ has_all (required_names k) (names_at s (take r.count r.places)) → has_all (required_names k) (names_of (line_at s at)) ≡ q
      names_required k q h = ap (has_all (required_names k)) (sym names-found) ∙ sym h
