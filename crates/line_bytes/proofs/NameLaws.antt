-- What the functions of names show at each return.
use Prim.Native.Nat.{ℕ, zero, suc, ◌+◌, ◌-◌, ◌≤◌, ◌<◌}
use mathlib.Core.Path.{◌≡◌, sym}
use mathlib.Core.List.{List}
use mathlib.Core.Bool.{true, false, cond, ◌&&◌, and-false, Bool}
use native.Mathlib.Omega.{arith}
use lib.Dec.{eqb, leb}
use lib.ListN.{length, take, length-take, length-drop}
use borrow.Author.Tests.{le-leb, lt-leb}
use Rattle.std.specs.Cmp.Lexicographic.{pointwise}
use Rattle.line_bytes.specs.Bytes.{bytes, every, equal}
use Rattle.line_bytes.specs.Names.{last_seven, parameter_length, name_byte, is_name, begins_ctd}
use Rattle.line_bytes.proofs.EqualLaws.{equal_pointwise, equal_lengths}
use lib.Seq.{take_all}

module _ (t : List ℕ) where
  pub parameter_found : (xs : List ℕ) → pointwise eqb (last_seven t) (bytes "_FLAG_W") ≡ true → length xs + 7 ≡ length t → length xs ≡ parameter_length t
  unfolding parameter_length
  parameter_found xs e l = let n = length xs in let q : length t - 7 ≡ n = omega arith in rw (sym (equal_pointwise (last_seven t) (bytes "_FLAG_W")), e, q) (go n l)
    where
      go : (n : ℕ) → n + 7 ≡ length t → n ≡ cond (leb 8 (length t) && true) n 0
      go zero l = rw (sym l)
      go (suc n) l = rw (le-leb 8 (length t) (omega arith))

  pub parameter-none : pointwise eqb (last_seven t) (bytes "_FLAG_W") ≡ false → 0 ≡ parameter_length t
  unfolding parameter_length
  parameter-none e = rw (sym (equal_pointwise (last_seven t) (bytes "_FLAG_W")), e, and-false (leb 8 (length t)))

  pub name_empty : length t < 1 → false ≡ is_name t
  unfolding is_name
  name_empty h = rw (lt-leb 1 (length t) h)

  pub name_by-bytes : (b : Bool) → 1 ≤ length t → every name_byte t ≡ b → b ≡ is_name t
  unfolding is_name
  name_by-bytes b h e = rw (le-leb 1 (length t) h, e)

  pub parameter-short : length t < 8 → 0 ≡ parameter_length t
  unfolding parameter_length
  parameter-short h = rw (lt-leb 8 (length t) h)

  pub parameter_by_suffix : (b : Bool) → 8 ≤ length t → b ≡ equal (take (length t - (length t - 7)) (last_seven t)) (bytes "_FLAG_W") → cond b (length t - 7) 0 ≡ parameter_length t
  unfolding parameter_length
  parameter_by_suffix b h e =
      let l : length (last_seven t) ≤ length t - (length t - 7) = rw length-drop (omega arith) in
      rw (le-leb 8 (length t) h, e, take_all (length t - (length t - 7)) (last_seven t) l)

  pub ctd-short : length t < 3 → false ≡ begins_ctd t
  unfolding begins_ctd
  ctd-short h = rw (equal_lengths (take 3 t) (bytes "CTD") (λ e. omega (arith, simp length-take at e)))
