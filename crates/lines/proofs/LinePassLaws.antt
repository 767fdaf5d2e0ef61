-- The line pass: plain bytes up to a line feed break no rule of a line; where another byte stands, the line feed is looked for and the rules are read one by one.
use Prim.Native.Nat.{ℕ, ◌+◌, ◌-◌, ◌≤◌, ◌<◌}
use mathlib.Core.Path.{◌≡◌, refl, sym, subst, ◌∙◌}
use mathlib.Core.List.{List}
use mathlib.Core.Bool.{Bool, true, false, cond, ◌&&◌, true≢false}
use native.Mathlib.Omega.{arith}
use lib.ListN.{length, get_or, take, drop, drop_of_length-le, length-take, length-drop}
use lib.Seq.{get_or-drop, get_or-take}
use lib.Dec.{ltb}
use borrow.Author.Tests.{ne_eqb, lt-ltb, le-ltb, le-leb, lt-leb}
use Rattle.std.specs.Prelude.{Some, None, Ok, Err}
use Rattle.line_bytes.specs.Bytes.{every}
use Rattle.line_bytes.specs.Cells.{first_piece, line_at}
use Rattle.line_bytes.specs.Lines.{ill_formed, return_at, control_at}
use Rattle.line_bytes.specs.Inner.Scans.{Scan}
use Rattle.line_bytes.proofs.CellLaws.{line_in_lem, line-end, scan_undo}
use Rattle.line_bytes.specs.Inner.Lines.{is_plain}
use Rattle.line_bytes.proofs.LineLaws.{plain_well_formed, plain_no_return, plain_no_control}
use Rattle.format.specs.Faults.{clean, breaks, ◌then◌, first_of}
use Rattle.format.specs.LineRules.{found_fault, line_rules, byte_rules, unended_rules}
use Rattle.format.specs.Inner.Faults.{byte_fault, line_fault, unended_fault}
use Rattle.format.specs.Inner.Lines.{line_fault_at, line_for, line_of}
use Rattle.format.proofs.RunLaws.{piece-take}

-- ---- runs of plain bytes
pub scan-join : {t : ℕ → Bool} {s : List ℕ} {i j k : ℕ} → Scan t s i j → Scan t s j k → Scan t s i k
scan-join r Scan.still = r
scan-join r (Scan.more q h e) = Scan.more (scan-join r q) h e

-- a block of n bytes from i on, read up to its byte k
pub block-none : (t : ℕ → Bool) (s : List ℕ) (i : ℕ) → Scan t s i (i + 0)
block-none t s i = let e : i + 0 ≡ i = omega arith in rw e Scan.still

module _ (s : List ℕ) (i n k : ℕ) where
  pub block-more : (plain p : Bool) → i + n ≤ length s → k < length (take (i + n - i) (drop i s)) → (plain ≡ true → Scan is_plain s i (i + k))
      → p ≡ is_plain (get_or (take (i + n - i) (drop i s)) k 0) → (plain && p) ≡ true → Scan is_plain s i (i + (k + 1))
  block-more true p f l r e z =
      let m : k < i + n - i = omega (arith, l, length-take (i + n - i) (drop i s)) in
      let a : i + (k + 1) ≡ i + k + 1 = omega arith in
      let b : is_plain (get_or s (i + k) 0) ≡ true = rw (sym (get_or-drop i s k 0), sym (get_or-take (i + n - i) (drop i s) k 0 m)) (sym e ∙ z) in
      rw a (Scan.more (r refl) (omega arith) b)
  block-more false p f l r e z = absurd (true≢false (sym z))

  pub block-whole : (plain : Bool) → i + n ≤ length s → k ≤ length (take (i + n - i) (drop i s)) → length (take (i + n - i) (drop i s)) ≤ k
      → (plain ≡ true → Scan is_plain s i (i + k)) → plain ≡ true → Scan is_plain s i (i + n)
  block-whole plain f l h r z =
      let e : i + k ≡ i + n = omega (arith, f, l, h, length-take (i + n - i) (drop i s), length-drop i s) in
      subst (λ (j : ℕ). Scan is_plain s i j) e (r z)

-- up to a line feed: the line, of plain bytes
plain_up-to : (s : List ℕ) (i q : ℕ) → Scan is_plain s i q → q < length s → get_or s q 0 ≡ 10
    → (every is_plain (line_at s i) ≡ true) × (i + length (line_at s i) ≡ q)
unfolding every
plain_up-to s i q r l f = scan_undo P one r (rw (line-end s q l f) (refl, omega arith))
  where
    P : ℕ → Type 0
    P j = (every is_plain (line_at s j) ≡ true) × (j + length (line_at s j) ≡ q)

    one : (j : ℕ) → j < length s → is_plain (get_or s j 0) ≡ true → P (j + 1) → P j
    one j h e (a, b) =
        rw (line_in_lem s j h (ne_eqb (get_or s j 0) 10 (λ z. true≢false (sym (rw z at e)))))
        (rw e a, omega arith)

cond-clean : (b : Bool) → cond b clean clean ≡ clean
cond-clean true = refl
cond-clean false = refl

pub line_plain : (control : Bool) (s : List ℕ) (i q : ℕ) → Scan is_plain s i q → q < length s → q ≤ i + 8192 → get_or s q 0 ≡ 10 → Ok q ≡ line_of control s i
unfolding line_of line_fault_at line_fault line_rules byte_rules first_of
line_plain control s i q r l h f =
    let w = plain_up-to s i q r l f in
    let x = line_at s i in
    rw (w.1, lt-ltb q (length s) l, le-leb (length x) 8192 (omega arith), plain_well_formed x w.0, plain_no_return x w.0, plain_no_control x w.0, cond-clean control)

-- ---- the line whose end was looked for
module _ (control : Bool) (s : List ℕ) (i e : ℕ) (d : e ≡ i + length (line_at s i)) where
  pub odd-long : 8192 < e - i → Err (record { number = 1; column = 8193 }) ≡ line_of control s i
  unfolding line_of line_fault_at line_fault line_rules byte_rules first_of unended_fault unended_rules
  odd-long z = rw (lt-leb (length (line_at s i)) 8192 (omega arith)) (go (ltb (i + length (line_at s i)) (length s)))
    where
      go : (b : Bool) → Err (record { number = 1; column = 8193 }) ≡ line_for (cond b (breaks 1 8193) (breaks 1 8193)) (i + length (line_at s i))
      go true = refl
      go false = refl

  module _ (z : e - i ≤ 8192) where
    pub odd_cut : length s ≤ e → Err (record { number = 2; column = e - i + 1 }) ≡ line_of control s i
    unfolding line_of line_fault_at unended_fault unended_rules first_of
    odd_cut h =
        let u : length (line_at s i) ≡ e - i = omega arith in
        rw (u, le-ltb (i + (e - i)) (length s) (omega arith), le-leb (e - i) 8192 z)

    pub odd-fed : e < length s → line_for (byte_fault control (take (e - i) (drop i s))) e ≡ line_of control s i
    unfolding line_of line_fault_at line_fault line_rules byte_rules first_of byte_fault
    odd-fed h =
        let u : e - i ≡ length (line_at s i) = omega arith in
        rw (u, piece-take, sym d, lt-ltb e (length s) h, le-leb (length (line_at s i)) 8192 (omega arith))

-- ---- rules 3, 4 and 5
module _ (control : Bool) (x : List ℕ) (j : ℕ) where
  pub bytes-ill_formed : ill_formed x ≡ Some j → byte_fault control x ≡ breaks 3 (j + 1)
  unfolding byte_fault byte_rules first_of
  bytes-ill_formed a = rw a

  pub bytes_return : ill_formed x ≡ None → return_at x ≡ Some j → byte_fault control x ≡ breaks 4 (j + 1)
  unfolding byte_fault byte_rules first_of
  bytes_return a b = rw (a, b)

  pub bytes_control : ill_formed x ≡ None → return_at x ≡ None → control ≡ true → control_at x ≡ Some j → byte_fault control x ≡ breaks 5 (j + 1)
  unfolding byte_fault byte_rules first_of
  bytes_control a b d f = rw (a, b, d, f)

module _ (control : Bool) (x : List ℕ) where
  pub bytes-clean : ill_formed x ≡ None → return_at x ≡ None → (control ≡ true → control_at x ≡ None) → byte_fault control x ≡ clean
  unfolding byte_fault byte_rules first_of
  bytes-clean a b f = rw (a, b) (go control f)
    where
      go : (c : Bool) → (c ≡ true → control_at x ≡ None) → (cond c (found_fault 5 (control_at x)) clean then clean) ≡ clean
      go true f = rw (f refl)
      go false f = refl

-- past the last byte there is a line without its line feed
pub line_past : (control : Bool) (s : List ℕ) (i : ℕ) → length s ≤ i → Err (record { number = 2; column = 1 }) ≡ line_of control s i
unfolding line_of line_fault_at unended_fault unended_rules first_of first_piece
line_past control s i h = rw (drop_of_length-le s h) (rw (le-ltb (i + 0) (length s) (omega arith)))
