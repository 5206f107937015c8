-- `parentheses::select` meets its contract: `left` ones are to pass of those from byte `i` on.
-- Assumes nothing.
use mathlib.Core.Path.{◌≡◌, sym, ap}
use mathlib.Core.Bool.{Bool}
use mathlib.Core.List.{List, [], ◌∷◌}
use Prim.Native.Nat.{ℕ, suc, min, max, ◌+◌, ◌-◌, ◌*◌, ◌/◌, ◌%◌, ◌^◌, ◌≤◌, ◌<◌, zero-le}
use native.Mathlib.Nat.{le_refl}
use native.Mathlib.Omega.{arith}
use lib.ListN.{get_or, length}
use mir.Syntax.{w64}
use mir.Val.{Fits}
use Rattle.parentheses.specs.Bits.{bits}
use Rattle.parentheses.specs.Rank.{rank, select}
use Rattle.parentheses.specs.Tables.{ones_of}
use Rattle.parentheses.proofs.PackedLaws.{bits-length}
use Rattle.parentheses.proofs.Ranks.{rank-zero, rank-whole, rank-byte}
use Rattle.std.specs.Prelude.{Some, None}
use Rattle.parentheses.specs.Found.{found_below}
use Rattle.parentheses.proofs.Founds.{found_some, found_none}
use Rattle.parentheses.proofs.Selects.{select-is, select-none}
use Rattle.parentheses.proofs.select.Goals as goal

-- the r bytes of n that are taken at once from byte i on
record Taken (n i r : ℕ) : Type 0 where
  fits : Fits w64 (i + r)
  on : i ≤ i + r
  within : i + r ≤ n
  small : 8 * (i + r) < 2 ^ 64
  nearer : n - (i + r) < n - i

-- where they have more ones than are left to pass, they are one byte
only_one : (n i left r ones : ℕ) → i < n → r ≡ min (n - i) (max 1 (left / 8)) → left < ones → ones ≤ 8 * (i + r - i) → r ≡ 1
only_one n i left r ones h e t k = omega arith

one_byte :
    (l : List ℕ) (i left r ones : ℕ) → i < length l → left < ones → r ≡ 1 → rank (bits l) (8 * i) + ones ≡ rank (bits l) (8 * (i + r)) → left < ones_of (get_or l i 0)
one_byte l i left r ones h t e counted = omega (arith, ap (λ (m : ℕ). rank (bits l) (8 * (i + m))) e, rank-whole l i h)

-- the position in it
place : (i n s : ℕ) → i < n → 8 * n < 2 ^ 64 → s < 8 → (Fits w64 (i * 8 % 2 ^ 64 + s)) × (i * 8 % 2 ^ 64 + s ≡ 8 * i + s) × (8 * i + s < 8 * n)
place i n s h k g = (omega arith, omega arith, omega arith)

hit :
    (l : List ℕ) (j i left s : ℕ) → i < length l → 8 * length l < 2 ^ 64 → left + rank (bits l) (8 * i) ≡ j → s < 8
    → rank (bits (get_or l i 0 ∷ [])) s ≡ left → rank (bits (get_or l i 0 ∷ [])) (s + 1) ≡ left + 1
    → Some (i * 8 % 2 ^ 64 + s) ≡ found_below (8 * length l) (select (bits l) j)
hit l j i left s h k e g f t =
    let a = place i (length l) s h k g in
    let n : suc (8 * i + s) ≡ 8 * i + (s + 1) = omega arith in
    rw (
      a.1,
      select-is (bits l) j (8 * i + s) (omega (arith, bits-length l, a.2)) (omega (arith, rank-byte l i s h (omega (arith, g))))
          (omega (arith, ap (rank (bits l)) n, rank-byte l i (s + 1) h (omega (arith, g)))),
    )
    (sym (found_some (8 * length l) (8 * i + s) a.2))

-- past the last byte there is none
missed : (l : List ℕ) (j i left : ℕ) → length l ≤ i → i ≤ length l → left + rank (bits l) (8 * i) ≡ j → None ≡ found_below (8 * length l) (select (bits l) j)
missed l j i left h k e =
    let n : length (bits l) ≡ 8 * i = omega (arith, bits-length l) in
    rw (select-none (bits l) j (omega (arith, ap (rank (bits l)) n)), bits-length l) (sym (found_none (8 * length l) (8 * length l) (le_refl (8 * length l))))

none_yet : (bs : List Bool) (j : ℕ) → j + rank bs 0 ≡ j
none_yet bs j = omega (arith, rank-zero bs)

pub loop-i-init : goal.loop-i-init
loop-i-init c = (zero-le, none_yet (bits c.args.bytes.now) c.args.j)

pub select_in-requires : goal.select_in-requires
select_in-requires c =
    let r = c.run-m in
    let here = c.loop-i-test.true in
    one_byte c.args.bytes.now c.loop-i.i c.loop-i.left r.result c.ones_in-ones.result here c.if-left-ones.true
    (only_one _ c.loop-i.i c.loop-i.left r.result c.ones_in-ones.result here r.ensures c.if-left-ones.true c.ones_in-ones.ensures.1) c.ones_in-ones.ensures.0

pub returns-then-left-ones : goal.returns-then-left-ones
returns-then-left-ones c =
    let s = c.select_in in
    hit c.args.bytes.now c.args.j c.loop-i.i c.loop-i.left s.result c.loop-i-test.true c.requires
    c.loop-i.invariant.1 s.ensures.0 s.ensures.1 s.ensures.2

pub returns : goal.returns
returns c =
    missed c.args.bytes.now c.args.j c.loop-i.i c.loop-i.left c.loop-i-test.false c.loop-i.invariant.0 c.loop-i.invariant.1
