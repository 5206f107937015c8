-- `parentheses::search` meets its contract: `d` is the depth before `q`, and what is sought is what a search from there finds. The table's
-- rule is one test over its 256 entries, which antt computes.
-- Assumes nothing.
use mathlib.Core.Path.{◌≡◌, refl, sym, ap, ◌∙◌}
use mathlib.Core.Bool.{false}
use mathlib.Core.List.{List}
use Prim.Native.Nat.{ℕ, ◌+◌, ◌-◌, ◌*◌, ◌/◌, ◌%◌, ◌^◌, ◌≤◌, ◌<◌}
use native.Mathlib.Nat.{le_refl}
use native.Mathlib.Omega.{arith}
use lib.ListN.{get_or, length}
use mir.Syntax.{w64}
use mir.Val.{Fits}
use Rattle.lists.specs.Tab.{tab}
use Rattle.lists.specs.Tally.{num}
use Rattle.parentheses.specs.Bits.{bits, bit_of, digit}
use Rattle.parentheses.specs.Rank.{rank}
use Rattle.parentheses.specs.Close.{excess}
use Rattle.parentheses.specs.Search.{closing, Stays}
use Rattle.parentheses.specs.Tables.{lower, lowest, lowest_of}
use Rattle.parentheses.proofs.Masks.{low3}
use Rattle.parentheses.proofs.Ranks.{num-le}
use Rattle.parentheses.proofs.Founds.{found_some, found_none}
use Rattle.parentheses.proofs.Closes.{bit_found, bit-passed, run-above, run-passed, none_left}
use Rattle.parentheses.proofs.search.Goals as goal

-- what is known of a run of m bytes, r of their bits ones, that is passed over from the start of the byte at p
record Run (l : List ℕ) (p d m r : ℕ) : Type 0 where
  few : r ≤ 8 * m
  rises : Fits w64 (d + r)
  long : Fits w64 (8 * m)
  past : Fits w64 (p + 8 * m)
  deep : 8 * m - r ≤ d + r
  within : p + 8 * m ≤ 8 * length l
  nearer : 8 * length l - (p + 8 * m) < 8 * length l - p
  above : 0 < d + r - (8 * m - r)
  low : d + r - (8 * m - r) ≤ p + 8 * m
  same : closing (bits l) p d ≡ closing (bits l) (p + 8 * m) (d + r - (8 * m - r))

run_of :
    (l : List ℕ) (p d m r : ℕ) → p % 8 ≡ 0 → p / 8 + m ≤ length l → 8 * length l < 2 ^ 64 → 0 < m → d ≤ p → r ≤ 8 * (p / 8 + m - p / 8)
    → Stays (bits l) (8 * (p / 8)) (8 * m) d → rank (bits l) (8 * (p / 8)) + r ≡ rank (bits l) (8 * (p / 8 + m)) → Run l p d m r
run_of l p d m r aligned fit small some low ones stays counted =
    let start : 8 * (p / 8) ≡ p = omega (arith, aligned) in
    let over : 8 * (p / 8 + m) ≡ p + 8 * m = omega (arith, aligned) in
    let few : r ≤ 8 * m = omega (arith, ones) in
    let within : p + 8 * m ≤ 8 * length l = omega (arith, aligned, fit) in
    let counts : rank (bits l) p + r ≡ rank (bits l) (p + 8 * m) = omega (arith, counted, ap (rank (bits l)) start, ap (rank (bits l)) over) in
    let stay : Stays (bits l) p (8 * m) d = rw start at stays in
    let above : 8 * m < d + 2 * r = run-above l p (8 * m) d r within (omega (arith, some)) stay counts in
    record {
      few = few;
      rises = omega (arith, few, within, small, low);
      long = omega (arith, within, small);
      past = omega (arith, within, small);
      deep = omega (arith, above);
      within = within;
      nearer = omega (arith, within, some);
      above = omega (arith, above);
      low = omega (arith, few, low);
      same = run-passed l p (8 * m) d r within (omega (arith, some)) stay counts few;
    }

-- bounds that a run and a bit ask
run-asks : (q n m : ℕ) → q / 8 + m ≤ n → 8 * n < 2 ^ 64 → Fits w64 (q / 8 + m) × (q / 8 ≤ q / 8 + m) × (8 * (q / 8 + m) < 2 ^ 64)
run-asks q n m h s = (omega arith, omega arith, omega arith)

in-byte : (q n : ℕ) → q < 8 * n → q / 8 < n
in-byte q n h = omega arith

next : (q n : ℕ) → q < n → q + 1 ≤ n
next q n h = omega arith

positive : (r : ℕ) → (r ≡ 0 → ⊥) → 0 < r
positive r h = omega arith

after-low : (r d q x : ℕ) → r + 1 ≡ d + 2 * x → x ≤ 1 → d ≤ q → r ≤ q + 1
after-low r d q x e h k = omega arith

pub passable-m-requires : goal.passable-m-requires
unfolding lowest_of lowest lower excess rank bits bit_of digit tab
passable-m-requires c =
    let in-bits : c.loop-q.q < 8 * length c.args.bytes.now = omega (arith, c.loop-q-test.true) in
    (in-byte c.loop-q.q (length c.args.bytes.now) in-bits, c.requires.1, c.loop-q.invariant.1, refl)

pub loop-q-preserved-then-m-gt0 : goal.loop-q-preserved-then-m-gt0
loop-q-preserved-then-m-gt0 c =
    let run : Run c.args.bytes.now c.loop-q.q
    c.loop-q.d c.passable-m.result c.ones_between-ones.result = let p = c.passable-m in
    run_of c.args.bytes.now c.loop-q.q c.loop-q.d p.result c.ones_between-ones.result
    (sym (low3 c.loop-q.q) ∙ c.if-q-eq0.true) p.ensures.0 c.requires.1 c.if-m-gt0.true
    c.loop-q.invariant.2 c.ones_between-ones.ensures.1 p.ensures.1 c.ones_between-ones.ensures.0 in
    let r = run in
    (r.within, r.above, r.low, sym r.same ∙ c.loop-q.invariant.3)

pub returns-then-d-eq0 : goal.returns-then-d-eq0
returns-then-d-eq0 c =
    let in-bits : c.loop-q.q < 8 * length c.args.bytes.now = omega (arith, c.loop-q-test.true) in
    let l = c.args.bytes.now in
    let q = c.loop-q.q in
    let here : q < 8 * length l = in-bits in
    rw (← c.loop-q.invariant.3, bit_found l q c.loop-q.d c.after_bit-d.result here c.after_bit-d.ensures c.if-d-eq0.true)
    (sym (found_some (8 * length l) q here))

pub loop-q-preserved : goal.loop-q-preserved
loop-q-preserved c =
    let in-bits : c.loop-q.q < 8 * length c.args.bytes.now = omega (arith, c.loop-q-test.true) in
    let l = c.args.bytes.now in
    let o = c.loop-q in
    let r = c.after_bit-d in
    let here : o.q < 8 * length l = in-bits in
    let more : 0 < r.result = positive r.result c.if-d-eq0.false in (
      next o.q (8 * length l) here,
      more,
      after-low r.result o.d o.q (num (get_or (bits l) o.q false)) r.ensures (num-le (get_or (bits l) o.q false)) o.invariant.2,
      sym (bit-passed l o.q o.d r.result here r.ensures more) ∙ o.invariant.3,
    )

pub returns : goal.returns
returns c =
    let l = c.args.bytes.now in
    let past : c.loop-q.q ≡ 8 * length l = omega (arith, c.loop-q-test.false, c.loop-q.invariant.0) in
    rw (← c.loop-q.invariant.3, none_left l c.loop-q.q c.loop-q.d past) (sym (found_none (8 * length l) (8 * length l) (le_refl (8 * length l))))
