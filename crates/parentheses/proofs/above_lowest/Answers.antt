-- `parentheses::above_lowest` meets its contract.
-- Assumes nothing.
use mathlib.Core.Path.{◌≡◌, ap}
use mathlib.Core.List.{List}
use Prim.Native.Nat.{ℕ, ◌+◌, ◌-◌, ◌*◌, ◌≤◌, ◌<◌}
use native.Mathlib.Omega.{arith}
use lib.ListN.{get_or, length}
use Rattle.parentheses.specs.Bits.{bits}
use Rattle.parentheses.specs.Rank.{rank}
use Rattle.parentheses.specs.Search.{Stays}
use Rattle.parentheses.proofs.Ranks.{rank-whole}
use Rattle.parentheses.proofs.Margins.{margin, margin-read, margin-small, margin-whole}
use Rattle.parentheses.proofs.Closes.{stays-byte, stays-more}
use Rattle.parentheses.proofs.above_lowest.Goals as goal

-- the depth after it, by its margin r
after :
    (l : List ℕ) (i m floor depth r : ℕ) → i + m < length l → r ≡ margin (get_or l (i + m) 0) → 8 < floor + r
    → floor + 8 * m + 2 * rank (bits l) (8 * i) ≤ depth + 2 * rank (bits l) (8 * i + 8 * m)
    → floor + r - 8 + 8 * (m + 1) + 2 * rank (bits l) (8 * i) ≤ depth + 2 * rank (bits l) (8 * i + 8 * (m + 1))
after l i m floor depth r h e g f =
    let b = get_or l (i + m) 0 in
    let here : 8 * i + 8 * m ≡ 8 * (i + m) = omega arith in
    let next : 8 * i + 8 * (m + 1) ≡ 8 * (i + m + 1) = omega arith in
    omega (arith, ap (rank (bits l)) here, ap (rank (bits l)) next, rank-whole l (i + m) h, margin-whole b)

stays_on :
    (l : List ℕ) (i m floor depth r : ℕ) → i + m < length l → r ≡ margin (get_or l (i + m) 0) → 8 < floor + r
    → floor + 8 * m + 2 * rank (bits l) (8 * i) ≤ depth + 2 * rank (bits l) (8 * i + 8 * m) → Stays (bits l) (8 * i) (8 * m) depth → Stays (bits l) (8 * i) (8 * (m + 1)) depth
stays_on l i m floor depth r h e g f stays =
    let here : 8 * i + 8 * m ≡ 8 * (i + m) = omega arith in
    let bits-more : 8 * (m + 1) ≡ 8 * m + 8 = omega arith in
    let more : Stays (bits l) (8 * i + 8 * m) 8 floor = rw here (stays-byte l (i + m) floor h (omega (arith, e, g))) in
    rw bits-more (stays-more (bits l) (8 * i) (8 * m) 8 depth floor f stays more)

pub overflow_add-after : goal.overflow_add-after
overflow_add-after c =
    let b = get_or c.args.bytes.now (c.args.i + c.loop-m.m) 0 in
    let e = margin-read b c.margin_of.result (c.type_inv.bytes (c.args.i + c.loop-m.m)).fits c.margin_of.ensures in
    record { fits = omega (arith, e, margin-small b) }

pub loop-m-preserved : goal.loop-m-preserved
loop-m-preserved c =
    let A = c.args in
    let o = c.loop-m in
    let r = c.margin_of.result in
    let h : A.i + o.m < length A.bytes.now = omega arith in
    let more : 8 < o.floor + r = omega arith in
    let e = margin-read (get_or A.bytes.now (A.i + o.m) 0) r (c.type_inv.bytes (A.i + o.m)).fits c.margin_of.ensures in (
      omega arith,
      omega (arith, e, margin-small (get_or A.bytes.now (A.i + o.m) 0)),
      after A.bytes.now A.i o.m o.floor A.depth r h e more o.invariant.2,
      stays_on A.bytes.now A.i o.m o.floor A.depth r h e more o.invariant.2 o.invariant.3,
    )
