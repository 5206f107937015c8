-- `parentheses::find_close_by` meets its contract: `depth` is the excess from `open` to before `p`, and what closes `open` is what a search from
-- there finds.
-- Assumes nothing.
use mathlib.Core.Path.{sym, ◌∙◌}
use mathlib.Core.Bool.{false}
use Prim.Native.Nat.{◌+◌, ◌*◌, ◌<◌}
use native.Mathlib.Omega.{arith}
use lib.ListN.{get_or, length}
use Rattle.parentheses.specs.Bits.{bits}
use Rattle.parentheses.proofs.Ranks.{num-le}
use Rattle.parentheses.proofs.Founds.{found_some, found_none}
use Rattle.parentheses.proofs.Closes.{opened, bit_found, bit-passed, none_left}
use Rattle.parentheses.proofs.find_close_by.Goals as goal

pub returns-then-next-bytes : goal.returns-then-next-bytes
returns-then-next-bytes c =
    let a = c.args in
    let l = a.bytes.now in
    rw (← opened l a.«open» c.requires.2, none_left l (a.«open» + 1) 1 (omega arith))
    (sym (found_none (8 * length l) (8 * length l) (omega arith)))

pub loop-p-init : goal.loop-p-init
loop-p-init c =
    let a = c.args in
    (omega arith, omega arith, opened a.bytes.now a.«open» c.requires.2)

pub returns-then-depth-eq0 : goal.returns-then-depth-eq0
returns-then-depth-eq0 c =
    let l = c.args.bytes.now in
    let p = c.loop-p.p in
    rw (
      ← c.loop-p.invariant.2,
      bit_found l p c.loop-p.depth c.after_bit-depth.result (omega arith) c.after_bit-depth.ensures (omega arith),
    )
    (sym (found_some (8 * length l) p (omega arith)))

pub loop-p-preserved : goal.loop-p-preserved
loop-p-preserved c =
    let l = c.args.bytes.now in
    let p = c.loop-p.p in
    let more : 0 < c.after_bit-depth.result = omega arith in
    let le = num-le (get_or (bits l) p false) in (
      more,
      omega arith,
      sym (bit-passed l p c.loop-p.depth c.after_bit-depth.result (omega arith) c.after_bit-depth.ensures more) ∙ c.loop-p.invariant.2,
    )
