-- `parentheses::enclose` meets its contract: `shut` is how many more zeros than ones stand from `p` to before `open`.
-- Assumes nothing.
use mathlib.Core.Path.{sym, ap, ◌∙◌}
use native.Mathlib.Omega.{arith}
use Rattle.parentheses.specs.Bits.{bits}
use Rattle.lists.specs.Tally.{num}
use Rattle.parentheses.specs.Enclose.{opens}
use Rattle.parentheses.proofs.Ranks.{bool-num}
use Rattle.parentheses.proofs.Encloses.{all_left, bit-opens, bit-shut, bit-left, last_none}
use Rattle.parentheses.proofs.enclose.Goals as goal

pub loop-p-init : goal.loop-p-init
loop-p-init c = (omega arith, omega arith, all_left (bits c.args.bytes.now) c.args.«open»)

pub returns-then-shut-one : goal.returns-then-shut-one
returns-then-shut-one c =
    let bs = bits c.args.bytes.now in
    let o = c.args.«open» in
    let p = c.loop-p.p in
    let s = c.loop-p.shut in
    let inv = c.loop-p.invariant in
    let n = c.from-one.ensures ∙ bool-num c.get.result ∙ ap num c.get.ensures in
    bit-opens bs o p s inv.1 (omega arith) inv.2 (omega arith)

pub loop-p-preserved : goal.loop-p-preserved
loop-p-preserved c =
    let bs = bits c.args.bytes.now in
    let o = c.args.«open» in
    let p = c.loop-p.p in
    let s = c.loop-p.shut in
    let inv = c.loop-p.invariant in
    let n = c.from-one.ensures ∙ bool-num c.get.result ∙ ap num c.get.ensures in (
      omega arith,
      rw n (bit-shut bs o p s inv.1 (omega arith) inv.2 (omega arith)),
      bit-left bs o p s inv.1 (omega arith) inv.2 (omega arith),
    )

pub returns : goal.returns
returns c =
    let bs = bits c.args.bytes.now in
    let o = c.args.«open» in
    sym (last_none (opens bs o) c.loop-p.p (omega arith)) ∙ c.loop-p.invariant.2
