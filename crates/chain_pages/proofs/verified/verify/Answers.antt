-- `verified::verify` meets its contract: what was read verifies, or nothing does. Assumes nothing.
use native.Mathlib.Omega.{arith}
use borrow.Author.Rules.{rules}
use Prim.Native.Nat.{ℕ, ◌*◌}
use mathlib.Core.Path.{sym}
use lib.ListN.{length-replicate}
use lib.Seq.{length-take-le}
use Rattle.chain_pages.proofs.Inverse.{page-judged}
use Rattle.chain_pages.proofs.verified.verify.Goals as goal

pub slice_bounds-read_steps-end : goal.slice_bounds-read_steps-end
slice_bounds-read_steps-end c = sym (length-replicate {A = ℕ} 164000 0)

pub read_steps-n-requires : goal.read_steps-n-requires
read_steps-n-requires c = (c.read_head-head.ensures.inside, omega (arith, length-replicate {A = ℕ} 164000 0))

pub overflow_mul-end : goal.overflow_mul-end
overflow_mul-end c = omega (arith, c.read_steps-n.ensures.0)

pub slice_bounds-c-end : goal.slice_bounds-c-end
slice_bounds-c-end c = omega (arith, c.read_steps-n.ensures.0, c.read_steps-n.auto, length-replicate {A = ℕ} 164000 0)

pub slice_bounds-is_page_of-end-2 : goal.slice_bounds-is_page_of-end-2
slice_bounds-is_page_of-end-2 c = sym (length-take-le _ _ (omega (arith, c.read_steps-n.ensures.0, c.read_steps-n.auto, length-replicate {A = ℕ} 164000 0)))

pub is_page_of-requires : goal.is_page_of-requires
is_page_of-requires c = (search rules, omega (arith, length-take-le (10 * c.read_steps-n.result) c.read_steps-n.new.c (omega (arith, c.read_steps-n.ensures.0, c.read_steps-n.auto, length-replicate {A = ℕ} 164000 0)), c.read_steps-n.ensures.0))

pub returns : goal.returns
returns c =
    page-judged _ _ _ _ _ _ _ _ c.read_head-head.ensures c.six_bytes-claim.ensures c.read_steps-n.ensures.1 c.is_page_of.ensures
