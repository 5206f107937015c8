-- `reading::read_steps` meets its contract. Assumes nothing.
use Prim.Native.Nat.{◌*◌, ◌≤◌}
use native.Mathlib.Omega.{arith}
use mathlib.Core.Path.{◌≡◌, refl, ap, ◌∙◌}
use lib.ListN.{length, take}
use Rattle.chain_pages.proofs.Steps.{put-kept, at-end, at_most, one_more}
use Rattle.chain_pages.proofs.reading.read_steps.Goals as goal

pub loop-n-init : goal.loop-n-init
loop-n-init c = record { inside = c.requires.0; kept = refl; so_far = refl }

pub loop-n-preserved : goal.loop-n-preserved
loop-n-preserved c =
    let v = c.loop-n.invariant in
    let room : 164000 ≤ length c.loop-n.c = omega (arith, c.requires.1, v.kept) in
    record {
      inside = c.read_step-read.ensures.inside;
      kept = put-kept _ _ _ _ (omega (arith, room)) c.put_step.ensures ∙ v.kept;
      so_far =
          one_more c.args.s.now c.loop-n.c _ c.loop-n.at c.loop-n.n v.so_far _ _ _ _ _ c.loop-n-test.true room c.digits_behind-from.ensures c.if-from-to.false
          c.read_step-read.ensures c.put_step.ensures;
    }

pub returns-then-from-to : goal.returns-then-from-to
returns-then-from-to c =
    (omega arith, at-end c.args.s.now c.loop-n.c _ c.loop-n.at c.loop-n.n c.loop-n.invariant.so_far _ _ c.digits_behind-from.ensures c.if-from-to.true)

pub returns : goal.returns
returns c =
    let e : 164000 ≡ 10 * c.loop-n.n = omega arith in
    (omega arith, ap (λ k. take k c.loop-n.c) e ∙ at_most c.args.s.now c.loop-n.c _ c.loop-n.at c.loop-n.n c.loop-n.invariant.so_far (omega arith))
