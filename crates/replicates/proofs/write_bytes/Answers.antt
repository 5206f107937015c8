use Prim.Native.Nat.{ℕ}
use mathlib.Core.Path.{refl, ap, ◌∙◌}
use native.Mathlib.Omega.{arith}
use lib.Dec.{leb}
use Rattle.lists.specs.Tally.{num}
use Rattle.replicates.proofs.Reaches.{reach-more, bytes-none, bytes-more}
use Rattle.replicates.proofs.Sequences.{as_num}
use Rattle.replicates.proofs.write_bytes.Goals as goal

pub loop-q-init : goal.loop-q-init
loop-q-init c = (c.reach-start.ensures, bytes-none _ _ _ _)

pub loop-q-preserved : goal.loop-q-preserved
loop-q-preserved c =
    let inv = c.loop-q.invariant in
    let r = reach-more _ _ _ _ _ _ inv.0 c.look-seen.ensures c.max-start.ensures in
    (r, bytes-more _ _ _ _ _ _ _ _ _ _ (omega arith) (omega (arith, c.requires.3)) inv.1 c.look-seen.ensures r refl (c.from.ensures ∙ as_num _ ∙ ap (λ (k : ℕ). num (leb c.max-start.result k)) c.oldest_of.ensures))
