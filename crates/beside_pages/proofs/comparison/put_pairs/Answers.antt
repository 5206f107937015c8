-- `beside_pages::put_pairs` meets its contract. Assumes nothing.
use native.Mathlib.Omega.{arith}
use mathlib.Core.Path.{ap}
use Rattle.pages.proofs.Puts.{put_as}
use Rattle.beside_pages.specs.ComparisonText.{pair_lines}
use Rattle.beside_pages.proofs.ComparisonTexts.{no-pair, next-pair}
use Rattle.beside_pages.proofs.comparison.put_pairs.Goals as goal

pub loop-i-init : goal.loop-i-init
loop-i-init c = no-pair _ _

pub bounds-bytes-k : goal.bounds-bytes-k
bounds-bytes-k c = omega (arith, c.requires)

pub bounds-bytes-k-in-loop-i : goal.bounds-bytes-k-in-loop-i
bounds-bytes-k-in-loop-i c = omega (arith, c.requires)

pub bounds-bytes-k-in-loop-i-2 : goal.bounds-bytes-k-in-loop-i-2
bounds-bytes-k-in-loop-i-2 c = omega (arith, c.requires)

pub loop-i-preserved : goal.loop-i-preserved
loop-i-preserved c =
    next-pair c.args.claims.now c.args.bytes.now c.loop-i.i _ c.record_at-claim.ensures c.loop-i.invariant c.put_pair-end.ensures

pub returns : goal.returns
returns c = put_as (ap (pair_lines c.args.claims.now c.args.bytes.now) (omega arith)) c.loop-i.invariant
