use mathlib.Core.Path.{◌≡◌}
use native.Mathlib.Omega.{arith}
use Rattle.rules.specs.Fact.{fact_of}
use Rattle.grids.specs.Loaded.{same_fact}
use Rattle.grids.proofs.Puts.{put_all, other}
use Rattle.grids.proofs.put.Goals as goal

pub returns-in-1 : goal.returns-in-1
unfolding fact_of same_fact
returns-in-1 c = let e : c.args.kind ≡ 1 = omega arith in rw e (put_all _ _ _ c.insert.ensures.bits (other _) (other _) (other _))

pub returns-in-2 : goal.returns-in-2
unfolding fact_of same_fact
returns-in-2 c = let e : c.args.kind ≡ 2 = omega arith in rw e (put_all _ _ _ (other _) c.insert-in-2.ensures.bits (other _) (other _))

pub returns-in-3 : goal.returns-in-3
unfolding fact_of same_fact
returns-in-3 c = let e : c.args.kind ≡ 3 = omega arith in rw e (put_all _ _ _ (other _) (other _) c.insert-in-3.ensures.bits (other _))

pub returns-in_default : goal.returns-in_default
unfolding fact_of same_fact
returns-in_default c =
    let e : c.args.kind ≡ 4 = omega arith in
    rw e (put_all _ _ _ (other _) (other _) (other _) c.insert-in_default.ensures.bits)
