-- `beside_pages::put_refused_in` meets its contract. Assumes nothing.
use native.Mathlib.Omega.{arith}
use Rattle.pages.proofs.Puts.{chain, put_as}
use Rattle.beside_pages.proofs.ComparisonTexts.{in-second, in-first, second_short, first_short}
use Rattle.beside_pages.proofs.comparison.put_refused_in.Goals as goal

pub returns-then-of-eq-SECOND : goal.returns-then-of-eq-SECOND
returns-then-of-eq-SECOND c =
    record { put = put_as (in-second _ _ _ _ _ _ c.if-of-eq-SECOND.true) (chain c.put_prefix_of-at.ensures c.put_refused.ensures.put); claims_len_bound = second_short _ _ _ _ _ _ c.if-of-eq-SECOND.true c.put_refused.ensures.other_len_bound }

pub returns : goal.returns
returns c =
    record { put = put_as (in-first _ _ _ _ _ _ (omega arith)) c.put_refused-2.ensures.put; claims_len_bound = first_short _ _ _ _ _ _ (omega arith) c.put_refused-2.ensures.other_len_bound }
