-- `derivations::search::cite_record` meets its contract. Assumes nothing.
use mathlib.Core.Path.{sym, ◌∙◌}
use Rattle.derivations.proofs.Serving.{pieces-in, cited-straight, cited-swapped}
use native.Mathlib.Omega.{arith}
use Rattle.derivations.proofs.search.cite_record.Goals as goal

pub joins-requires : goal.joins-requires
joins-requires c =
    let l = c.requires.0.bounded.fits in let p = pieces-in c.requires.0 _ _ _ _ _ c.requires.3 c.requires.4 _ c.record_at-r.ensures in (c.requires.0.parts, c.requires.0.toward, omega (arith, c.requires.1), omega (arith, c.requires.2), omega (arith, p.0), omega (arith, p.1))

pub returns-then-joins : goal.returns-then-joins
returns-then-joins c =
    cited-straight c.requires.0 _ _ _ _ _ c.requires.3 c.requires.4 _ c.record_at-r.ensures (sym c.joins.ensures ∙ c.if-joins.true)

pub returns-else-joins : goal.returns-else-joins
returns-else-joins c =
    cited-swapped c.requires.0 _ _ _ _ _ c.requires.3 c.requires.4 _ c.record_at-r.ensures (sym c.joins.ensures ∙ c.if-joins.false)
