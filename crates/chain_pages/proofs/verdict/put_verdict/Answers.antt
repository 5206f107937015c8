-- `verdict::put_verdict` meets its contract. Assumes nothing.
use mathlib.Core.Path.{ap, sym}
use Rattle.pages.proofs.Puts.{put_as}
use Rattle.chain_pages.specs.Verdict.{verdict_line}
use Rattle.chain_pages.proofs.verdict.put_verdict.Goals as goal

pub returns-then-passes : goal.returns-then-passes
unfolding verdict_line
returns-then-passes c = put_as (ap verdict_line (sym c.if-passes.true)) c.put.ensures

pub returns : goal.returns
unfolding verdict_line
returns c = put_as (ap verdict_line (sym c.if-passes.false)) c.put-2.ensures
