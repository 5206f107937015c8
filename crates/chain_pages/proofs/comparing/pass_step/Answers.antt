-- `comparing::pass_step` meets its contract: the line is put on a page of its own. Assumes nothing.
use mathlib.Core.Path.{sym}
use lib.Seq.{length-take-le}
use Rattle.chain_pages.proofs.Passes.{put-inside, put-passed, narrow-line}
use Rattle.chain_pages.proofs.comparing.pass_step.Goals as goal

pub slice_bounds-line-end : goal.slice_bounds-line-end
slice_bounds-line-end c = put-inside c.put_step-n.ensures (narrow-line _ _ c.requires)

pub slice_bounds-pass-end : goal.slice_bounds-pass-end
slice_bounds-pass-end c = sym (length-take-le _ _ (put-inside c.put_step-n.ensures (narrow-line _ _ c.requires)))

pub returns : goal.returns
returns c = put-passed c.put_step-n.ensures (narrow-line _ _ c.requires) _ _ _ c.pass.ensures
