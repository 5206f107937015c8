-- `comparing::pass_answer` meets its contract: the line is put on a page of its own. Assumes nothing.
use mathlib.Core.Path.{sym}
use lib.Seq.{length-take-le}
use Rattle.pages.proofs.Puts.{put_as}
use Rattle.chain_pages.proofs.Passes.{put-inside, put-passed, answered-as, answer-fits}
use Rattle.chain_pages.proofs.comparing.pass_answer.Goals as goal

pub slice_bounds-line-end : goal.slice_bounds-line-end
slice_bounds-line-end c =
    put-inside (put_as (answered-as _ _ c.args.answer _ c.record_at-r.ensures c.from.ensures) c.put_answered-n.ensures) (answer-fits _ c.args.answer (λ j. (c.shared_slice_known-2-1.given j).fits))

pub slice_bounds-pass-end : goal.slice_bounds-pass-end
slice_bounds-pass-end c = sym (length-take-le _ _ (put-inside (put_as (answered-as _ _ c.args.answer _ c.record_at-r.ensures c.from.ensures) c.put_answered-n.ensures) (answer-fits _ c.args.answer (λ j. (c.shared_slice_known-2-1.given j).fits))))

pub returns : goal.returns
returns c =
    put-passed (put_as (answered-as _ _ c.args.answer _ c.record_at-r.ensures c.from.ensures) c.put_answered-n.ensures) (answer-fits _ c.args.answer (λ j. (c.shared_slice_known-2-1.given j).fits)) _ _ _ c.pass.ensures
