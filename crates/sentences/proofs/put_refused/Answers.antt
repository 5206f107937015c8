-- `sentences::put_refused` meets its contract. Assumes nothing.
use mathlib.Core.Path.{◌∙◌}
use Rattle.pages.proofs.Puts.{put_as}
use Rattle.sentences.proofs.Refusals.{as-refused}
use Rattle.sentences.proofs.Rooms.{refused-width}
use Rattle.sentences.proofs.put_refused.Goals as goal

pub returns : goal.returns
returns c =
    let is = as-refused c.args.why.refusal _ _ _ _ _ (c.from-number.ensures ∙ c.refusal_number.ensures) c.line_of-l.ensures in
    record { put = put_as is c.put_refusal.ensures.put; other_len_bound = refused-width _ _ _ _ _ _ is c.put_refusal.ensures.l_len_bound }
