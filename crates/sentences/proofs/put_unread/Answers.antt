-- `sentences::put_unread` meets its contract. Assumes nothing.
use mathlib.Core.Path.{sym, ◌∙◌}
use mathlib.Core.Bool.{false≢true}
use Rattle.pages.proofs.Puts.{chain, put_as}
use Rattle.sentences.proofs.Unreads.{of_words, of-text}
use Rattle.sentences.proofs.Rooms.{unread-width}
use Rattle.sentences.proofs.put_unread.Goals as goal

pub returns-then-not-has_lines : goal.returns-then-not-has_lines
returns-then-not-has_lines c =
    let h = sym c.has_lines.ensures ∙ c.if-not-has_lines.true in
    record {
      put = put_as (of_words _ _ _ h) (chain c.put_prefix-at.ensures (chain c.put-at.ensures c.put_reason.ensures));
      reason_len_bound = unread-width _ _ _ (λ e. absurd (false≢true (sym h ∙ e)));
    }

pub returns : goal.returns
returns c =
    let h = sym c.has_lines.ensures ∙ c.if-not-has_lines.false in
    record {
      put = put_as (of-text _ _ _ h) (chain c.put_prefix-at.ensures (chain c.put-at.ensures (chain c.put_text_line-at.ensures.put c.put_reason-2.ensures)));
      reason_len_bound = unread-width _ _ _ (λ _. c.put_text_line-at.ensures.l_len_bound);
    }
