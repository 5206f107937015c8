-- `sentences::put_refusal` meets its contract: four or six texts, one behind the other. Assumes nothing.
use borrow.Author.Rules.{rules}
use Rattle.pages.proofs.Puts.{chain, put_as}
use Rattle.sentences.proofs.Refusals.{plain, located}
use Rattle.sentences.proofs.Rooms.{refusal-width}
use Rattle.sentences.proofs.put_refusal.Goals as goal

pub returns-then-l-eq0 : goal.returns-then-l-eq0
returns-then-l-eq0 c =
    record {
      put = put_as (plain _ _ _ c.if-l-eq0.true) (search (rules, chain));
      l_len_bound = refusal-width _ _ _ c.ranges.number.fits c.ranges.place.fits c.ranges.l.fits;
    }

pub returns : goal.returns
returns c =
    record {
      put =
          put_as
          (located _ _ _ c.if-l-eq0.false)
          (chain c.put-at.ensures (chain c.put_number-at.ensures (chain c.put_number-at-2.ensures (chain c.put_text_line-at.ensures.put c.put_sentence-2.ensures))));
      l_len_bound = refusal-width _ _ _ c.ranges.number.fits c.ranges.place.fits c.ranges.l.fits;
    }
