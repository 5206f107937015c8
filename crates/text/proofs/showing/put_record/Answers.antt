-- `text::showing::put_record` meets its contract. Assumes nothing.
use Rattle.pages.proofs.Puts.{chain, put_as}
use Rattle.text.proofs.Pages.{record-void, record-else}
use Rattle.text.proofs.showing.put_record.Goals as goal

pub returns-then-kind-eq-VOID : goal.returns-then-kind-eq-VOID
returns-then-kind-eq-VOID c = put_as (record-void _ _ c.if-kind-eq-VOID.true) (chain c.put_kind-at.ensures c.put_last.ensures)

pub returns : goal.returns
returns c =
    put_as (record-else _ _ c.if-kind-eq-VOID.false) (chain c.put_kind-at.ensures (chain c.put_number-at.ensures c.put_last-2.ensures))
