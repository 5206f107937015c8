-- `verified::is_page_of` meets its contract. Assumes nothing.
use mathlib.Core.Path.{◌∙◌, sym}
use Rattle.chain_pages.proofs.Plains.{ready}
use Rattle.chain_pages.proofs.Judges.{judged-other, judged-fails, judged-last}
use Rattle.chain_pages.proofs.verified.is_page_of.Goals as goal

pub is_text-requires : goal.is_text-requires
is_text-requires c = c.requires

pub last_tells-requires : goal.last_tells-requires
last_tells-requires c = ready _ _ _ (sym c.check_chain.ensures ∙ c.if-check_chain.true)

pub returns-then-check_chain : goal.returns-then-check_chain
returns-then-check_chain c =
    judged-last _ _ _ _ _ (λ j. (c.shared_slice_known-3-1.given j).fits) (λ j. (c.shared_slice_known-4-1.given j).fits) _ c.is_text.ensures c.if-is_text.true _ c.check_chain.ensures c.if-check_chain.true _ c.last_tells.ensures

pub returns-then-is_text : goal.returns-then-is_text
returns-then-is_text c =
    judged-fails _ _ _ _ _ (λ j. (c.shared_slice_known-3-1.given j).fits) (λ j. (c.shared_slice_known-4-1.given j).fits) _ c.is_text.ensures c.if-is_text.true _ c.check_chain.ensures c.if-check_chain.false

pub returns : goal.returns
returns c =
    judged-other _ _ _ _ _ (λ j. (c.shared_slice_known-3-1.given j).fits) (λ j. (c.shared_slice_known-4-1.given j).fits) _ c.is_text.ensures c.if-is_text.false
