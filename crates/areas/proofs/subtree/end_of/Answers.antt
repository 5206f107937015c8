-- `subtree::end_of` meets its contract. Assumes nothing.
use mathlib.Core.Logic.{inl, inr}
use Rattle.areas.proofs.Subtrees.{short-parens, short-places, end-there}
use Rattle.areas.proofs.subtree.end_of.Goals as goal

pub returns-then-parens-lt-PARENTHESES_BYTES : goal.returns-then-parens-lt-PARENTHESES_BYTES
returns-then-parens-lt-PARENTHESES_BYTES c =
    elim c.then-parens-lt-PARENTHESES_BYTES.either [ inl l ↦ short-parens _ _ _ l | inr r ↦ short-places _ _ _ r.1 ]

pub returns : goal.returns
returns c =
    end-there _ _ _ _ _ c.if-parens-lt-PARENTHESES_BYTES.false c.if-places-g.false c.place_of-place.ensures c.subtree_end-end.ensures
