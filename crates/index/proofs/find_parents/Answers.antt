-- `index::find_parents` meets its contract: in a book the search from 0 meets every piece.
-- Assumes nothing.
use mathlib.Core.Path.{refl}
use lib.ListN.{get_or-replicate}
use Rattle.lists.proofs.Bounds.{inside}
use Rattle.index.proofs.Queue.{fresh-is}
use Rattle.index.proofs.Rounds.{searched-parents}
use Rattle.index.proofs.find_parents.Goals as goal

pub search_from-requires : goal.search_from-requires
search_from-requires c =
    (c.requires.matrix, c.requires.small, c.requires.book.some, refl, refl, λ q h. fresh-is _ q (get_or-replicate 2048 q 2048 0 (inside _ _ _ h c.requires.small)))

pub returns : goal.returns
returns c = searched-parents _ _ c.requires.book _ c.search_from.ensures
