-- What a catalog comes to, from its input alone: the outcome, and every buffer at exit. Assumes nothing.
use Rattle.records.specs.Refused.{BookCheck, refused_at}
use Rattle.outcomes.specs.Accepted.{Outcome, accepted_with}
use Rattle.catalog.specs.Listing.{Listing}
use Rattle.std.specs.Prelude.{◌≡◌, ℕ, Bool, true, false, not, ◌&&◌, List, [], leb, length, Err, Ok}
use Rattle.lists.specs.Front.{front}
use Rattle.rules.specs.Fact.{fact_of}
use Rattle.rules.specs.Follows.{follows}
use Rattle.records.specs.Facts.{facts}
use Rattle.records.specs.Marked.{marked}
use Rattle.records.specs.Check.{book_check}
use Rattle.records.specs.declared.Refusal.{Refusal}
use Rattle.records.specs.declared.Refusal.TheVariants.{ShortBuffer, ShortCatalog, ClaimFormat, ClaimPiece}
use Rattle.parentheses.specs.Padded.{padded}
use Rattle.groups.specs.Index.{book_places}
use Rattle.outcomes.specs.Lent.{short_lent}
use Rattle.outcomes.specs.Call as answers
use Rattle.lists.specs.Passing.{passing}
use Rattle.areas.specs.Area.{pairs, filled}
use Rattle.catalog.specs.Lent.{Lent, short_catalog}
use Rattle.catalog.specs.declared.Counts.{Counts}

-- ---- what is written of a book s with n pieces

-- the pieces x of which the claim of kind k about x and g follows: in rising number, each once
unfoldable pub list_of : List ℕ → ℕ → ℕ → ℕ → List ℕ
list_of s n k g = passing (λ x. follows (marked s) n (facts s) (fact_of k x g)) n

-- the place list, as it stands in the index
unfoldable pub places_of : List ℕ → ℕ → List ℕ
places_of s n = padded 0 2048 (book_places n (answers.pairs_of s))

-- the pairs of places of its stored facts of kind k
unfoldable pub area_of : List ℕ → ℕ → ℕ → List ℕ
area_of s n k = pairs (facts s) k (places_of s n)

unfoldable pub counts_of : List ℕ → ℕ → ℕ → ℕ → ℕ → ℕ → Counts
counts_of s k g n nodes shadows = record {
  pieces = n;
  nodes = nodes;
  shadows = shadows;
  listed = length (list_of s n k g);
  meets = length (area_of s n 3);
  apart = length (area_of s n 2);
  notpart = length (area_of s n 4);
}

-- ---- the outcome, row by row

-- a row that refuses at place 0, or the rows below it
unfoldable pub refuse_if : Bool → Refusal → Listing → Listing
refuse_if true r below = refused_at r 0
refuse_if false r below = below

-- row 14 as in the call that writes the index alone
unfoldable pub by_index : List ℕ → ℕ → ℕ → Outcome → Listing
by_index s k g (Ok n) = Ok (counts_of s k g n.pieces n.nodes n.shadows)
by_index s k g (Err r) = Err r

-- row 12 for a kind that is not 1 to 3, row 13 for a piece that is not the book's
unfoldable pub by_asked : List ℕ → ℕ → ℕ → ℕ → Listing
by_asked s k g n = refuse_if (not (leb 1 k && leb k 3)) ClaimFormat (refuse_if (leb n g) ClaimPiece (by_index s k g (answers.by_runs s n)))

unfoldable pub by_book : List ℕ → ℕ → ℕ → BookCheck → Listing
by_book s k g (Err r) = Err r
by_book s k g (Ok n) = by_asked s k g n

unfoldable pub outcome : List ℕ → ℕ → ℕ → Lent → Listing
outcome s k g l = refuse_if (short_lent [] l.index) ShortBuffer (refuse_if (short_catalog l) ShortCatalog (by_book s k g (book_check s)))

-- ---- the buffers at exit

-- the index is what the call that writes it alone leaves, so that refusal 14 zeroes it; list and areas are written on acceptance alone
unfoldable pub left : List ℕ → ℕ → ℕ → Lent → Listing → Lent
left s k g l (Err r) =
    record { index = answers.left s [] l.index (Err r); list = l.list; meets = l.meets; apart = l.apart; notpart = l.notpart }
left s k g l (Ok c) = record {
  index = answers.left s [] l.index (accepted_with c.pieces c.nodes c.shadows);
  list = front (list_of s c.pieces k g) l.list;
  meets = filled (area_of s c.pieces 3) l.meets;
  apart = filled (area_of s c.pieces 2) l.apart;
  notpart = filled (area_of s c.pieces 4) l.notpart;
}

-- a catalog is determined: its outcome and what it leaves in the buffers
abbrev pub Determined : List ℕ → ℕ → ℕ → Lent → Listing → Lent → Type 0
Determined s k g l r l' = (r ≡ outcome s k g l) × (l' ≡ left s k g l r)
