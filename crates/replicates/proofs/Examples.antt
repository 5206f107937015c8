-- The bytes of a short log on the session's book, computed: 3 is apart from 4 and from its part 5, and no piece is apart from itself; 4 and 5 are not.
-- The same with the first two entries in the window. Assumes nothing.
use Prim.Native.Nat.{ℕ}
use mathlib.Core.Path.{◌≡◌, refl}
use mathlib.Core.Bool.{Bool}
use mathlib.Core.List.{[], ◌∷◌}
use Rattle.lists.specs.Any.{any, any_below}
use Rattle.lists.specs.Tab.{tab}
use Rattle.lists.specs.Tally.{tally}
use Rattle.rules.specs.Fact.{APART, unmarked}
use Rattle.rules.specs.Follows.{follows, storing, turned, step, rounds, table, entry, containment, parting, apart, derived}
use Rattle.rules.specs.Entries.{facts_of}
use Rattle.rules.specs.Examples.{session}
use Rattle.replicates.specs.Before.{apart_before, clear, pairwise, bytes_of, bytes_from}

abbrev R : ℕ → ℕ → Bool
R x y = follows unmarked 6 (facts_of session) (APART x y)

bytes-are : bytes_from R (3 ∷ 4 ∷ 5 ∷ 3 ∷ []) 0 4 ≡ 0 ∷ 1 ∷ 1 ∷ 1 ∷ 1 ∷ 0 ∷ 2 ∷ 0 ∷ []
unfolding bytes_from bytes_of apart_before clear pairwise tally any any_below tab session facts_of follows storing turned step rounds table entry containment parting apart derived
bytes-are = refl

later-bytes-are : bytes_from R (3 ∷ 4 ∷ 5 ∷ 3 ∷ []) 2 2 ≡ 1 ∷ 0 ∷ 2 ∷ 0 ∷ []
unfolding bytes_from bytes_of apart_before clear pairwise tally any any_below tab session facts_of follows storing turned step rounds table entry containment parting apart derived
later-bytes-are = refl
