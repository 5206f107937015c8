-- A log of pieces, those handed from before in front of it: what is said of an entry from the up to 31 entries before it. R says which two pieces are
-- certainly APART. Assumes nothing.
use Rattle.std.specs.Prelude.{ℕ, zero, suc, ◌+◌, ◌-◌, Bool, true, not, ◌&&◌, List, [], ◌∷◌, ◌++◌, leb, get_or}
use Rattle.lists.specs.Any.{any_below}
use Rattle.lists.specs.Tally.{num, tally}

-- the number of the oldest of the up to 31 entries before entry q
abbrev pub oldest : ℕ → ℕ
oldest q = q - 31

-- how many of them are apart from entry q
unfoldable pub apart_before : (ℕ → ℕ → Bool) → List ℕ → ℕ → ℕ
apart_before R xs q = tally (λ j. leb (oldest q) j && R (get_or xs j 0) (get_or xs q 0)) q

-- each entry from `low` on and before q is apart from entry q
unfoldable pub clear : (ℕ → ℕ → Bool) → List ℕ → ℕ → ℕ → Bool
clear R xs low q = not (any_below (λ j. leb low j && not (R (get_or xs j 0) (get_or xs q 0))) q)

-- every two entries from `low` on and before q are apart
unfoldable pub pairwise : (ℕ → ℕ → Bool) → List ℕ → ℕ → ℕ → Bool
pairwise R xs low zero = true
pairwise R xs low (suc q) = pairwise R xs low q && clear R xs low q

-- the two bytes of entry q: how many before it are apart from it, and whether every two of these and it are
unfoldable pub bytes_of : (ℕ → ℕ → Bool) → List ℕ → ℕ → List ℕ
bytes_of R xs q = apart_before R xs q ∷ num (pairwise R xs (oldest q) (suc q)) ∷ []

-- those of m entries from entry c on
unfoldable pub bytes_from : (ℕ → ℕ → Bool) → List ℕ → ℕ → ℕ → List ℕ
bytes_from R xs c zero = []
bytes_from R xs c (suc m) = bytes_from R xs c m ++ bytes_of R xs (c + m)
