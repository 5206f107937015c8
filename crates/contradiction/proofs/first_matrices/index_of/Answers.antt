-- `first_matrices::index_of` meets its contract: the matrix has the pairs between groups, and pieces get the places of their groups. Assumes nothing.
use borrow.Author.Rules.{rules}
use Prim.Native.Nat.{ℕ, ◌<◌, ◌≤◌}
use mathlib.Core.Path.{◌≡◌}
use lib.ListN.{length-replicate}
use native.Mathlib.Omega.{arith}
use Rattle.contradiction.proofs.GroupIndex.{named-below, buildable}
use Rattle.contradiction.proofs.Parts.{index-written}
use Rattle.contradiction.proofs.Halving.{facts-roomy}
use Rattle.contradiction.proofs.first_matrices.index_of.Goals as goal

-- what fits 2,048 places fits an array of 2,048
fits_all : {n k : ℕ} → n ≤ 2048 → k ≡ 2048 → n ≤ k
fits_all l e = omega arith

below_all : {g n k : ℕ} → g < n → n ≤ 2048 → k ≡ 2048 → g < k
below_all g l e = omega arith

pub step_stored-requires : goal.step_stored-requires
step_stored-requires c = let P = c.requires in (P.0, fits_all P.0.fits (search rules), named-below _ _ P.0 _ _ P.1, (search rules))

pub build-counts-requires : goal.build-counts-requires
build-counts-requires c =
    let P = c.requires in buildable _ _ P.0 _ _ P.1 _ c.step_stored.ensures _ _ _ _ _ (facts-roomy _ _ _ _ _ _ P.2) (length-replicate {A = ℕ} 2048 0)

pub place_members-requires : goal.place_members-requires
place_members-requires c =
    let P = c.requires in (fits_all P.0.fits (search rules), P.2.places, λ g l. below_all (named-below _ _ P.0 _ _ P.1 g l) P.0.fits c.groups-2-1.given)

pub returns : goal.returns
returns c =
    let P = c.requires in index-written _ _ P.0 _ _ P.1 _ c.step_stored.ensures _ _ _ _ _ _ _ c.build-counts.ensures.index c.groups-2-1.given _ P.2.places c.place_members.ensures
