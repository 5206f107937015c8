-- The pairs of a list of facts are its stored PARTs. Assumes nothing.
use mathlib.Core.Path.{◌≡◌, refl}
use mathlib.Core.Bool.{true, ◌&&◌}
use mathlib.Core.List.{List, Memᴰ}
use Prim.Native.Nat.{ℕ}
use lib.Dec.{eqb}
use borrow.Author.Tests.{eqb-true}
use Rattle.lists.proofs.Bools.{and_both, both-and, eqb-self}
use Rattle.rules.specs.Fact.{Fact, PART, fact_of}
use Rattle.rules.proofs.Facts.{storing-find, storing-hit}
use Rattle.records.specs.PartIn.{part_in}

-- a pair is a stored PART
pub part-stored : (fs : List Fact) (p c : ℕ) → part_in fs p c ≡ true → Memᴰ (PART p c) fs
unfolding part_in fact_of
part-stored fs p c e =
    let s = storing-find fs 1 (λ a b. eqb a p && eqb b c) e in
    let b = and_both (eqb s.0 p) (eqb s.1 c) s.3 in
    rw (eqb-true s.0 p b.0, eqb-true s.1 c b.1) at s.2

pub stored-part : (fs : List Fact) (p c : ℕ) → Memᴰ (PART p c) fs → part_in fs p c ≡ true
unfolding part_in
stored-part fs p c m = storing-hit fs 1 (λ a b. eqb a p && eqb b c) (PART p c) m refl (both-and (eqb-self p) (eqb-self c))
