-- The groups of the index are those of the pieces that are PART of each other by derivations. Assumes nothing.
use Rattle.std.specs.Prelude.{Ok}
use Prim.Native.Nat.{ℕ, ◌<◌}
use mathlib.Core.Path.{◌≡◌, refl}
use mathlib.Core.Logic.{◌↔◌}
use mathlib.Core.Bool.{true}
use mathlib.Core.List.{List}
use Rattle.lists.proofs.Bools.{and_both, both-and}
use Rattle.rules.specs.Fact.{PART, unmarked}
use Rattle.rules.specs.Derives.{Derives}
use Rattle.rules.specs.Follows.{containment, derived, step, follows}
use Rattle.rules.proofs.Decides.{follows-iff}
use Rattle.records.specs.Facts.{facts}
use Rattle.records.specs.Check.{book_check}
use Rattle.groups.specs.Groups.{lies, same}
use Rattle.records.specs.PartIn.{part_in}
use Rattle.contradiction.proofs.SettlingLaws.{settleable}
use Rattle.outcomes.specs.Call.{pairs_of}
use Rattle.answers.specs.Circles.{CirclesDerived}

module _ (s : List ℕ) (n : ℕ) (sound : book_check s ≡ Ok n) where
  by-follows : (g h : ℕ) → lies n (pairs_of s) g h ≡ follows unmarked n (facts s) (PART g h)
  unfolding lies follows containment derived step part_in
  by-follows g h = refl

  by-derives : (g h : ℕ) → g < n → h < n → (lies n (pairs_of s) g h ≡ true) ↔ Derives unmarked n (facts s) (PART g h)
  by-derives g h a b = let B = (settleable s n sound).bounded in rw (by-follows g h) (follows-iff unmarked n (facts s) B.within B.some (PART g h) (a, b))

  both : (g h : ℕ) → g < n → h < n → (same n (pairs_of s) g h ≡ true) ↔ (Derives unmarked n (facts s) (PART g h) × Derives unmarked n (facts s) (PART h g))
  unfolding same
  both g h a b =
      let d = by-derives g h a b in
      let e = by-derives h g b a in
      (λ t. let x = and_both (lies n (pairs_of s) g h) (lies n (pairs_of s) h g) t in (d.0 x.0, e.0 x.1), λ y. both-and (d.1 y.0) (e.1 y.1))

pub circles-derived : CirclesDerived
circles-derived s n sound = record { lies-follows = by-follows s n sound; lies-derives = by-derives s n sound; same-derives = both s n sound }
