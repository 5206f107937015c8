-- Which runs can be settled, and what a settled run is: the room of its index, its contradiction or its model. Assumes nothing.
use Rattle.contradiction.proofs.Settleds.{same-clash, free-nodes, free-shadows}
use Rattle.contradiction.specs.Row14.{Row14, Settled, clashed_at, free_with}
use Rattle.std.specs.Prelude.{Ok}
use Prim.Native.Nat.{ℕ, ◌+◌, ◌-◌, ◌*◌, ◌/◌, ◌≤◌, ◌<◌}
use mathlib.Core.Path.{◌≡◌, sym, ap, ◌∙◌}
use mathlib.Core.Bool.{Bool, true, false, false≢true}
use mathlib.Core.List.{List}
use native.Mathlib.Omega.{arith}
use lib.ListN.{length, take}
use Rattle.lists.proofs.Bools.{not-true, Known, is_true, is_false, known}
use Rattle.rules.specs.Derives.{Contradictory}
use Rattle.rules.specs.Model.{Model, keeps_all}
use Rattle.rules.specs.Follows.{clash}
use Rattle.rules.specs.Entries.{facts_of, shortest_clash}
use Rattle.rules.proofs.Models.{clash-iff, consistent-model}
use Rattle.rules.proofs.Sound.{no-model}
use Rattle.rules.proofs.Runs.{shortest-is, shortest-none, shortest-positive}
use Rattle.records.specs.Record.{records}
use Rattle.records.proofs.Runs.{entries-length, run-entries}
use Rattle.records.specs.Check.{book_check}
use Rattle.records.specs.Marked.{marked}
use Rattle.records.proofs.Marks.{accepted-whole-unmarked}
use Rattle.records.specs.Facts.{entries, facts}
use Rattle.records.proofs.Accepted.{accepted, accepted-within, accepted-positive, accepted-pieces}
use Rattle.groups.specs.Groups.{groups}
use Rattle.groups.specs.Index.{edges, BookIndex}
use Rattle.records.specs.PartIn.{part_in}
use Rattle.index.specs.Index.{Room}
use Rattle.contradiction.specs.Opened.{Opened}
use Rattle.contradiction.specs.Settleable.{Settleable}
use Rattle.contradiction.specs.Settled.{row, Clashed, Settles, Steps, Indexes, Counts}
use Rattle.closure.specs.Bounded.{Bounded}
use Rattle.closure.specs.Stepped.{Stepped}
use Rattle.closure.proofs.VoidRows.{accepted-markable}
use Rattle.records.specs.Contradiction.{Contradiction}
use Rattle.contradiction.proofs.Halving.{facts-roomy}
use Rattle.contradiction.proofs.GroupIndex.{room}

-- every book that rows 2 to 9 accept, in parts of document 01's lengths
pub settleable : (s : List ℕ) (n : ℕ) → book_check s ≡ Ok n → Settleable n s 2560 1280 8192 2048
settleable s n e =
    let A = accepted s n e in
    let few : length s / 6 ≤ 8192 = A.few in
    let small : n ≤ 2048 = accepted-pieces A in
    record {
      bounded = record { some = accepted-positive A; fits = small; within = accepted-within A };
      markable = accepted-markable A;
      roomy = record { few = omega arith; parens = omega arith; marks = omega arith; shadows = few; places = small };
    }

-- piece 0 of which is not marked
pub whole-unmarked : (s : List ℕ) (n : ℕ) → book_check s ≡ Ok n → marked s 0 ≡ false
whole-unmarked s n e = accepted-whole-unmarked (accepted s n e)

-- what settling gives back
module _ {void : ℕ → Bool} {n : ℕ} {run d t : List ℕ} where
  pub settles-free : Opened void n (facts run) d t false → Settles void n run d t (Ok tt)
  settles-free O = record { free = λ q. O; clash = λ p q. let z : ◌≡◌ {A = ℕ} 0 1 = cc in absurd (omega arith) }

  pub settles-clash : {place : ℕ} → Clashed void n run place → Settles void n run d t (clashed_at place)
  settles-clash {place} C =
      record {
        free = λ q. let z : ◌≡◌ {A = ℕ} 0 1 = cc in absurd (omega arith);
        clash = λ p q. let x : place ≡ p = same-clash q in rw x at C;
      }

pub steps-free : {n : ℕ} {run e order lead : List ℕ} (r : Row14) → Stepped n (facts run) e order lead → Steps n run e order lead r
steps-free r W = record { free = λ q. W }

pub steps-clash : {n place : ℕ} {run e order lead : List ℕ} → Steps n run e order lead (clashed_at place)
steps-clash = record { free = λ q. let z : ◌≡◌ {A = ℕ} 0 1 = cc in absurd (omega arith) }

module _ {n : ℕ} {run parens marks shadows places : List ℕ} where
  pub indexes-free : {nodes shadowed : ℕ} → BookIndex n (part_in (facts run)) parens marks shadows places nodes shadowed → Indexes n run parens marks shadows places (free_with nodes shadowed)
  indexes-free {nodes} {shadowed} I =
      record {
        free = λ a b q.
            let x : nodes ≡ a = free-nodes q in
            let y : shadowed ≡ b = free-shadows q in
            rw (x, y) at I;
      }

  pub indexes-clash : {place : ℕ} → Indexes n run parens marks shadows places (clashed_at place)
  indexes-clash = record { free = λ a b q. let z : ◌≡◌ {A = ℕ} 0 1 = cc in absurd (omega arith) }

  pub counts : {r : Settled} → Indexes n run parens marks shadows places r → Counts n run r
  counts I = record { free = λ a b q. let J = I.free a b q in (J.nodes-are, J.shadowed-are) }

-- row 14 of what was settled with an index
pub row-free : {r : Settled} {nodes shadowed : ℕ} → r ≡ free_with nodes shadowed → row r ≡ Ok tt
unfolding row
row-free q = ap row q

pub row-clash : {r : Settled} {place : ℕ} → r ≡ clashed_at place → row r ≡ clashed_at place
unfolding row
row-clash q = ap row q

module _ {n : ℕ} {run : List ℕ} {b mb sc pc : ℕ} (S : Settleable n run b mb sc pc) where
  -- and in longer parts
  pub settleable-in : {b' mb' sc' pc' : ℕ} → b ≤ b' → mb ≤ mb' → sc ≤ sc' → pc ≤ pc' → Settleable n run b' mb' sc' pc'
  settleable-in lb lm ls lp =
      let R = S.roomy in
      record {
        bounded = S.bounded;
        markable = S.markable;
        roomy =
            record {
              few = R.few;
              parens = omega (arith, R.parens);
              marks = omega (arith, R.marks);
              shadows = omega (arith, R.shadows);
              places = omega (arith, R.places);
            };
      }

  -- the index fits
  pub settled-room : Room (groups n (part_in (facts run))) (edges n (part_in (facts run))) b mb sc pc
  settled-room = room n (facts run) S.bounded b mb sc pc (facts-roomy run n b mb sc pc S.roomy)

module _ {n : ℕ} (run : List ℕ) (B : Bounded n (facts run)) (void : ℕ → Bool) (z : void 0 ≡ false) where
  iff : (clash void n (facts run) ≡ true → Contradictory void n (facts run)) × (Contradictory void n (facts run) → clash void n (facts run) ≡ true)
  iff = clash-iff void n (facts run) B.within B.some z

  -- ---- a free run

  pub free-beyond : false ≡ clash void n (facts run) → records run < shortest_clash void n (entries run)
  free-beyond e = omega (arith, shortest-none void n (entries run) B.within B.some z (sym e), entries-length run)

  pub beyond-free : records run < shortest_clash void n (entries run) → false ≡ clash void n (facts run)
  beyond-free l =
      sym
      (not-true _
      (λ e. let b = ((shortest-is void n (entries run) B.within B.some z).0 (iff.0 e)).0 in omega (arith, entries-length run)))

  pub free-consistent : false ≡ clash void n (facts run) → Contradictory void n (facts run) → ⊥
  free-consistent e c = false≢true (e ∙ iff.1 c)

  pub free-model : false ≡ clash void n (facts run) → (M : Model void n) × keeps_all M (facts run)
  free-model e = consistent-model void n (facts run) B.within B.some z (sym e)

  -- ---- a contradictory run

  within-clash : shortest_clash void n (entries run) ≤ records run → true ≡ clash void n (facts run)
  within-clash l = pick (known (clash void n (facts run)))
    where
      pick : Known (clash void n (facts run)) → true ≡ clash void n (facts run)
      pick (is_true e) = sym e
      pick (is_false e) = let b = free-beyond (sym e) in absurd (omega arith)

  pub within-clashed : shortest_clash void n (entries run) ≤ records run → Clashed void n run (shortest_clash void n (entries run) - 1)
  within-clashed l =
      record {
        is = within-clash l;
        last = omega (arith, shortest-positive void n (entries run) B.within B.some z);
      }

  module _ {place : ℕ} (C : Clashed void n run place) where
    contradictory : Contradictory void n (facts run)
    contradictory = iff.0 (sym C.is)

    least :
        (shortest_clash void n (entries run) ≤ length (entries run)) × Contradictory void n (facts_of (take (shortest_clash void n (entries run)) (entries run)))
        × ((j : ℕ) → j < shortest_clash void n (entries run) → Contradictory void n (facts_of (take j (entries run))) → ⊥)
    least = (shortest-is void n (entries run) B.within B.some z).0 contradictory

    pub clashed-within : shortest_clash void n (entries run) ≤ records run
    clashed-within = omega (arith, least.0, entries-length run)

    pub clashed-no-model : (M : Model void n) → keeps_all M (facts run) → ⊥
    clashed-no-model = no-model contradictory

    run-facts : (k : ℕ) → k ≤ records run → facts (take (6 * k) run) ≡ facts_of (take k (entries run))
    run-facts k l = ap facts_of (run-entries run k (omega arith))

    pub clashed-first : Contradiction void n run place
    clashed-first =
        let w = clashed-within in
        let q = C.last in
        record {
          present = omega arith;
          here = rw (run-facts (place + 1) (omega arith), q) least.1;
          earlier = λ k l c. least.2 k (omega arith) (rw (run-facts k (omega arith)) at c);
        }
