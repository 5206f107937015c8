-- What row 14 and the answers say of a book with a count of at least its pieces. Assumes nothing.
use Rattle.std.specs.Prelude.{Ok}
use Prim.Native.Nat.{ℕ, ◌<◌}
use mathlib.Core.Path.{◌≡◌, refl}
use mathlib.Core.Logic.{◌↔◌}
use mathlib.Core.List.{List}
use native.Mathlib.Omega.{arith}
use lib.Dec.{leb}
use Rattle.lists.proofs.Bools.{Known, is_true, is_false, known}
use Rattle.rules.specs.Fact.{Within, AllWithin}
use Rattle.rules.specs.Derives.{Contradictory}
use Rattle.rules.specs.Model.{Model, keeps_all}
use Rattle.rules.specs.Verdict.{verdict}
use Rattle.rules.specs.Entries.{shortest_clash}
use Rattle.rules.proofs.Verdicts.{verdict-follows, verdict-denied, verdict-open, verdict-follows-everywhere, verdict-denied-everywhere, verdict-open-iff}
use Rattle.records.specs.Record.{record_at, records}
use Rattle.records.specs.Facts.{entries, facts}
use Rattle.records.specs.Marked.{marked}
use Rattle.records.specs.Check.{claims_check}
use Rattle.records.proofs.Keeps.{picked-among}
use Rattle.records.proofs.Accepted.{accepted-claims}
use Rattle.contradiction.proofs.SettlingLaws.{free-model, clashed-no-model}
use Rattle.claims.proofs.Counts.{counted-settleable, counted-unmarked, counted-free, counted-clashed}
use Rattle.outcomes.specs.Outcome as of
use Rattle.records.specs.Claimed.{claimed, picked_facts}
use Rattle.outcomes.specs.Call.{by_runs}
use Rattle.outcomes.specs.Demands.{Derived, Entailed}
use Rattle.closure.specs.Counted.{Counted}
use Rattle.claims.proofs.Fewer.{fewer-within, fewer-consistent}

module _ (s : List ℕ) {n : ℕ} (C : Counted s n) where
  -- refused as contradictory exactly when there is no model
  pub runs-refused : (of.number (by_runs s n) ≡ 14) ↔ ((M : Model (marked s) n) → keeps_all M (facts s) → ⊥)
  unfolding by_runs
  runs-refused = pick (known (leb (shortest_clash (marked s) n (entries s)) (records s)))
    where
      pick : Known (leb (shortest_clash (marked s) n (entries s)) (records s)) → (of.number (by_runs s n) ≡ 14) ↔ ((M : Model (marked s) n) → keeps_all M (facts s) → ⊥)
      pick (is_true e) = rw (e, by_runs) (λ q. clashed-no-model s (counted-settleable s C).bounded (marked s) (counted-unmarked s C) (counted-clashed s C e), λ q. refl)
      pick (is_false e) = rw (e, by_runs) (λ q. absurd (omega arith), λ none. let m = free-model s (counted-settleable s C).bounded (marked s) (counted-unmarked s C) (counted-free s C e) in absurd (none m.0 m.1))

  -- ---- claims

  module _ (cs : List ℕ) (fit : claims_check n cs ≡ Ok tt) (i : ℕ) (h : i < records cs) where
    pub claim-within : Within n (claimed cs i)
    unfolding claimed
    claim-within = (accepted-claims n cs fit).within i h

    module _ (ok : Contradictory (marked s) n (facts s) → ⊥) where
      -- the facts that the claim picks are among the book's
      pub picked-within : AllWithin n (picked_facts s cs i)
      picked-within = fewer-within (marked s) n (picked_facts s cs i) (facts s) (counted-settleable s C).bounded.within (counted-settleable s C).bounded.some (counted-unmarked s C) ok (picked-among s (record_at cs i))

      pub picked-consistent : Contradictory (marked s) n (picked_facts s cs i) → ⊥
      picked-consistent = fewer-consistent (marked s) n (picked_facts s cs i) (facts s) (counted-settleable s C).bounded.within (counted-settleable s C).bounded.some (counted-unmarked s C) ok (picked-among s (record_at cs i))

      pub derived : Derived (marked s) n (picked_facts s cs i) (claimed cs i) (verdict (marked s) n (picked_facts s cs i) (claimed cs i))
      derived =
          let some = (counted-settleable s C).bounded.some in
          record {
            follows = verdict-follows (marked s) n (picked_facts s cs i) picked-within some (counted-unmarked s C) picked-consistent (claimed cs i) claim-within;
            denied = verdict-denied (marked s) n (picked_facts s cs i) picked-within some (counted-unmarked s C) picked-consistent (claimed cs i) claim-within;
            undecided = verdict-open (marked s) n (picked_facts s cs i) picked-within some (counted-unmarked s C) picked-consistent (claimed cs i) claim-within;
          }

      pub entailed : Entailed (marked s) n (picked_facts s cs i) (claimed cs i) (verdict (marked s) n (picked_facts s cs i) (claimed cs i))
      entailed =
          let some = (counted-settleable s C).bounded.some in
          record {
            follows = verdict-follows-everywhere (marked s) n (picked_facts s cs i) picked-within some (counted-unmarked s C) picked-consistent (claimed cs i) claim-within;
            denied = verdict-denied-everywhere (marked s) n (picked_facts s cs i) picked-within some (counted-unmarked s C) picked-consistent (claimed cs i) claim-within;
            undecided = verdict-open-iff (marked s) n (picked_facts s cs i) picked-within some (counted-unmarked s C) picked-consistent (claimed cs i) claim-within;
          }
