-- Where containers have lower numbers, the index is that of the pieces. Assumes nothing.
use Rattle.std.specs.Prelude.{Ok}
use Prim.Native.Nat.{ℕ, ◌<◌}
use mathlib.Core.Path.{◌≡◌, sym, ap, ◌∙◌}
use mathlib.Core.Bool.{true}
use mathlib.Core.List.{List}
use native.Mathlib.Omega.{arith}
use Rattle.rules.specs.Fact.{PART, kind, left, right}
use Rattle.records.specs.Record.{record_at, records}
use Rattle.records.specs.Check.{book_check}
use Rattle.records.specs.Facts.{facts}
use Rattle.records.proofs.Runs.{fact-from}
use Rattle.records.proofs.Accepted.{says-kind, says-left, says-right}
use Rattle.groups.specs.Same.{SameIndex}
use Rattle.groups.proofs.Lower.{same_index}
use Rattle.contradiction.proofs.FactIndex.{part-stored}
use Rattle.contradiction.proofs.SettlingLaws.{settleable}
use Rattle.outcomes.specs.Call.{pairs_of, indexed}
use Rattle.outcomes.specs.Lower.{edges, by_pieces, Kept, LowerIndex}

module _ (s : List ℕ) (n : ℕ) (sound : book_check s ≡ Ok n) (lower : (i : ℕ) → i < records s → (record_at s i).kind ≡ 1 → (record_at s i).b < (record_at s i).a) where
  low : (p c : ℕ) → pairs_of s p c ≡ true → c < p
  low p c e =
      let o = fact-from s (PART p c) (part-stored (facts s) p c e) in
      let r = record_at s o.0 in
      let k = sym (says-kind r o.2) ∙ ap kind o.3 in
      let l = sym (says-left r) ∙ ap left o.3 in
      let t = sym (says-right r) ∙ ap right o.3 in
      omega (arith, lower o.0 o.1 k)

  same : SameIndex n (pairs_of s)
  same =
      let B = (settleable s n sound).bounded in
      same_index n (pairs_of s) (record { some = B.some; within = λ p c e. B.within (PART p c) (part-stored (facts s) p c e); lower = low })

  kept : Kept s n
  unfolding edges by_pieces indexed
  kept = record {
    buffers = λ cs l. rw (same.parens-are, same.places-are, same.visits-are);
    nodes = rw same.visits-are;
    shadows = rw same.visits-are;
  }

pub lower-index : LowerIndex
lower-index s n sound lower = kept s n sound lower
