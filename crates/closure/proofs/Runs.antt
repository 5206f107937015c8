-- A search among the stored facts of a run, record by record. Assumes nothing.
use Prim.Native.Nat.{ℕ, ◌<◌, ◌≤◌}
use mathlib.Core.Path.{◌≡◌, sym, subst, ◌∙◌}
use mathlib.Core.Bool.{Bool, true, ◌&&◌}
use mathlib.Core.List.{List}
use native.Mathlib.Omega.{arith}
use borrow.Author.Tests.{eqb-true, le-leb}
use lib.Dec.{eqb}
use Rattle.lists.specs.Any.{any, any_below}
use Rattle.lists.proofs.Bools.{and_both, both-and, same_truth}
use Rattle.lists.proofs.Anys.{any-find, any-hit, below-find, below-hit}
use Rattle.rules.specs.Fact.{Fact, kind, left, right, AllWithin}
use Rattle.rules.specs.Follows.{storing}
use Rattle.records.specs.Record.{record_at, records}
use Rattle.records.specs.declared.Record.{Record}
use Rattle.records.specs.Pieces.{stated}
use Rattle.records.specs.Facts.{saying, facts}
use Rattle.records.proofs.Runs.{fact-here, fact-from}
use Rattle.records.proofs.Accepted.{says-kind, says-left, says-right}

kinds-stated : (r : Record) → 1 ≤ r.kind → r.kind ≤ 4 → stated r ≡ true
unfolding stated
kinds-stated r l h = both-and (le-leb 1 r.kind l) (le-leb r.kind 4 h)

module _ (s : List ℕ) where
  -- the pieces of a record that states a fact
  pub record-within :
      (n : ℕ) → AllWithin n (facts s) → (j : ℕ) → j < records s → 1 ≤ (record_at s j).kind → (record_at s j).kind ≤ 4
      → ((record_at s j).a < n) × ((record_at s j).b < n)
  record-within n i j l h k =
      let r = record_at s j in
      let w = i (saying r) (fact-here s j l (kinds-stated r h k)) in
      (rw (says-left r) at w.0, rw (says-right r) at w.1)

  module _ (k : ℕ) (test : ℕ → ℕ → Bool) where
    unfoldable pub hits : ℕ → Bool
    hits j = eqb (record_at s j).kind k && test (record_at s j).a (record_at s j).b

    passes : Fact → Bool
    passes f = eqb (kind f) k && test (left f) (right f)

    at : (r : Record) → stated r ≡ true → passes (saying r) ≡ (eqb r.kind k && test r.a r.b)
    unfolding passes
    at r g = rw (says-kind r g, says-left r, says-right r)

    pub storing-records : 1 ≤ k → k ≤ 4 → storing (facts s) k test ≡ any_below hits (records s)
    unfolding storing hits passes
    storing-records lk hk = same_truth _ _ to from
      where
        to : any passes (facts s) ≡ true → any_below hits (records s) ≡ true
        to e =
            let f = any-find passes (facts s) e in
            let o = fact-from s f.0 f.1 in
            let r = record_at s o.0 in
            below-hit hits (records s) o.0 o.1 (sym (at r o.2) ∙ subst (λ (g : Fact). passes g ≡ true) (sym o.3) f.2)

        from : any_below hits (records s) ≡ true → any passes (facts s) ≡ true
        from e =
            let f = below-find hits (records s) e in
            let r = record_at s f.0 in
            let q = eqb-true r.kind k (and_both (eqb r.kind k) (test r.a r.b) f.2).0 in
            let t = kinds-stated r (omega arith) (omega arith) in
            any-hit passes (fact-here s f.0 f.1 t) (at r t ∙ f.2)
