-- The facts of a book put into the grids one record after the other. Assumes nothing.
use Prim.Native.Nat.{ℕ, ◌+◌, ◌*◌, ◌<◌, ◌≤◌}
use mathlib.Core.Path.{◌≡◌, ap, subst}
use mathlib.Core.Bool.{Bool, true, false}
use mathlib.Core.List.{List, [], ◌∷◌, ◌++◌, append-nil}
use native.Mathlib.Omega.{arith}
use lib.ListN.{take}
use Rattle.lists.specs.Tab.{tab}
use lib.Seq.{take_all}
use Rattle.rules.specs.Fact.{Within}
use Rattle.rules.specs.Entries.{facts_of}
use Rattle.records.specs.declared.Record.{Record}
use Rattle.records.specs.Record.{record_at, records}
use Rattle.records.specs.Pieces.{stated}
use Rattle.records.specs.Facts.{saying, entry_of, entries, facts}
use borrow.Author.Tests.{leb-true}
use Rattle.lists.proofs.Bools.{and_both}
use Rattle.records.proofs.Accepted.{says-left, says-right}
use Rattle.records.proofs.Runs.{facts-more, entry-stated, entry-none, fact-here}
use Rattle.grids.specs.declared.rounds.Grids.{Grids}
use Rattle.grids.specs.Loaded.{Put, Loaded, Loadable}
use Rattle.grids.proofs.Puts.{loaded-more}

-- the facts of the first k records are in
abbrev pub Upto : (ℕ → Bool) → ℕ → List ℕ → ℕ → Grids → Type 0
Upto void n s k g = Loaded void n (facts (take (6 * k) s)) g

pub none_in : {void : ℕ → Bool} {n : ℕ} (s : List ℕ) {g : Grids} → Loaded void n [] g → Upto void n s 0 g
unfolding entries facts_of tab
none_in s l = l

module _ {n : ℕ} {s : List ℕ} (w : Loadable n s) where
  pub pieces-in : (k : ℕ) → k < records s → stated (record_at s k) ≡ true → Within n (saying (record_at s k))
  pieces-in k l t = w.within _ (fact-here s k l t)

  -- a record that states a fact can be put in
  pub fit : (k : ℕ) (r : Record) → k < records s → r ≡ record_at s k → stated r ≡ true → (1 ≤ r.kind) × (r.kind ≤ 4) × (r.a < 64) × (r.b < 64)
  unfolding stated
  fit k r l e t =
      let b = and_both _ _ t in
      let i = pieces-in k l (rw e at t) in
      let x : r.a < n = omega (arith, i.0, says-left (record_at s k), ap Record.a e) in
      let y : r.b < n = omega (arith, i.1, says-right (record_at s k), ap Record.b e) in
      (leb-true _ _ b.0, leb-true _ _ b.1, omega (arith, w.few), omega (arith, w.few))

  next : (k : ℕ) → k < records s → facts (take (6 * (k + 1)) s) ≡ facts (take (6 * k) s) ++ facts_of (entry_of (record_at s k) ∷ [])
  next k l = facts-more s k (omega (arith, w.whole))

  module _ (void : ℕ → Bool) (k : ℕ) (g : Grids) where
    pub one_in : (r : Grids) → k < records s → stated (record_at s k) ≡ true → Upto void n s k g → Put g r (saying (record_at s k)) → Upto void n s (k + 1) r
    unfolding facts_of
    one_in r l t u p = rw (next k l, entry-stated (record_at s k) t) (loaded-more void n _ g r (saying (record_at s k)) u p)

    pub one_out : k < records s → stated (record_at s k) ≡ false → Upto void n s k g → Upto void n s (k + 1) g
    unfolding facts_of
    one_out l t u = rw (next k l, entry-none (record_at s k) t, append-nil) u

    pub all_in : records s ≤ k → Upto void n s k g → Loaded void n (facts s) g
    all_in l u = subst (λ (t : List ℕ). Loaded void n (facts t) g) (take_all (6 * k) s (omega (arith, w.whole))) u
