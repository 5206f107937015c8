-- What the inner functions hand each other: a count, a copy and a claim that are those of the book. Assumes nothing.
use Rattle.contradiction.specs.Row14.{Row14}
use Prim.Native.Nat.{ℕ, ◌-◌, ◌/◌, ◌≤◌, ◌<◌}
use mathlib.Core.Path.{◌≡◌, sym, ◌∙◌}
use mathlib.Core.Bool.{Bool, true, false}
use mathlib.Core.List.{List}
use native.Mathlib.Omega.{arith}
use lib.ListN.{length}
use Rattle.rules.specs.Fact.{fact_of}
use Rattle.records.specs.declared.Record.{Record}
use Rattle.records.specs.Record.{record_at}
use Rattle.records.specs.Pieces.{stated, piece_count}
use Rattle.records.specs.Facts.{saying, facts}
use Rattle.closure.specs.Void.{void_of}
use Rattle.closure.specs.Bounded.{Bounded}
use Rattle.closure.specs.Stored.{edge_bit}
use Rattle.closure.specs.Closed.{Holds}
use Rattle.closure.specs.Counted.{MarksOf}
use Rattle.contradiction.specs.Settled.{Settles}
use Rattle.chain_format.specs.declared.steps.Step.{Step}
use Rattle.chain_format.specs.Step.{step_at, showing}
use Rattle.chain_format.specs.Citing.{citing}
use Rattle.chain_format.specs.Chain.{chain_ok}
use Rattle.records.proofs.Accepted.{claim-ends}
use Rattle.derivations.specs.Found.{Ground, Chained}
use Rattle.clash.specs.Clash.{unrestricted, clash_ok}
use Rattle.clash.specs.Silenced.{silenced, Clashes, Behind}
use Rattle.clash.proofs.Places.{small, states, within, silenced-bounded, silenced-marked, silenced-ground}
use Rattle.clash.proofs.Replies.{kind-high, found-behind, unchained, chained-some, chained-last}

module _ {s : List ℕ} {i : ℕ} (C : Clashes s i) {n : ℕ} {run : List ℕ} (en : n ≡ piece_count s) (er : run ≡ silenced s i) where
  pub run-bounded : Bounded n (facts run)
  run-bounded = rw (en, er) (silenced-bounded C)

  module _ {claim : Record} (ec : claim ≡ unrestricted (record_at s i)) where
    pub claim-kind : claim.kind ≤ 5
    claim-kind = rw ec (omega (arith, kind-high C))

    pub claim-stated : stated claim ≡ true
    unfolding stated
    claim-stated = rw ec (states C)

    -- ---- the writer

    pub run-ground :
        {voids e d t : List ℕ} → MarksOf s voids → (r : Row14) → Settles (void_of voids) n run d t r → Holds n e (edge_bit n (facts run))
        → Ground n claim run voids e d t × (claim.a < n) × (claim.b < n)
    run-ground M r W E =
        let w = claim-ends (record_at s i) (within C) in
        rw (en, er, ec) (silenced-ground C M r (rw (en, er) at W) (rw (en, er) at E), w.0, w.1)

    pub run-behind : {c c' : List ℕ} {r : ℕ} → 164000 ≤ length c → Chained n claim run (fact_of (5 - claim.kind) claim.a claim.b) c c' r → Behind s i c r c'
    run-behind l H = found-behind C l (rw (en, er, ec) at H)

    -- ---- the check

    pub check-asked : {voids : List ℕ} → MarksOf s voids → (n ≤ 2048) × MarksOf run voids × (stated claim ≡ true)
    check-asked M = (rw en (small C), rw er (silenced-marked C M), claim-stated)

    module _ (c : List ℕ) (b : Bool) (is : b ≡ chain_ok n (citing claim run) (saying claim) c) where
      told : b ≡ chain_ok (piece_count s) (citing (unrestricted (record_at s i)) (silenced s i)) (saying (record_at s i)) c
      told = rw (en, er, ec) at is

      pub check-no : b ≡ false → false ≡ clash_ok s i c
      check-no e = unchained C c (sym told ∙ e)

      pub check-some : b ≡ true → 1 ≤ length c / 10
      check-some e = chained-some C c (sym told ∙ e)

      pub check-last :
          b ≡ true → (x : Step) → x ≡ step_at c (length c / 10 - 1) → (y : Bool) → y ≡ showing x (5 - claim.kind) claim.a claim.b → y ≡ clash_ok s i c
      check-last e x q y t = (rw ec at t) ∙ chained-last C c (sym told ∙ e) x q
