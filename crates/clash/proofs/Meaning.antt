-- What steps that pass say of a contradiction. Assumes nothing.
use Rattle.std.specs.Prelude.{Err, Ok}
use Rattle.outcomes.specs.Accepted.{Outcome}
use Prim.Native.Nat.{ℕ, ◌-◌, ◌*◌}
use mathlib.Core.Path.{◌≡◌, refl}
use mathlib.Core.Bool.{true, false≢true}
use mathlib.Core.List.Memᴰ
use mathlib.Core.List.{List, []}
use native.Mathlib.Omega.{arith}
use lib.Dec.{eqb}
use lib.ListN.{take}
use borrow.Author.Tests.{eqb-true}
use Rattle.lists.proofs.Bools.{and_both}
use Rattle.rules.specs.Fact.{opposite}
use Rattle.rules.specs.Derives.{Derives, stored}
use Rattle.rules.proofs.More.{Among, weaken}
use Rattle.records.specs.declared.Record.{Record}
use Rattle.records.specs.Record.{record_at}
use Rattle.records.specs.Refusal.{refusal_number}
use Rattle.records.specs.Pieces.{piece_count}
use Rattle.records.specs.Facts.{facts}
use Rattle.records.specs.Marked.{marked}
use Rattle.records.proofs.Keeps.{picked_all}
use Rattle.outcomes.specs.Fresh.{fresh_call}
use Rattle.chain_format.specs.Step.{step_at, steps, shows}
use Rattle.chain_format.specs.Chain.{chain_ok, cited_by}
use Rattle.chain_format.proofs.Sound.{Given, shown-derives, cited-listed}
use Rattle.chain_format.proofs.Givens.{given}
use Rattle.chain_check.proofs.Meaning.{chain-ok, cited-among}
use Rattle.clash.specs.Clash.{fact_at, unrestricted, cited_before, clash_ok, passing, passes}
use Rattle.clash.specs.Silenced.{silenced, Clashes}
use Rattle.clash.specs.Derived.{cited_in, Contradicted, ClashDerives}
use Rattle.clash.proofs.Silencing.{silenced-marks, silenced-among, silenced-citing}
use Rattle.clash.proofs.Places.{fresh-clashes, back, first, room, states, within}

module _ (s : List ℕ) (i : ℕ) (C : Clashes s i) (c : List ℕ) where
  abbrev n : ℕ
  n = piece_count s

  abbrev claim : Record
  claim = unrestricted (record_at s i)

  listed : Given (marked s) (cited_before s i)
  listed = rw (silenced-marks s i, silenced-citing s i) at (given claim (silenced s i))

  among : Among (cited_in s i c) (facts (take (6 * i) s))
  unfolding cited_in
  among f m =
      silenced-among s i (omega (arith, room C)) f
      ((rw (silenced-citing s i, picked_all (silenced s i) claim refl) at (cited-among (silenced s i) claim c (steps c))) f m)

  module _ (e : clash_ok s i c ≡ true) where
    abbrev both : (chain_ok n (cited_before s i) (fact_at s i) c ≡ true) × (shows (step_at c (steps c - 1)) (opposite (fact_at s i)) ≡ true)
    unfolding clash_ok
    both = and_both (chain_ok n (cited_before s i) (fact_at s i) c) _ e

    derives : Derives (marked s) n (cited_in s i c) (opposite (fact_at s i))
    unfolding cited_in
    derives =
        let K = chain-ok n (cited_before s i) (fact_at s i) c both.0 in
        let l = K.some in
        shown-derives (marked s) n (cited_before s i) (cited_by (cited_before s i) c (steps c)) listed c (steps c)
        (λ j h. cited-listed (cited_before s i) c (steps c) j h) K.each (steps c - 1) (omega arith) (opposite (fact_at s i)) both.1

    proved : Contradicted s c
    proved =
        record {
          place = i;
          refused = back C;
          first = first C;
          states = states C;
          derives = derives;
          among = among;
          together = (fact_at s i, within C, stored (Memᴰ.head refl), weaken (omega arith) (λ f m. Memᴰ.tail m) derives);
        }

by-outcome : (s c : List ℕ) (o : Outcome) → fresh_call s [] ≡ o → passing s c o ≡ true → Contradicted s c
unfolding passing
by-outcome s c (Ok n) a e = absurd (false≢true e)
by-outcome s c (Err r) a e =
    let b = and_both (eqb (refusal_number r.refusal) 14) (clash_ok s r.place c) e in
    proved s r.place (fresh-clashes s r.refusal r.place a (eqb-true _ _ b.0)) c b.1

pub clash-derives : ClashDerives
unfolding passes
clash-derives s c e = by-outcome s c (fresh_call s []) refl e
