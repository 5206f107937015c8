-- What steps that pass say of their claim: the last one is the answer. Assumes nothing.
use Rattle.std.specs.Prelude.{Err, Ok}
use Rattle.outcomes.specs.Accepted.{Outcome, accepted_with}
use Prim.Native.Nat.{ℕ, zero, suc, ◌-◌, ◌%◌, ◌≤◌, ◌<◌}
use mathlib.Core.Path.{◌≡◌, refl, sym, subst}
use mathlib.Core.Logic.{◌⊎◌, inl, inr}
use mathlib.Core.Bool.{true, false, ◌&&◌, false≢true}
use mathlib.Core.List.Memᴰ
use mathlib.Core.List.{List, [], ◌∷◌, ◌++◌, Memᴰ}
use native.Mathlib.Omega.{arith}
use lib.Dec.{eqb, leb}
use lib.ListN.{length, get_or}
use borrow.Author.Tests.{eqb-true, leb-true}
use Rattle.lists.proofs.Bools.{and_both, or-either, Known, is_true, is_false, known}
use Rattle.rules.specs.Fact.{Fact, opposite, Within, AllWithin}
use Rattle.rules.specs.Derives.{Derives, Contradictory}
use Rattle.rules.proofs.More.{Among, weaken}
use Rattle.rules.proofs.Verdicts.{verdict-follows, verdict-denied}
use Rattle.records.specs.declared.Record.{Record}
use Rattle.records.specs.Record.{record_at}
use Rattle.records.specs.Facts.{facts}
use Rattle.records.specs.Kept.{picked}
use Rattle.records.specs.Marked.{marked}
use Rattle.records.proofs.Keeps.{picked-among}
use Rattle.records.proofs.Accepted.{accepted-claims}
use Rattle.contradiction.proofs.SettlingLaws.{settleable, whole-unmarked}
use Rattle.claims.proofs.Fewer.{fewer-within, fewer-consistent}
use Rattle.chain_format.specs.Step.{step_at, steps}
use Rattle.chain_format.specs.Citing.{Cited, fact, mark, none, citing}
use Rattle.chain_format.specs.Chain.{all_ok, concludes, chain_ok, fact_in, cited_by}
use Rattle.chain_check.specs.Call.{asked, passing, passes}
use Rattle.chain_check.specs.Derived.{claim_in, facts_for, Concludes, cited_in, Proved, ChainDerives}
use Rattle.chain_format.proofs.Sound.{shown-derives, cited-listed}
use Rattle.chain_format.proofs.Givens.{given}
use Rattle.chain_format.proofs.Citings.{cited-picked}
use Rattle.chain_check.proofs.Asking.{Passed, asked-passed, runs-consistent}

-- what it is to be a chain
pub record Chain (n : ℕ) (es : List Cited) (f : Fact) (c : List ℕ) : Type 0 where
  pub whole : length c % 10 ≡ 0
  pub some : 1 ≤ steps c
  pub few : steps c ≤ 16400
  pub each : all_ok n es c (steps c) ≡ true
  pub last : Concludes c f ⊎ Concludes c (opposite f)

pub chain-ok : (n : ℕ) (es : List Cited) (f : Fact) (c : List ℕ) → chain_ok n es f c ≡ true → Chain n es f c
unfolding chain_ok concludes
chain-ok n es f c e =
    let x = and_both (eqb (length c % 10) 0) _ e in
    let y = and_both (leb 1 (steps c) && leb (steps c) 16400) _ x.1 in
    let l = and_both (leb 1 (steps c)) _ y.0 in
    let z = and_both (all_ok n es c (steps c)) _ y.1 in
    record {
      whole = eqb-true _ _ x.0;
      some = leb-true _ _ l.0;
      few = leb-true _ _ l.1;
      each = z.0;
      last = or-either _ _ z.1;
    }

-- ---- the cited facts are among those that the claim picks

module _ (s : List ℕ) (claim : Record) (c : List ℕ) where
  in-append : (f : Fact) (xs ys : List Fact) → Memᴰ f (xs ++ ys) → Memᴰ f xs ⊎ Memᴰ f ys
  in-append f [] ys m = inr m
  in-append f (x ∷ xs) ys m = pick (λ k. in-append f xs ys k) (Memᴰ.cases_cons m)
    where
      rest : Memᴰ f xs ⊎ Memᴰ f ys → Memᴰ f (x ∷ xs) ⊎ Memᴰ f ys
      rest (inl k) = inl (Memᴰ.tail k)
      rest (inr k) = inr k

      pick : (Memᴰ f (xs ++ ys) → Memᴰ f xs ⊎ Memᴰ f ys) → (f ≡ x) ⊎ Memᴰ f (xs ++ ys) → Memᴰ f (x ∷ xs) ⊎ Memᴰ f ys
      pick more (inl q) = inl (Memᴰ.head q)
      pick more (inr k) = rest (more k)

  -- what one record brings
  brings : (i : ℕ) (e : Cited) → get_or (citing claim s) i none ≡ e → Among (fact_in e) (facts (picked s claim))
  unfolding fact_in
  brings i (fact g) q f m = pick (Memᴰ.cases_cons m)
    where
      pick : (f ≡ g) ⊎ Memᴰ f [] → Memᴰ f (facts (picked s claim))
      pick (inl e) = subst (λ (u : Fact). Memᴰ u (facts (picked s claim))) (sym e) (cited-picked claim s i g q).1
      pick (inr k) = absurd (Memᴰ.not-nil k)
  brings i (mark g) q f m = absurd (Memᴰ.not-nil m)
  brings i none q f m = absurd (Memᴰ.not-nil m)

  pub cited-among : (m : ℕ) → Among (cited_by (citing claim s) c m) (facts (picked s claim))
  unfolding cited_by
  cited-among zero f k = absurd (Memᴰ.not-nil k)
  cited-among (suc m) f k = pick (λ x. cited-among m f x) (known (eqb (step_at c m).rule 0))
    where
      either :
          (Memᴰ f (cited_by (citing claim s) c m) → Memᴰ f (facts (picked s claim))) → (xs : List Fact) → Among xs (facts (picked s claim))
          → Memᴰ f xs ⊎ Memᴰ f (cited_by (citing claim s) c m) → Memᴰ f (facts (picked s claim))
      either more xs a (inl x) = a f x
      either more xs a (inr x) = more x

      pick : (Memᴰ f (cited_by (citing claim s) c m) → Memᴰ f (facts (picked s claim))) → Known (eqb (step_at c m).rule 0) → Memᴰ f (facts (picked s claim))
      pick more (is_true r) =
          let e = get_or (citing claim s) (step_at c m).first none in
          either more (fact_in e) (brings (step_at c m).first e refl) (in-append f (fact_in e) (cited_by (citing claim s) c m) (rw (r, cited_by) at k))
      pick more (is_false r) = more (rw (r, cited_by) at k)

-- ---- the theorem

module _ (s cs c : List ℕ) where
  abbrev Passes : Outcome → Type 0
  Passes o = passing s cs c o ≡ true

  module _ (n nodes shadows : ℕ) (a : asked s cs ≡ accepted_with n nodes shadows) (k : Chain n (citing (record_at cs 0) s) (claim_in cs) c) where
    passed : Passed s cs n nodes shadows
    passed = asked-passed s cs n nodes shadows a

    derived : (f : Fact) → Concludes c f → Derives (marked s) n (cited_in s cs c) f
    unfolding cited_in
    derived f x =
        let l = k.some in
        shown-derives (marked s) n (citing (record_at cs 0) s) (cited_by (citing (record_at cs 0) s) c (steps c)) (given (record_at cs 0) s) c (steps c)
        (λ i h. cited-listed (citing (record_at cs 0) s) c (steps c) i h) k.each (steps c - 1) (omega arith) f x

    among : Among (cited_in s cs c) (facts_for s cs)
    unfolding cited_in
    among = cited-among s (record_at cs 0) c (steps c)

    from-picked : (f : Fact) → Concludes c f → Derives (marked s) n (facts_for s cs) f
    from-picked f x = weaken (omega arith) among (derived f x)

    unmarked : marked s 0 ≡ false
    unmarked = whole-unmarked s n passed.sound

    consistent : Contradictory (marked s) n (facts s) → ⊥
    consistent = runs-consistent s n nodes shadows passed.sound passed.runs

    inside : AllWithin n (facts s)
    inside = (settleable s n passed.sound).bounded.within

    positive : 0 < n
    positive = (settleable s n passed.sound).bounded.some

    within : AllWithin n (facts_for s cs)
    within = fewer-within (marked s) n (facts_for s cs) (facts s) inside positive unmarked consistent (picked-among s (record_at cs 0))

    ok : Contradictory (marked s) n (facts_for s cs) → ⊥
    ok = fewer-consistent (marked s) n (facts_for s cs) (facts s) inside positive unmarked consistent (picked-among s (record_at cs 0))

    claim-within : Within n (claim_in cs)
    claim-within = let l = passed.six in (accepted-claims n cs passed.fit).within 0 (omega arith)

    proved : Proved s cs c
    proved =
        record {
          n = n;
          nodes = nodes;
          shadows = shadows;
          accepted = a;
          last = k.last;
          derives = derived;
          among = among;
          follows = λ x. (verdict-follows (marked s) n (facts_for s cs) within positive unmarked ok (claim_in cs) claim-within).1 (from-picked (claim_in cs) x);
          denied = λ x. (verdict-denied (marked s) n (facts_for s cs) within positive unmarked ok (claim_in cs) claim-within).1 (from-picked (opposite (claim_in cs)) x);
        }

  by-outcome : (o : Outcome) → asked s cs ≡ o → Passes o → Proved s cs c
  unfolding passing
  by-outcome (Err r) a e = absurd (false≢true e)
  by-outcome (Ok n) a e = proved n.pieces n.nodes n.shadows a (chain-ok n.pieces (citing (record_at cs 0) s) (claim_in cs) c e)

pub chain-derives : ChainDerives
unfolding passes
chain-derives s cs c e = by-outcome s cs c (asked s cs) refl e
