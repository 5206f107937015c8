-- The calls put together: the steps as a run of their own, what they show, and the reply. Assumes nothing.
use Rattle.std.specs.Prelude.{Ok}
use Rattle.records.specs.Refused.{refused_at}
use Rattle.outcomes.specs.Accepted.{accepted_with}
use Rattle.clash.specs.Reply.{Reply}
use Prim.Native.Nat.{ℕ, ◌-◌, ◌*◌, ◌/◌, ◌≤◌, ◌<◌}
use mathlib.Core.Path.{◌≡◌, refl, sym, ap, subst, ◌∙◌}
use mathlib.Core.Logic.{inr}
use mathlib.Core.Bool.{Bool, true, false, ◌&&◌, false≢true}
use mathlib.Core.List.{List, []}
use native.Mathlib.Omega.{arith}
use native.Mathlib.Decide.{ℕ_discrete}
use lib.Dec.{eqb}
use lib.ListN.{length, take}
use lib.Seq.{length-take-le, get_or-take}
use borrow.Author.Tests.{eq-eqb, ne_eqb, lt-ltb, le-ltb}
use Rattle.lists.proofs.Fronts.{front-none}
use Rattle.lists.proofs.Bools.{both-and}
use Rattle.rules.specs.Fact.{Fact, fact_of, opposite}
use Rattle.rules.specs.Follows.{follows}
use Rattle.records.specs.declared.Record.{Record}
use Rattle.records.specs.declared.Refusal.{Refusal}
use Rattle.records.specs.declared.Refusal.TheVariants.{ShortSteps, Contradiction}
use Rattle.records.specs.Record.{record_at}
use Rattle.records.specs.Refusal.{refusal_number}
use Rattle.records.specs.Pieces.{piece_count}
use Rattle.records.specs.Facts.{facts}
use Rattle.records.specs.Kept.{picked}
use Rattle.records.specs.Marked.{marked}
use Rattle.records.specs.Check.{book_check}
use Rattle.records.proofs.Accepted.{accepted, kind-of}
use Rattle.records.proofs.Keeps.{picked_all}
use Rattle.closure.specs.Void.{void_of}
use Rattle.closure.specs.Counted.{MarksOf}
use Rattle.contradiction.specs.Opened.{Opened}
use Rattle.contradiction.specs.Settled.{Clashed}
use Rattle.claims.proofs.Counts.{own-count}
use Rattle.outcomes.specs.Call.{by_book}
use Rattle.outcomes.specs.Fresh.{fresh_call}
use Rattle.outcomes.proofs.Outcomes.{book-other}
use Rattle.answers.proofs.Fresh.{fresh-runs}
use Rattle.answers.proofs.Judges.{accepts}
use Rattle.outcomes.specs.One.{refuse_if}
use Rattle.chain_format.specs.declared.steps.Step.{Step}
use Rattle.chain_format.specs.Step.{step_at, steps, showing, shows}
use Rattle.chain_format.specs.Citing.{Cited, citing}
use Rattle.chain_format.specs.Chain.{chain_ok}
use Rattle.chain_format.proofs.Kept.{step_kept}
use Rattle.chain_format.proofs.Passing.{all_none}
use Rattle.derivations.specs.Shown.{Writes}
use Rattle.derivations.specs.Found.{Chained}
use Rattle.rules.proofs.Facts.{opposite-of}
use Rattle.chain_format.proofs.Showing.{shows-opposite}
use Rattle.derivations.proofs.Cuts.{cut-behind, cut-chain, cut_twice}
use Rattle.chain_check.proofs.Meaning.{chain-ok}
use Rattle.clash.specs.Clash.{fact_at, unrestricted, cited_before, clash_ok, passing, passes, reply_of, reply, shown, Written}
use Rattle.clash.specs.Silenced.{silenced, Clashes, Placed, Behind}
use Rattle.clash.specs.declared.Clash.{Clash}
use Rattle.clash.proofs.Silencing.{silenced-marks, silenced-citing}
use Rattle.clash.proofs.Places.{back, states, silenced-follows}

-- ---- the last step

module _ (c' : List ℕ) (r : ℕ) (room : 10 * r ≤ length c') (some : 1 ≤ r) where
  cut-last : (g : Fact) → shows (step_at c' (r - 1)) g ≡ true → shows (step_at (take (10 * r) c') (steps (take (10 * r) c') - 1)) g ≡ true
  cut-last g x =
      let l = length-take-le (10 * r) c' room in
      let q : steps (take (10 * r) c') ≡ r = omega arith in
      ap (λ (m : ℕ). shows (step_at (take (10 * r) c') (m - 1)) g) q
      ∙ ap (λ (s : Step). shows s g) (step_kept c' (take (10 * r) c') (r - 1) (λ j k. get_or-take (10 * r) c' j 0 (omega arith))) ∙ x

-- ---- what is found

module _ {s : List ℕ} {i : ℕ} (C : Clashes s i) where
  abbrev n : ℕ
  n = piece_count s

  abbrev claim : Record
  claim = unrestricted (record_at s i)

  pub kind-low : 1 ≤ (record_at s i).kind
  kind-low = (kind-of (record_at s i) (states C)).0

  pub kind-high : (record_at s i).kind ≤ 4
  kind-high = (kind-of (record_at s i) (states C)).1

  other-is : fact_of (5 - (record_at s i).kind) (record_at s i).a (record_at s i).b ≡ opposite (fact_at s i)
  other-is = opposite-of (record_at s i).kind (record_at s i).a (record_at s i).b kind-low kind-high

  -- the opposite is found, since it follows
  pub found-behind :
      {c c' : List ℕ} {r : ℕ} → 164000 ≤ length c → Chained n claim (silenced s i) (fact_of (5 - (record_at s i).kind) (record_at s i).a (record_at s i).b) c c' r → Behind s i c r c'
  unfolding clash_ok
  found-behind {c} {c'} {r} room H = pick (ℕ_discrete r 0)
    where
      H' : Chained n claim (silenced s i) (opposite (fact_at s i)) c c' r
      H' = subst (λ (f : Fact). Chained n claim (silenced s i) f c c' r) other-is H

      there : follows (marked (silenced s i)) n (facts (picked (silenced s i) claim)) (opposite (fact_at s i)) ≡ true
      there = rw (silenced-marks s i, picked_all (silenced s i) claim refl) (silenced-follows C)

      pick : Dec (r ≡ 0) → Behind s i c r c'
      pick (yes z) = absurd (false≢true (sym (H'.none z).1 ∙ there))
      pick (no z) =
          let W : Writes n (cited_before s i) (opposite (fact_at s i)) 12285 c 0 c' r = subst (λ (es : List Cited). Writes n es (opposite (fact_at s i)) 12285 c 0 c' r) (silenced-citing s i) (H'.some (omega arith)).0 in
          let l : r ≤ 12285 = W.few in
          let e = W.edited.sized in
          record {
            some = omega arith;
            few = omega arith;
            ok =
                both-and
                (cut-chain c c' r (omega arith) W.edited n (cited_before s i) (fact_at s i) (opposite (fact_at s i)) (inr refl) (omega arith) (omega arith) (W.ok (all_none n (cited_before s i) c)) W.shown)
                (cut-last c' r (omega arith) (omega arith) (opposite (fact_at s i)) W.shown);
            none-twice = cut_twice c c' r (omega arith) W.edited (H'.some (omega arith)).2;
            rest = cut-behind c c' r (omega arith) W.edited;
          }

  -- ---- the check

  module _ (c : List ℕ) where
    by_copy : chain_ok n (citing claim (silenced s i)) (fact_at s i) c ≡ chain_ok n (cited_before s i) (fact_at s i) c
    by_copy = ap (λ (es : List Cited). chain_ok n es (fact_at s i) c) (silenced-citing s i)

    pub unchained : chain_ok n (citing claim (silenced s i)) (fact_at s i) c ≡ false → false ≡ clash_ok s i c
    unfolding clash_ok
    unchained e = rw (sym by_copy ∙ e)

    pub chained-some : chain_ok n (citing claim (silenced s i)) (fact_at s i) c ≡ true → 1 ≤ length c / 10
    chained-some e = (chain-ok n (citing claim (silenced s i)) (fact_at s i) c e).some

    pub chained-last :
        chain_ok n (citing claim (silenced s i)) (fact_at s i) c ≡ true → (x : Step) → x ≡ step_at c (length c / 10 - 1) → showing x (5 - (record_at s i).kind) (record_at s i).a (record_at s i).b ≡ clash_ok s i c
    unfolding clash_ok
    chained-last e x q = rw (sym by_copy ∙ e) (shows-opposite x (record_at s i).kind (record_at s i).a (record_at s i).b kind-low kind-high ∙ ap (λ (y : Step). shows y (opposite (fact_at s i))) q)

-- ---- the book's rows

pub placed : (s : List ℕ) (n : ℕ) → book_check s ≡ Ok n → {voids : List ℕ} → MarksOf s voids → (place : ℕ) → Clashed (void_of voids) n s place → Placed s place n voids
placed s n sound M place K =
    let q : n ≡ piece_count s = (accepted s n sound).count in
    record {
      clashes = record { sound = sound ∙ ap Ok q; clashed = subst (λ (m : ℕ). Clashed (marked s) m s place) q (rw M.1 at K) };
      count = q;
      void = M;
    }

module _ (s : List ℕ) where
  -- a row before 14
  abbrev Earlier : Refusal → ℕ → Type 0
  Earlier x i = (fresh_call s [] ≡ refused_at x i) × (refusal_number x ≡ 14 → ⊥)

  earlier : (x : Refusal) (i : ℕ) → book_check s ≡ refused_at x i → Earlier x i
  unfolding fresh_call by_book
  earlier x i e = (ap (by_book s []) e, rw e at (book-other s))

  -- row 14, in a book of n pieces
  module _ (n : ℕ) (sound : book_check s ≡ Ok n) {voids : List ℕ} (M : MarksOf s voids) where
    fresh-clash : (place : ℕ) → Clashed (void_of voids) n s place → fresh_call s [] ≡ refused_at Contradiction place
    fresh-clash place K = back (placed s n sound M place K).clashes

    fresh-free : {d t : List ℕ} → Opened (void_of voids) n (facts s) d t false → (nodes shadows : ℕ) × (fresh_call s [] ≡ accepted_with n nodes shadows)
    fresh-free O = (_, _, fresh-runs s n sound ∙ sym (accepts s n (own-count sound) _ _ (rw M.1 at O.is) refl refl))

-- ---- what the check comes to, by the row at which it ends

module _ (s c : List ℕ) where
  passes-free : (n nodes shadows : ℕ) → fresh_call s [] ≡ accepted_with n nodes shadows → false ≡ passes s c
  unfolding passes passing
  passes-free n nodes shadows e = ap (passing s c) (sym e)

  module _ (r : Refusal) (i : ℕ) (e : fresh_call s [] ≡ refused_at r i) where
    by_row : (eqb (refusal_number r) 14 && clash_ok s i c) ≡ passes s c
    unfolding passes passing
    by_row = ap (passing s c) (sym e)

    passes-other : (refusal_number r ≡ 14 → ⊥) → false ≡ passes s c
    passes-other k = sym (ap (λ (b : Bool). b && clash_ok s i c) (ne_eqb (refusal_number r) 14 k)) ∙ by_row

    passes_at : refusal_number r ≡ 14 → clash_ok s i c ≡ passes s c
    passes_at k = sym (ap (λ (b : Bool). b && clash_ok s i c) (eq-eqb (refusal_number r) 14 k)) ∙ by_row

  pub checked-book : (x : Refusal) (i : ℕ) → book_check s ≡ refused_at x i → false ≡ passes s c
  checked-book x i e = let o = earlier s x i e in passes-other x i o.0 o.1

  module _ (n : ℕ) (sound : book_check s ≡ Ok n) {voids : List ℕ} (M : MarksOf s voids) where
    pub checked-clash : (place : ℕ) → Clashed (void_of voids) n s place → clash_ok s place c ≡ passes s c
    checked-clash place K = passes_at Contradiction place (fresh-clash s n sound M place K) refl

    pub checked-free : {d t : List ℕ} → Opened (void_of voids) n (facts s) d t false → false ≡ passes s c
    checked-free O = let o = fresh-free s n sound M O in passes-free n o.0 o.1 o.2

-- ---- and the writer

module _ (s c : List ℕ) where
  stepless : (o : Reply) → shown o ≡ false → (r : Clash) → r ≡ record { reply = o; steps = 0 } → o ≡ reply s (length c) → Written s c r c
  stepless o t r q e = rw q (record { reply-is = e; steps-are = λ z. absurd (false≢true (sym t ∙ z)); none = λ z. refl; behind = sym (front-none c) })

  pub call-short : (r : Clash) → r ≡ record { reply = refused_at ShortSteps 0; steps = 0 } → length c < 164000 → Written s c r c
  unfolding reply reply_of refuse_if
  call-short r q l = stepless (refused_at ShortSteps 0) refl r q (rw (lt-ltb (length c) 164000 l, refuse_if))

  module _ (room : 164000 ≤ length c) where
    by-fresh : reply_of (fresh_call s []) ≡ reply s (length c)
    unfolding reply refuse_if
    by-fresh = rw (le-ltb (length c) 164000 room, refuse_if)

    call-free : (n nodes shadows : ℕ) → fresh_call s [] ≡ accepted_with n nodes shadows → Written s c (record { reply = (Ok tt); steps = 0 }) c
    unfolding reply_of
    call-free n nodes shadows e = stepless (Ok tt) refl _ refl (ap reply_of (sym e) ∙ by-fresh)

    module _ (x : Refusal) (i : ℕ) (e : fresh_call s [] ≡ refused_at x i) where
      said : refused_at x i ≡ reply s (length c)
      unfolding reply_of
      said = ap reply_of (sym e) ∙ by-fresh

      call-other : (r : Clash) → r ≡ record { reply = refused_at x i; steps = 0 } → (refusal_number x ≡ 14 → ⊥) → Written s c r c
      call-other r q k = stepless (refused_at x i) (ne_eqb (refusal_number x) 14 k) r q said

      call-clash : refusal_number x ≡ 14 → {c' : List ℕ} {m : ℕ} → Behind s i c m c' → Written s c (record { reply = refused_at x i; steps = m }) c'
      call-clash k {c'} {m} B =
          record {
            reply-is = said;
            steps-are = λ z. record { some = B.some; few = B.few; written-passes = sym (passes_at s (take (10 * m) c') x i e k) ∙ B.ok; none-twice = B.none-twice };
            none = λ z. absurd (false≢true (sym z ∙ eq-eqb (refusal_number x) 14 k));
            behind = B.rest;
          }

    pub call-book : (x : Refusal) (i : ℕ) (r : Clash) → r ≡ record { reply = refused_at x i; steps = 0 } → book_check s ≡ refused_at x i → Written s c r c
    call-book x i r q e = let o = earlier s x i e in call-other x i o.0 r q o.1

    module _ (n : ℕ) (sound : book_check s ≡ Ok n) {voids : List ℕ} (M : MarksOf s voids) where
      pub judged-clash :
          (place : ℕ) → Clashed (void_of voids) n s place → {c' : List ℕ} {m : ℕ} → Behind s place c m c' → Written s c (record { reply = refused_at Contradiction place; steps = m }) c'
      judged-clash place K B = call-clash Contradiction place (fresh-clash s n sound M place K) refl B

      pub judged-free : {d t : List ℕ} → Opened (void_of voids) n (facts s) d t false → Written s c (record { reply = (Ok tt); steps = 0 }) c
      judged-free O = let o = fresh-free s n sound M O in call-free n o.0 o.1 o.2
