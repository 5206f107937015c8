-- A book that 14 refuses at a place: the run before it is free, the record there states a fact, and the silenced copy denies it. Assumes nothing.
use Rattle.contradiction.specs.Row14.{Row14}
use Rattle.std.specs.Prelude.{Ok, Err}
use Rattle.records.specs.Refused.{refused_at}
use Prim.Native.Nat.{ℕ, ◌+◌, ◌*◌, ◌≤◌}
use mathlib.Core.Path.{◌≡◌, refl, sym, ap, subst, ◌∙◌}
use mathlib.Core.Logic.{◌⊎◌, inl, inr}
use mathlib.Core.Bool.{Bool, true, false, false≢true}
use mathlib.Core.List.{List, [], Memᴰ}
use native.Mathlib.Omega.{arith}
use native.Mathlib.Decide.{dec_lt}
use lib.ListN.{length, take, replicate}
use Rattle.lists.proofs.Bools.{Known, is_true, is_false, known, not-true}
use Rattle.rules.specs.Fact.{Fact, opposite, Within}
use Rattle.rules.specs.Derives.{Derives, Contradictory}
use Rattle.rules.specs.Follows.{follows, clash}
use Rattle.rules.proofs.Facts.{opposite-within}
use Rattle.rules.proofs.More.{weaken, weaken-contradictory}
use Rattle.rules.proofs.Decides.{follows-iff}
use Rattle.rules.proofs.Models.{clash-iff, clash-denies}
use Rattle.records.specs.declared.Refusal.{Refusal}
use Rattle.records.specs.declared.Refusal.TheVariants.{Contradiction}
use Rattle.records.specs.declared.Edition.TheVariants.{Current}
use Rattle.records.specs.Record.{record_at}
use Rattle.records.specs.Refusal.{refusal_number}
use Rattle.records.specs.Pieces.{stated, piece_count}
use Rattle.records.specs.Facts.{saying, facts}
use Rattle.records.specs.Marked.{marked}
use Rattle.records.proofs.Runs.{run-records, run-record, fact-here, fact-from}
use Rattle.records.proofs.Keeps.{picked_all}
use Rattle.records.proofs.Accepted.{AcceptedBook, accepted}
use Rattle.closure.specs.Void.{void_of}
use Rattle.closure.specs.Bounded.{Bounded}
use Rattle.closure.specs.Stored.{edge_bit}
use Rattle.closure.specs.Closed.{Holds}
use Rattle.closure.specs.Counted.{MarksOf}
use Rattle.contradiction.specs.Opened.{Opened}
use Rattle.contradiction.proofs.Halving.{run-bounded}
use Rattle.contradiction.specs.Settled.{Clashed, Settles}
use Rattle.records.specs.Contradiction as row14
use Rattle.contradiction.proofs.SettlingLaws.{settleable, whole-unmarked, clashed-first}
use Rattle.claims.proofs.Counts.{own-count, counted-clashed}
use Rattle.outcomes.specs.Lent.{lent}
use Rattle.outcomes.specs.Fresh.{fresh_call}
use Rattle.outcomes.proofs.Outcomes.{Told, told}
use Rattle.answers.proofs.Fresh.{fresh-is, fresh-runs, roomy-long}
use Rattle.answers.proofs.Judges.{refuses}
use Rattle.derivations.specs.Found.{Ground}
use Rattle.clash.specs.Clash.{fact_at, unrestricted}
use Rattle.clash.specs.Silenced.{silenced, Clashes}
use Rattle.clash.proofs.Silencing.{silenced-records, silenced-marks, silenced-among, among-silenced}

-- ---- from the outcome

pub fresh-clashes : (s : List ℕ) (r : Refusal) (i : ℕ) → fresh_call s [] ≡ refused_at r i → refusal_number r ≡ 14 → Clashes s i
fresh-clashes s r i e k =
    let l = lent (replicate 2560 0) (replicate 1280 0) (replicate 8192 0) (replicate 2048 0) [] in
    let t : Told s [] l (refused_at r i) = subst (Told s [] l) (fresh-is s [] l roomy-long ∙ e) (told s [] l) in
    let b = t k in
    let n = b.0 in
    let q : n ≡ piece_count s = (accepted s n b.1.sound).count in
    record {
      sound = b.1.sound ∙ ap Ok q;
      clashed = subst (λ (m : ℕ). Clashed (marked s) m s i) q (subst (λ (j : ℕ). Clashed (marked s) n s j) (sym b.3) (counted-clashed s (own-count b.1.sound) b.2));
    }

module _ {s : List ℕ} {i : ℕ} (C : Clashes s i) where
  abbrev n : ℕ
  n = piece_count s

  abbrev run : List ℕ
  run = take (6 * i) s

  pub back : fresh_call s [] ≡ refused_at Contradiction i
  back = fresh-runs s n C.sound ∙ sym (refuses s n (own-count C.sound) i C.clashed)

  pub book-ok : AcceptedBook Current s n
  book-ok = accepted s n C.sound

  S : Bounded n (facts s)
  S = (settleable s n C.sound).bounded

  pub bare : marked s 0 ≡ false
  bare = whole-unmarked s n C.sound

  pub first : row14.Contradiction (marked s) n s i
  first = clashed-first s S (marked s) bare C.clashed

  pub room : 6 * i + 6 ≤ length s
  room = omega (arith, first.present)

  pub short : length s ≤ 49152
  short = omega (arith, book-ok.few, book-ok.whole)

  pub small : n ≤ 2048
  small = S.fits

  run_fits : 6 * i ≤ length s
  run_fits = omega (arith, room)

  before : Bounded n (facts run)
  before = run-bounded s i run_fits S

  ok : Contradictory (marked s) n (facts run) → ⊥
  ok = first.earlier i (omega arith)

  -- ---- the record there

  -- a fact of the run that ends with it is a fact of the run before, or its own
  abbrev Own : Fact → Type 0
  Own g = (stated (record_at s i) ≡ true) × (g ≡ fact_at s i)

  split : (g : Fact) → Memᴰ g (facts (take (6 * (i + 1)) s)) → Memᴰ g (facts run) ⊎ Own g
  split g m =
      let h : 6 * (i + 1) ≤ length s = omega (arith, room) in
      let o = fact-from (take (6 * (i + 1)) s) g m in
      let e = run-record s (i + 1) h o.0 (omega (arith, o.1, run-records s (i + 1) h)) in
      let t : stated (record_at s o.0) ≡ true = ap stated (sym e) ∙ o.2 in
      let q : saying (record_at s o.0) ≡ g = ap saying (sym e) ∙ o.3 in
      elim (dec_lt o.0 i) [
        | yes l ↦
            let x = run-record s i run_fits o.0 l in
            inl (subst (λ (f : Fact). Memᴰ f (facts run)) (ap saying x ∙ q) (fact-here run o.0 (omega (arith, run-records s i run_fits)) (ap stated x ∙ t)))
        | no l ↦
            let x : o.0 ≡ i = omega (arith, o.1, run-records s (i + 1) h) in
            inr (ap (λ (j : ℕ). stated (record_at s j)) (sym x) ∙ t, sym q ∙ ap (fact_at s) x)
      ]

  -- it states a fact: a mark adds none
  pub states : stated (record_at s i) ≡ true
  states = pick (known (stated (record_at s i)))
    where
      none : stated (record_at s i) ≡ false → (g : Fact) → Memᴰ g (facts run) ⊎ Own g → Memᴰ g (facts run)
      none e g (inl m) = m
      none e g (inr o) = absurd (false≢true (sym e ∙ o.0))

      pick : Known (stated (record_at s i)) → stated (record_at s i) ≡ true
      pick (is_true e) = e
      pick (is_false e) = absurd (ok (weaken-contradictory (omega arith) (λ g m. none e g (split g m)) first.here))

  pub within : Within n (fact_at s i)
  within = S.within (fact_at s i) (fact-here s i first.present states)

  -- the run before derives the opposite
  pub denied : Derives (marked s) n (facts run) (opposite (fact_at s i))
  denied = clash-denies (marked s) n (facts run) before.within before.some bare ok (fact_at s i) within (λ g m. own (split g m)) first.here
    where
      own : {g : Fact} → Memᴰ g (facts run) ⊎ Own g → Memᴰ g (facts run) ⊎ (g ≡ fact_at s i)
      own (inl m) = inl m
      own (inr o) = inr o.1

  -- ---- the silenced copy

  pub silenced-bounded : Bounded n (facts (silenced s i))
  silenced-bounded = record { some = before.some; fits = before.fits; within = λ f m. before.within f (silenced-among s i run_fits f m) }

  silenced-free : false ≡ clash (marked s) n (facts (silenced s i))
  silenced-free =
      sym
      (not-true _
      (λ e. ok (weaken-contradictory (omega arith) (silenced-among s i run_fits) ((clash-iff (marked s) n (facts (silenced s i)) silenced-bounded.within silenced-bounded.some bare).0 e))))

  pub silenced-follows : follows (marked s) n (facts (silenced s i)) (opposite (fact_at s i)) ≡ true
  silenced-follows =
      (follows-iff (marked s) n (facts (silenced s i)) silenced-bounded.within silenced-bounded.some (opposite (fact_at s i)) (opposite-within n (fact_at s i) within)).1
      (weaken (omega arith) (among-silenced s i run_fits) denied)

  -- settling it finds no contradiction
  silenced-opened : {voids d t : List ℕ} → MarksOf s voids → (r : Row14) → Settles (void_of voids) n (silenced s i) d t r → Opened (void_of voids) n (facts (silenced s i)) d t false
  silenced-opened M (Ok _) W = W.free refl
  silenced-opened M (Err k) W =
      absurd (false≢true (silenced-free ∙ sym ((W.clash k.place refl).is ∙ ap (λ (v : ℕ → Bool). clash v n (facts (silenced s i))) M.1)))

  pub silenced-marked : {voids : List ℕ} → MarksOf s voids → MarksOf (silenced s i) voids
  silenced-marked M = (M.0, M.1 ∙ sym (silenced-marks s i))

  pub silenced-ground :
      {voids e d t : List ℕ} → MarksOf s voids → (r : Row14) → Settles (void_of voids) n (silenced s i) d t r → Holds n e (edge_bit n (facts (silenced s i)))
      → Ground n (unrestricted (record_at s i)) (silenced s i) voids e d t
  silenced-ground {voids} M r W E =
      let O = silenced-opened M r W in
      let q = picked_all (silenced s i) (unrestricted (record_at s i)) refl in
      record {
        few = omega (arith, silenced-records s i, book-ok.few);
        bounded = silenced-bounded;
        void = silenced-marked M;
        free = rw (silenced-marks s i, q) silenced-free;
        steps = rw q E;
        parts = rw q O.parts;
        toward = rw (silenced-marks s i, q, ← M.1) O.toward;
      }
