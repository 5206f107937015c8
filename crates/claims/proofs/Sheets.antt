-- The run of the cutting sheets of an accepted book: it is about the same pieces, and it is free where the book is. Assumes nothing.
use Rattle.contradiction.specs.Row14.{Row14}
use Rattle.std.specs.Prelude.{Ok, Err}
use Prim.Native.Nat.{ℕ, ◌≤◌}
use mathlib.Core.Path.{◌≡◌, refl, sym, ◌∙◌}
use mathlib.Core.Bool.{Bool, true, false, false≢true}
use mathlib.Core.List.{List}
use native.Mathlib.Omega.{arith}
use lib.ListN.{length, take}
use Rattle.lists.specs.Front.{front}
use Rattle.lists.proofs.Fronts.{front-taken}
use Rattle.lists.proofs.Bools.{not-true}
use Rattle.rules.specs.Derives.{Contradictory}
use Rattle.rules.specs.Follows.{clash}
use Rattle.rules.proofs.More.{weaken-contradictory}
use Rattle.rules.proofs.Models.{clash-iff}
use Rattle.records.specs.Facts.{facts}
use Rattle.records.specs.Kept.{sheets}
use Rattle.records.specs.Check.{claims_check}
use Rattle.records.proofs.Accepted.{accepted}
use Rattle.records.proofs.Keeps.{sheets-among}
use Rattle.closure.specs.Closed.{Holds, whole_bit, away_bit, out_bit}
use Rattle.closure.specs.Bounded.{Bounded}
use Rattle.closure.specs.Stepped.{Stepped}
use Rattle.contradiction.specs.Opened.{Opened}
use Rattle.contradiction.specs.Settled.{Settles, Steps}
use Rattle.contradiction.proofs.SettlingLaws.{free-consistent}
use Rattle.closure.specs.Counted.{Counted}
use Rattle.claims.specs.Answered.{Answers, AnsweredFrom}
use Rattle.claims.proofs.Counts.{counted-settleable}

pub sheets-taken : (s x : List ℕ) (k : ℕ) {y : List ℕ} → k ≡ length (sheets s) → y ≡ front (sheets s) x → take k y ≡ sheets s
sheets-taken s x k e f = rw (e, f) (front-taken (sheets s) x)

module _ (s : List ℕ) {n : ℕ} (sound : Counted s n) where
  pub book-short : length s ≤ 49152
  book-short = let A = accepted s sound.own sound.sound in omega (arith, A.few, A.whole)

  module _ {run : List ℕ} (are : run ≡ sheets s) where
    pub sheets-bounded : Bounded n (facts run)
    sheets-bounded =
        let B = (counted-settleable s sound).bounded in
        rw are (record { some = B.some; fits = B.fits; within = λ f m. B.within f (sheets-among s f m) })

    module _ (void : ℕ → Bool) (z : void 0 ≡ false) (free : false ≡ clash void n (facts s)) where
      pub sheets-free : false ≡ clash void n (facts run)
      sheets-free =
          let B = sheets-bounded in
          sym
          (not-true _
          (λ e.
          let c : Contradictory void n (facts (sheets s)) = rw are at ((clash-iff void n (facts run) B.within B.some z).0 e) in
          free-consistent s (counted-settleable s sound).bounded void z free (weaken-contradictory (omega arith) (sheets-among s) c)))

      -- settling them finds no contradiction
      pub sheets-opened :
          {d t : List ℕ} (r : Row14) → Settles void n run d t r → Opened void n (facts run) d t false
      sheets-opened (Ok _) S = S.free refl
      sheets-opened (Err k) S = absurd (false≢true (sheets-free ∙ sym (S.clash k.place refl).is))

      pub sheets-stepped :
          {d t e order lead : List ℕ} (r : Row14) → Settles void n run d t r → Steps n run e order lead r
          → Stepped n (facts run) e order lead
      sheets-stepped (Ok _) S W = W.free refl
      sheets-stepped (Err k) S W = absurd (false≢true (sheets-free ∙ sym (S.clash k.place refl).is))

      -- and what the matrices of its closure tell of restricted claims is told of the sheets
      pub sheets-answered :
          {d u p t q cs before answers : List ℕ} (r : Row14) → Settles void n run d t r → Holds n u (whole_bit n (facts run)) → Holds n p (away_bit n (facts run)) → Holds n q (out_bit void n (facts run))
          → claims_check n cs ≡ Ok tt → Answers void 1 cs d u p t q before answers → AnsweredFrom void 1 n (facts (sheets s)) cs before answers
      sheets-answered r S wholes away outside fit A =
          let O = sheets-opened r S in
          rw (← are)
          (A.are n (facts run) sheets-bounded (record { whole = z; free = sheets-free; parts = O.parts; wholes = wholes; away = away; toward = O.toward; outside = outside }) fit)
