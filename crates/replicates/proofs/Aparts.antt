-- The bytes of an accepted part count what is derived, and what every model keeps. Assumes nothing.
use Rattle.std.specs.Prelude.{Err, Ok}
use Rattle.outcomes.specs.Accepted.{Outcome, accepted_with}
use Prim.Native.Nat.{ℕ, ◌+◌, ◌-◌, ◌<◌}
use mathlib.Core.Path.{◌≡◌, refl, ap, subst, ◌∙◌}
use mathlib.Core.Bool.{Bool}
use mathlib.Core.List.{List, []}
use native.Mathlib.Decide.{dec_lt}
use native.Mathlib.Omega.{arith}
use borrow.Author.Tests.{leb-false}
use lib.ListN.{length, get_or, replicate, length-take, get_or-append}
use lib.Seq.{get_or-take, get_or-append-add}
use Rattle.lists.specs.Front.{front}
use Rattle.lists.proofs.Bools.{same_truth}
use Rattle.lists.proofs.Tabs.{tab-at}
use Rattle.rules.specs.Fact.{APART}
use Rattle.rules.specs.Derives.{Contradictory}
use Rattle.rules.proofs.Decides.{follows-iff}
use Rattle.rules.proofs.Models.{follows-everywhere}
use Rattle.records.specs.Facts.{facts}
use Rattle.records.specs.Marked.{marked}
use Rattle.records.specs.Pieces.{piece_count}
use Rattle.records.specs.Check.{book_check}
use Rattle.records.proofs.Accepted.{accepted}
use Rattle.records.proofs.Rows.{refused-positive}
use Rattle.contradiction.proofs.SettlingLaws.{settleable, whole-unmarked, beyond-free, free-consistent}
use Rattle.outcomes.specs.Lent.{lent}
use Rattle.outcomes.specs.Outcome.{number}
use Rattle.outcomes.specs.Fresh.{fresh_call}
use Rattle.outcomes.proofs.Outcomes.{Told, told}
use Rattle.answers.proofs.Fresh.{fresh-is, roomy-long}
use Rattle.replicates.specs.declared.Window.{Window}
use Rattle.replicates.specs.Log.{entry_count, entry_at, entries, handed, sequence}
use Rattle.replicates.specs.Call.{outcome, apart_in, bytes_in, left}
use Rattle.replicates.specs.Writing.{Fits}
use Rattle.replicates.specs.Apart.{ByDerivations, ByModels, Bytes, Certain, ApartCertain}
use Rattle.replicates.proofs.Same.{bytes_same}
use Rattle.replicates.proofs.Sequences.{sequence-length}
use Rattle.replicates.proofs.Joins.{sent_is}

-- an accepted book passes its rows and is not contradictory
sound-free :
    (s : List ℕ) {n v h : ℕ} → fresh_call s [] ≡ accepted_with n v h → (sound : book_check s ≡ Ok n) × (Contradictory (marked s) n (facts s) → ⊥)
sound-free s {n} {v} {h} e =
    let l = lent (replicate 2560 0) (replicate 1280 0) (replicate 8192 0) (replicate 2048 0) [] in
    let t : Told s [] l (accepted_with n v h) = subst (Told s [] l) (fresh-is s [] l roomy-long ∙ e) (told s [] l) in
    let sound = t.0.sound in
    let S = settleable s n sound in
    let z = whole-unmarked s n sound in
    (sound, free-consistent s S.bounded (marked s) z (beyond-free s S.bounded (marked s) z (leb-false _ _ t.1)))

-- the entries at hand are pieces of the book
below : (n : ℕ) (w : Window) (log : List ℕ) → Fits n w log → (j : ℕ) → j < length (sequence w log) → get_or (sequence w log) j 0 < n
unfolding sequence handed entries
below n w log F j l = at (dec_lt j (length (handed w)))
  where
    at : Dec (j < length (handed w)) → get_or (sequence w log) j 0 < n
    at (yes h) =
        let k : j < w.count = omega (arith, length-take w.count w.pieces) in
        rw (get_or-append (handed w) (entries log) 0 j h, get_or-take w.count w.pieces j 0 k) (F.window j k)
    at (no h) =
        let i : ℕ = j - length (handed w) in
        let e : length (handed w) + i ≡ j = omega arith in
        let k : i < entry_count log = omega (arith, sequence-length w log) in
        rw (← e, get_or-append-add (handed w) (entries log) i 0, tab-at (entry_at log) (entry_count log) i 0 k) (F.entries i k)

module _ (s : List ℕ) (n : ℕ) (sound : book_check s ≡ Ok n) (ok : Contradictory (marked s) n (facts s) → ⊥) where
  derived : ByDerivations s n (apart_in s n)
  derived x y a b = let B = (settleable s n sound).bounded in follows-iff (marked s) n (facts s) B.within B.some (APART x y) (a, b)

  entailed : ByModels s n (apart_in s n)
  entailed x y a b =
      let B = (settleable s n sound).bounded in
      let d = derived x y a b in
      let v = follows-everywhere (marked s) n (facts s) B.within B.some (whole-unmarked s n sound) ok (APART x y) (a, b) in
      (λ t. v.0 (d.0 t), λ m. d.1 (v.1 m))

  module _ (w : Window) (log out : List ℕ) (F : Fits n w log) {v h : ℕ} (e : outcome s w log (length out) ≡ accepted_with n v h) where
    by : (R : ℕ → ℕ → Bool) → ((x y : ℕ) → x < n → y < n → apart_in s n x y ≡ R x y) → Bytes s w log out R
    unfolding left bytes_in
    by R same =
        ap (left s w log out) e
        ∙ ap (λ (bs : List ℕ). front bs out)
        (bytes_same (apart_in s n) R (sequence w log) (sequence w log) (length (sequence w log))
        (λ j q l k. same _ _ (below n w log F j l) (below n w log F q k)) (length (handed w)) (entry_count log) (omega (arith, sequence-length w log)))

    certain : Certain s n w log out
    certain =
        record {
          pieces = below n w log F;
          derived = derived;
          entailed = entailed;
          by-derivations = λ R r. by R (λ x y a b. same_truth _ _ (λ t. (r x y a b).1 ((derived x y a b).0 t)) (λ t. (derived x y a b).1 ((r x y a b).0 t)));
          by-models = λ R r. by R (λ x y a b. same_truth _ _ (λ t. (r x y a b).1 ((entailed x y a b).0 t)) (λ t. (entailed x y a b).1 ((r x y a b).0 t)));
        }

pub apart-certain : ApartCertain
unfolding fresh_call
apart-certain s w log out z = pick (outcome s w log (length out)) refl z
  where
    pick : (o : Outcome) → outcome s w log (length out) ≡ o → number o ≡ 0 → Certain s (piece_count s) w log out
    pick (Err r) e q = absurd (refused-positive r.refusal q)
    pick (Ok n) e q =
        let p = sent_is s w log (length out) n.pieces n.nodes n.shadows e in
        let f = sound-free s p.0 in
        subst (λ (m : ℕ). Certain s m w log out) (accepted s n.pieces f.0).count (certain s n.pieces f.0 f.1 w log out p.2 e)
