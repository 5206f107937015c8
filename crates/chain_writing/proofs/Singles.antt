-- An answer that one step shows. Assumes nothing.
use Rattle.std.specs.Prelude.{Ok}
use Prim.Native.Nat.{ℕ, ◌-◌, ◌*◌, ◌≤◌, ◌<◌}
use mathlib.Core.Path.{◌≡◌, refl, sym, ◌∙◌}
use mathlib.Core.Logic.{inl, inr}
use mathlib.Core.Bool.{true, false, false≢true}
use mathlib.Core.List.{List}
use native.Mathlib.Omega.{arith}
use lib.ListN.{length}
use Rattle.lists.specs.Front.{placed}
use Rattle.lists.proofs.Bools.{not-true}
use Rattle.rules.specs.Fact.{Fact, opposite, Within, AllWithin}
use Rattle.rules.specs.Follows.{follows, clash}
use Rattle.rules.proofs.Facts.{opposite-within}
use Rattle.rules.proofs.Decides.{follows-iff}
use Rattle.rules.proofs.Models.{clash-iff}
use Rattle.records.specs.declared.Record.{Record}
use Rattle.records.specs.Pieces.{stated}
use Rattle.records.specs.Facts.{saying, facts}
use Rattle.records.specs.Kept.{picked}
use Rattle.records.specs.Marked.{marked}
use Rattle.records.specs.Check.{book_check}
use Rattle.records.proofs.Keeps.{picked_all}
use Rattle.records.proofs.Accepted.{accepted, accepted-within, accepted-positive, says-kind, says-left, says-right, kind-of}
use Rattle.contradiction.proofs.SettlingLaws.{whole-unmarked}
use Rattle.verdicts.specs.declared.Answer.TheVariants.{Follows, Denied}
use Rattle.chain_format.specs.Step.{step_bytes, shows}
use Rattle.chain_format.specs.Citing.{citing}
use Rattle.chain_format.specs.Twice.{Differ}
use Rattle.derivations.specs.Shown.{Writes}
use Rattle.derivations.proofs.Puts.{step-put}
use Rattle.derivations.proofs.Composed.{writes_one}
use Rattle.chain_format.specs.declared.steps.Step.{Step}
use Rattle.derivations.specs.Found.{Singly}
use Rattle.derivations.proofs.Grounds.{written-follows}
use Rattle.chain_writing.specs.Call.{answer_for, Answering}
use Rattle.chain_writing.proofs.Replies.{is-answer, spoken}
use Rattle.chain_format.proofs.Showing.{shows-opposite}

alone : (c : List ℕ) → Differ c 0 1
alone c i j a b h = absurd (omega arith)

module _ (n : ℕ) (claim : Record) (s c : List ℕ) (room : 164000 ≤ length c) (sound : book_check s ≡ Ok n) (all : claim.origin ≡ 0) (t : stated claim ≡ true) (inside : Within n (saying claim)) where
  within : AllWithin n (facts (picked s claim))
  within = rw (picked_all s claim all) (accepted-within (accepted s n sound))

  positive : 0 < n
  positive = accepted-positive (accepted s n sound)

  module _ {x : Step} {c' : List ℕ} (p : c' ≡ placed (10 * 0) (step_bytes x) c) where
    one : (g : Fact) → {k a b : ℕ} → Singly n (citing claim s) k a b x → shows x g ≡ true → Writes n (citing claim s) g 12285 c 0 c' 1
    one g S q =
        let G = S.grounded in
        let P = step-put c c' 0 x (omega arith) p G.left G.right G.first G.second in
        let W = writes_one P (G.holds _ _ _) g q in
        record { more = W.more; few = omega (arith, W.few); edited = W.edited; shown = W.shown; ok = W.ok }

    pub single-follows : Singly n (citing claim s) claim.kind claim.a claim.b x → Answering n claim s c (record { reply = Ok Follows; steps = 1 }) c'
    unfolding answer_for
    single-follows S =
        let W = one (saying claim) S (rw (says-kind claim t, says-left claim, says-right claim) S.shown) in
        spoken n claim s c room Follows (is-answer n claim s c room true _ (written-follows claim s within positive (saying claim) inside W, refl)) (saying claim) (inl refl) W (alone c') refl

    pub single-denied :
        false ≡ clash (marked s) n (facts s) → Singly n (citing claim s) (5 - claim.kind) claim.a claim.b x → Answering n claim s c (record { reply = Ok Denied; steps = 1 }) c'
    unfolding answer_for
    single-denied free S =
        let z = kind-of claim t in
        let W = one (opposite (saying claim)) S (sym (shows-opposite x claim.kind claim.a claim.b z.0 z.1) ∙ S.shown) in
        let o = opposite-within n (saying claim) inside in
        let y = written-follows claim s within positive (opposite (saying claim)) o W in
        spoken n claim s c room Denied (is-answer n claim s c room false true (not-true _ (no y), y)) (opposite (saying claim)) (inr refl) W (alone c') refl
      where
        no : follows (marked s) n (facts (picked s claim)) (opposite (saying claim)) ≡ true → follows (marked s) n (facts (picked s claim)) (saying claim) ≡ true → ⊥
        no y e =
            let fs = facts (picked s claim) in
            let none : false ≡ clash (marked s) n (facts (picked s claim)) = rw (picked_all s claim all) free in
            let f = follows-iff (marked s) n fs within positive in
            false≢true
            (none
            ∙ (clash-iff (marked s) n fs within positive (whole-unmarked s n sound)).1
            (saying claim, inside, (f (saying claim) inside).0 e, (f (opposite (saying claim)) (opposite-within n (saying claim) inside)).0 y))
