-- The answer of a reply is what is derived, and what the models say. Assumes nothing.
use Rattle.std.specs.Prelude.{Err, Ok}
use Rattle.outcomes.specs.Accepted.{Outcome, accepted_with}
use Prim.Native.Nat.{ℕ}
use mathlib.Core.Path.{◌≡◌, refl, sym, subst}
use mathlib.Core.Bool.{Bool, true, false}
use mathlib.Core.List.{List}
use native.Mathlib.Omega.{arith}
use lib.Dec.{ltb}
use Rattle.rules.specs.Verdict.{verdict}
use Rattle.records.specs.Record.{record_at}
use Rattle.records.specs.Marked.{marked}
use Rattle.records.specs.Pieces.{piece_count}
use Rattle.records.specs.declared.Refusal.TheVariants.{ShortSteps}
use Rattle.records.proofs.Accepted.{accepted}
use Rattle.records.proofs.Rows.{refused-positive}
use Rattle.records.specs.Claimed.{claimed, picked_facts}
use Rattle.claims.proofs.Counts.{own-count}
use Rattle.outcomes.specs.Demands.{Derived, Entailed}
use Rattle.outcomes.specs.One.{refuse_if}
use Rattle.outcomes.proofs.Counting.{derived, entailed}
use Rattle.chain_check.specs.Call.{asked}
use Rattle.chain_check.proofs.Asking.{asked-passed, runs-consistent}
use Rattle.chain_writing.specs.Call.{reply_of, reply}
use Rattle.chain_writing.specs.ReplyNumbers.{number, answer}
use Rattle.chain_writing.specs.ReplyDemands.{ReplyDemanded}
use Rattle.chain_writing.proofs.Replies.{answered_byte}

module _ (s cs : List ℕ) where
  abbrev Right : ℕ → ℕ → Type 0
  Right n byte = Derived (marked s) n (picked_facts s cs 0) (claimed cs 0) byte × Entailed (marked s) n (picked_facts s cs 0) (claimed cs 0) byte

  by-outcome : (o : Outcome) → asked s cs ≡ o → number (reply_of (record_at cs 0) s o) ≡ 0 → Right (piece_count s) (answer (reply_of (record_at cs 0) s o))
  unfolding reply_of claimed
  by-outcome (Err r) e z = absurd (refused-positive r.refusal z)
  by-outcome (Ok n) e z =
      let P = asked-passed s cs n.pieces n.nodes n.shadows e in
      let C = own-count P.sound in
      let ok = runs-consistent s n.pieces n.nodes n.shadows P.sound P.runs in
      let w : Right n.pieces (verdict (marked s) n.pieces (picked_facts s cs 0) (claimed cs 0)) =
      (derived s C cs P.fit 0 (omega (arith, P.six)) ok, entailed s C cs P.fit 0 (omega (arith, P.six)) ok) in
      subst (λ (m : ℕ). Right m (answer (reply_of (record_at cs 0) s (accepted_with n.pieces n.nodes n.shadows)))) (accepted s n.pieces P.sound).count
      (subst (Right n.pieces) (sym (answered_byte n.pieces (record_at cs 0) s)) w)

  -- 15 comes first
  by-room : (b : Bool) → number (reply_of (record_at cs 0) s (refuse_if b ShortSteps (asked s cs))) ≡ 0
      → Right (piece_count s) (answer (reply_of (record_at cs 0) s (refuse_if b ShortSteps (asked s cs))))
  unfolding refuse_if reply_of
  by-room true z = absurd (omega arith)
  by-room false z = by-outcome (asked s cs) refl z

pub reply-demanded : ReplyDemanded
unfolding reply
reply-demanded s cs room z = by-room s cs (ltb room 164000) z
