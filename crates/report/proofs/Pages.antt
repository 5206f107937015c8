-- A call's outcome and answers make the page. Assumes nothing.
use Rattle.records.specs.Refused.{refused_at}
use Rattle.outcomes.specs.Accepted.{Outcome, accepted_with}
use Prim.Native.Nat.{ℕ, zero, suc, ◌≤◌, ◌<◌, ◌^◌}
use mathlib.Core.Path.{◌≡◌, refl, ap, sym, ◌∙◌}
use mathlib.Core.List.{List, ◌++◌}
use native.Mathlib.Omega.{arith}
use lib.ListN.{length, get_or, replicate}
use Rattle.records.specs.Record.{records}
use Rattle.records.specs.Refusal.{refusal_number}
use Rattle.records.specs.declared.Refusal.{Refusal}
use Rattle.records.proofs.Rows.{refused-positive}
use Rattle.outcomes.specs.Lent.{unasked}
use Rattle.outcomes.specs.Call.{outcome, left}
use Rattle.pages.specs.Put.{Put}
use Rattle.pages.specs.Printed.{Printed}
use Rattle.pages.proofs.Writing.{with-room, printed-as}
use Rattle.report.proofs.Rooms.{refusal-width, page-width}
use Rattle.report.specs.Session.{claim_lines, counts_line, refusal_line, session}
use Rattle.report.specs.Page.{zeros, page_of, printed}
use Rattle.report.specs.Answered.{Answered}

pub determined : (book claims answers answers' : List ℕ) (o : Outcome) → answers ≡ replicate 4097 0 → o ≡ outcome book claims (unasked answers)
    → answers' ≡ (left book claims (unasked answers) o).answers → Answered book claims answers' o
unfolding zeros
determined book claims answers answers' o is comes leaves =
    let zeroed : unasked answers ≡ zeros = ap unasked is in
    record { comes = comes ∙ ap (outcome book claims) zeroed; leaves = leaves ∙ ap (λ l. (left book claims l o).answers) zeroed }

refusal-page : (i : ℕ) (claims answers : List ℕ) (n : ℕ) → (n ≡ 0 → ⊥) → refusal_line n i ≡ session n i 0 0 0 claims answers
unfolding session
refusal-page i claims answers zero h = absurd (h refl)
refusal-page i claims answers (suc n) h = refl

module _ (book claims answers : List ℕ) (o : Outcome) (d : Answered book claims answers o) where
  told : page_of claims o answers ≡ printed book claims
  unfolding printed
  told = rw (sym d.comes, sym d.leaves)

  module _ {p q : List ℕ} {e : ℕ} (long : 135285 ≤ length p) where
    pub refused : (r : Refusal) (n i : ℕ) → o ≡ refused_at r i → n ≡ refusal_number r → n < 2 ^ 64 → i < 2 ^ 64
        → Put p 0 (refusal_line n i) q e → Printed p (printed book claims) q e
    refused r n i is number hn hi a =
        let same : refusal_line n i ≡ printed book claims = rw (sym told, is, number) (refusal-page i claims answers (refusal_number r) (refused-positive r)) in
        printed-as same (with-room a (omega (arith, refusal-width n i hn hi)))

    pub accepted : (pieces nodes shadows : ℕ) → o ≡ accepted_with pieces nodes shadows → pieces < 2 ^ 64 → nodes < 2 ^ 64 → shadows < 2 ^ 64
        → ((j : ℕ) → get_or claims j 0 < 256) → length claims ≤ 24582
        → Put p 0 (counts_line pieces nodes shadows ++ claim_lines claims answers (records claims)) q e → Printed p (printed book claims) q e
    unfolding session
    accepted pieces nodes shadows is hp hn hs bytes few a =
        let same : counts_line pieces nodes shadows ++ claim_lines claims answers (records claims) ≡ printed book claims = rw (sym told, is) in
        printed-as same (with-room a (omega (arith, page-width claims answers bytes pieces nodes shadows hp hn hs (omega arith))))
