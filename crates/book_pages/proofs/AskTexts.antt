-- The text of a call's outcome and answers, and how long it is. Assumes nothing.
use Rattle.records.specs.Refused.{refused_at}
use Rattle.outcomes.specs.Accepted.{Outcome, accepted_with}
use Prim.Native.Nat.{ℕ, ◌+◌, ◌*◌, ◌/◌, ◌≤◌, ◌<◌, ◌^◌}
use mathlib.Core.Path.{◌≡◌, sym}
use mathlib.Core.List.{List, ◌++◌}
use native.Mathlib.Omega.{arith}
use lib.ListN.{length, get_or}
use Rattle.records.specs.Record.{records}
use Rattle.records.specs.declared.Refusal.{Refusal}
use Rattle.sentences.specs.Refusals as line
use Rattle.report.specs.Session.{claim_lines, counts_line}
use Rattle.report.specs.Answered.{Answered}
use Rattle.report.proofs.Rooms.{page-width}
use Rattle.book_pages.specs.AskText.{text_of, session_text}

module _ (book claims source other answers : List ℕ) (o : Outcome) (d : Answered book claims answers o) where
  told : text_of claims source other o answers ≡ session_text book claims source other
  unfolding session_text
  told = rw (sym d.comes, sym d.leaves)

  pub refused : (r : Refusal) (i : ℕ) → o ≡ refused_at r i → line.refused r i source other ≡ session_text book claims source other
  unfolding text_of
  refused r i is = rw (sym told, is)

  pub refused-short : (r : Refusal) (i : ℕ) → o ≡ refused_at r i → length (line.refused r i source other) ≤ 142 → length (session_text book claims source other) ≤ 142 + 33 * records claims
  refused-short r i is h = rw (sym (refused r i is)) (omega arith)

  module _ (n nodes shadows : ℕ) (is : o ≡ accepted_with n nodes shadows) where
    pub accepted : counts_line n nodes shadows ++ claim_lines claims answers (records claims) ≡ session_text book claims source other
    unfolding text_of
    accepted = rw (sym told, is)

    pub accepted-short : n < 2 ^ 64 → nodes < 2 ^ 64 → shadows < 2 ^ 64 → ((j : ℕ) → get_or claims j 0 < 256) → length claims ≤ 24582
        → length (session_text book claims source other) ≤ 142 + 33 * records claims
    accepted-short hn ho hs bytes few =
        rw (sym accepted) (omega (arith, page-width claims answers bytes n nodes shadows hn ho hs (omega arith)))

-- at most 4,097 claims are read
pub room : (m n : ℕ) → m ≤ 142 + 33 * (n / 6) → n ≤ 24582 → m ≤ 135343
room m n h k = omega arith
