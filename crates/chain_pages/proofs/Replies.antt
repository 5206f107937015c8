-- The text of each reply, and how long it is. Assumes nothing.
use Rattle.std.specs.Prelude.{Ok}
use Rattle.records.specs.Refused.{refused_at}
use Rattle.chain_writing.specs.Reply.{Reply}
use Prim.Native.Nat.{ℕ, ◌≤◌}
use mathlib.Core.Path.{◌≡◌}
use mathlib.Core.List.{List, []}
use native.Mathlib.Omega.{arith}
use lib.ListN.{length, length-append}
use Rattle.records.specs.declared.Record.{Record}
use Rattle.records.specs.Record.{record_at}
use Rattle.records.specs.declared.Refusal.{Refusal}
use Rattle.verdicts.specs.declared.Answer.{Answer}
use Rattle.verdicts.specs.Answers.{answer_byte}
use Rattle.chain_format.specs.Step.{steps}
use Rattle.sentences.specs.Refusals as line
use Rattle.chain_pages.specs.StepLine.{step_lines}
use Rattle.chain_pages.specs.AnswerLine.{answer_line}
use Rattle.chain_pages.specs.ChainText.{chain_text, Bytes}
use Rattle.chain_pages.proofs.Rooms.{steps-width, answer-line-width}
use Rattle.chain_pages.specs.WhyText.{why_text}

module _ (source claim : List ℕ) (r : Reply) (c : List ℕ) where
  pub refused : (e : Refusal) (i : ℕ) → r ≡ refused_at e i → line.refused e i source [] ≡ why_text source claim r c
  unfolding why_text
  refused e i is = rw is

  pub answered : (a : Answer) (read : Record) → r ≡ Ok a → read ≡ record_at claim 0 → chain_text read a c ≡ why_text source claim r c
  unfolding why_text
  answered a read is same = rw (is, same)

  pub refused-short : (e : Refusal) (i : ℕ) → r ≡ refused_at e i → length (line.refused e i source []) ≤ 142 → length (why_text source claim r c) ≤ 852835
  unfolding why_text
  refused-short e i is h = rw is (omega arith)

  -- 35 bytes for the answer, 52 for each of at most 16,400 steps
  pub answered-short : (a : Answer) → r ≡ Ok a → Bytes claim → Bytes c → length c ≤ 164000 → length (why_text source claim r c) ≤ 852835
  unfolding why_text chain_text
  answered-short a is bytes bytes' h =
      rw is
      (omega (
        arith,
        length-append (answer_line (record_at claim 0) (answer_byte a)) (step_lines c (steps c)),
        answer-line-width claim bytes (answer_byte a),
        steps-width c bytes' (steps c) (omega arith),
      ))

pub same_text : (source claim c : List ℕ) (r q : Reply) → r ≡ q → why_text source claim r c ≡ why_text source claim q c
same_text source claim c r q is = rw is
