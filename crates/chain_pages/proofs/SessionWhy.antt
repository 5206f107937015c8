-- Document 01's session book and `why`, by computation. Assumes nothing.
use Rattle.std.specs.Prelude.{Ok}
use Prim.Native.Nat.{ℕ, zero, suc}
use mathlib.Core.Path.{◌≡◌, refl, ap, subst, ◌∙◌}
use mathlib.Core.Bool.{Bool, true, ◌&&◌}
use mathlib.Core.List.{List, [], ◌∷◌}
use lib.Dec.{ltb}
use borrow.Author.Tests.{ltb-true}
use native.Mathlib.Omega.{arith}
use Rattle.lists.specs.Tab.{tab}
use Rattle.lists.specs.Any.{any, any_below}
use Rattle.lists.specs.First.{first}
use Rattle.lists.proofs.Bools.{and_both}
use Rattle.rules.specs.Fact.{fact_of}
use Rattle.rules.specs.Follows.{storing, turned, parting, table, entry, step, rounds, containment, apart, meets, notpart, derived, follows, clash}
use Rattle.rules.specs.Entries.{facts_of, shortest_clash}
use Rattle.records.specs.Marked.{marks, marked}
use Rattle.records.specs.Record.{record_at}
use Rattle.records.specs.Refusal.{scan}
use Rattle.records.specs.Pieces.{stated, largest, pieces_up_to}
use Rattle.records.specs.Rows.{order_row, same_bytes, admitted}
use Rattle.records.specs.Check.{form_finding, record_finding, check_by, claim_at, claims_check}
use Rattle.records.specs.Facts.{entry_of, entries}
use Rattle.records.specs.Kept.{picked}
use Rattle.verdicts.specs.declared.Answer.TheVariants.{Follows, Denied}
use Rattle.outcomes.specs.One.{refuse_if, by_one}
use Rattle.outcomes.specs.Call.{by_runs, by_claims}
use Rattle.chain_format.specs.Step.{step_at, showing}
use Rattle.chain_format.specs.Citing.{cited_of, citing, marks_piece, marks_some}
use Rattle.chain_format.specs.Rule as rules
use Rattle.chain_format.specs.Justified.{some, named, cites, premised, keeps, justified, step_ok}
use Rattle.chain_format.specs.Chain.{all_ok, concludes, chain_ok}
use Rattle.chain_check.specs.Call.{asked, passing, passes}
use Rattle.chain_writing.specs.Call.{answer_for, answer_to, reply_of}
use Rattle.pages.specs.Text.{ascii}
use Rattle.pages.specs.Decimal.{spell, decimal}
use Rattle.pages.specs.Entry as names
use Rattle.pages.specs.Lines.{lines}
use Rattle.text.specs.Runs.{blank, of_sort, run, behind}
use Rattle.text.specs.Word.{word, rest}
use Rattle.text.specs.Number.{is_digit, digits, value, number_from, number}
use Rattle.text.specs.Names as spoken
use Rattle.text.specs.Line.{with_number, lastly, secondly, kinded, line_of}
use Rattle.text.specs.Either.{is_text, read_either}
use Rattle.sentences.specs.Words.{kind_name, answer_name}
use Rattle.sentences.specs.Sources.{of_source}
use Rattle.sentences.specs.Arguments.{words_of, of_words}
use Rattle.answers.specs.Examples.{session_book}
use Rattle.chain_pages.specs.StepLine.{count, step_line, step_lines}
use Rattle.chain_pages.specs.AnswerLine.{answer_line}
use Rattle.chain_pages.specs.ChainText.{chain_text, Bytes}
use Rattle.chain_pages.specs.Verified.{said, Verified}
use Rattle.chain_pages.proofs.Verifying.{answer-verifies}
use Rattle.chain_pages.specs.WhyText.{why_text, why_page}
use Rattle.chain_pages.specs.SessionWhy.{part_steps, notpart_steps, part_page, notpart_page, SessionWhy, SessionVerified}

-- a list of bytes, by computation
unfoldable all_bytes : List ℕ → Bool
all_bytes [] = true
all_bytes (x ∷ l) = ltb x 256 && all_bytes l

bytes-all : (l : List ℕ) → all_bytes l ≡ true → Bytes l
unfolding all_bytes
bytes-all [] e j = omega arith
bytes-all (x ∷ l) e zero = ltb-true x 256 (and_both (ltb x 256) (all_bytes l) e).0
bytes-all (x ∷ l) e (suc j) = bytes-all l (and_both (ltb x 256) (all_bytes l) e).1 j

abbrev part_claim : List ℕ
part_claim = 1 ∷ 0 ∷ 5 ∷ 0 ∷ 2 ∷ 0 ∷ []

abbrev notpart_claim : List ℕ
notpart_claim = 1 ∷ 0 ∷ 2 ∷ 0 ∷ 1 ∷ 0 ∷ []

answers-said : (said session_book part_claim ≡ Ok Follows) × (said session_book notpart_claim ≡ Ok Denied)
unfolding said asked by_one refuse_if reply_of answer_to answer_for record_at check_by scan record_finding form_finding order_row stated largest pieces_up_to same_bytes any_below by_claims claims_check claim_at by_runs shortest_clash entries entry_of fact_of tab clash any table entry storing turned parting marks marked step rounds containment apart meets notpart derived follows first facts_of picked admitted
answers-said = (refl, refl)

-- how a claim in words and a book of records are read
pages-read : (why_page session_book (ascii "part 5 2") part_steps ≡ why_text session_book part_claim (said session_book part_claim) part_steps)
    × (why_page session_book (ascii "PART 2 1 all") notpart_steps ≡ why_text session_book notpart_claim (said session_book notpart_claim) notpart_steps)
unfolding why_page of_words words_of line_of with_number lastly secondly kinded word rest blank of_sort run behind is_digit digits value number_from number spoken.lower spoken.same spoken.place spoken.kind_of spoken.choice_of of_source read_either is_text
pages-read = (refl, refl)

texts : (chain_text (record_at part_claim 0) Follows part_steps ≡ part_page) × (chain_text (record_at notpart_claim 0) Denied notpart_steps ≡ notpart_page)
unfolding chain_text answer_line step_lines step_line step_at record_at lines kind_name answer_name names.entry decimal spell count
texts = (refl, refl)

steps-pass : (passes session_book part_claim part_steps ≡ true) × (passes session_book notpart_claim notpart_steps ≡ true)
unfolding passes passing asked by_one refuse_if record_at check_by scan record_finding form_finding order_row stated largest pieces_up_to same_bytes any_below by_claims claims_check claim_at by_runs shortest_clash entries entry_of fact_of tab clash any table entry storing turned parting marks marked step rounds containment apart meets notpart derived follows first facts_of picked admitted chain_ok all_ok concludes step_ok justified keeps premised cites named some rules.rule rules.table showing step_at cited_of citing marks_piece marks_some
steps-pass = (refl, refl)

pub session-why : SessionWhy
unfolding why_text
session-why = (
  pages-read.0 ∙ ap (λ x. why_text session_book part_claim x part_steps) answers-said.0 ∙ texts.0,
  pages-read.1 ∙ ap (λ x. why_text session_book notpart_claim x notpart_steps) answers-said.1 ∙ texts.1,
)

pub session-verified : SessionVerified
unfolding all_bytes
session-verified = (
  subst (Verified session_book) texts.0
      (answer-verifies session_book part_claim part_steps Follows (bytes-all part_claim refl) (bytes-all part_steps refl) answers-said.0 steps-pass.0),
  subst (Verified session_book) texts.1
      (answer-verifies session_book notpart_claim notpart_steps Denied (bytes-all notpart_claim refl) (bytes-all notpart_steps refl) answers-said.1 steps-pass.1),
)
