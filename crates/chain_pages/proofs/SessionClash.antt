-- The session book with a contradiction, by computation. Assumes nothing.
use Rattle.records.specs.Refused.{refused_at}
use Rattle.outcomes.specs.Accepted.{Outcome}
use Prim.Native.Nat.{ℕ}
use mathlib.Core.Path.{◌≡◌, refl, sym, ap, ap₂, ◌∙◌}
use mathlib.Core.Bool.{true}
use mathlib.Core.List.{List, [], ◌++◌}
use Rattle.lists.specs.Tab.{tab}
use Rattle.lists.specs.Any.{any, any_below}
use Rattle.lists.specs.First.{first}
use Rattle.rules.specs.Fact.{fact_of}
use Rattle.rules.specs.Follows.{storing, turned, parting, table, entry, step, rounds, containment, apart, meets, notpart, derived, follows, clash}
use Rattle.rules.specs.Entries.{facts_of, shortest_clash}
use Rattle.records.specs.Marked.{marks, marked}
use Rattle.records.specs.Record.{record_at}
use Rattle.records.specs.Refusal.{scan}
use Rattle.records.specs.Pieces.{stated, largest, pieces_up_to}
use Rattle.records.specs.Rows.{order_row, same_bytes, admitted}
use Rattle.records.specs.Check.{form_finding, record_finding, check_by, claim_at, claims_check}
use Rattle.records.specs.Facts.{entry_of, entries}
use Rattle.records.specs.declared.Refusal.TheVariants.{Contradiction}
use Rattle.outcomes.specs.Call.{by_runs, by_claims, by_book}
use Rattle.outcomes.specs.Fresh.{fresh_call}
use Rattle.chain_format.specs.Step.{step_at, showing}
use Rattle.chain_format.specs.Citing.{cited_of, marks_piece, marks_some}
use Rattle.chain_format.specs.Rule as rules
use Rattle.chain_format.specs.Justified.{some, named, cites, premised, keeps, justified, step_ok}
use Rattle.chain_format.specs.Chain.{all_ok, concludes, chain_ok}
use Rattle.clash.specs.Clash.{cited_at, cited_before, clash_ok, passing, passes}
use Rattle.pages.specs.Text.{ascii}
use Rattle.pages.specs.Decimal.{spell, decimal}
use Rattle.pages.specs.Entry as names
use Rattle.pages.specs.Lines as pages
use Rattle.text.specs.Runs.{blank, of_sort, run, behind}
use Rattle.text.specs.Word.{word, rest}
use Rattle.text.specs.Number.{is_digit, digits, value, number_from, number}
use Rattle.text.specs.Names as spoken
use Rattle.text.specs.Line.{with_number, lastly, secondly, kinded, line_of}
use Rattle.text.specs.Lines.{lines}
use Rattle.text.specs.Entry.{bytes_of}
use Rattle.text.specs.Text as read
use Rattle.text.specs.Either.{is_text, read_either}
use Rattle.text.specs.Place.{numbered, place_line, line_in}
use Rattle.text.specs.declared.Form.TheVariants.{Records}
use Rattle.sentences.specs.Words.{kind_name}
use Rattle.sentences.specs.Refusals as line
use Rattle.sentences.proofs.Readings.{of-read}
use Rattle.chain_pages.specs.StepLine.{count, step_line, step_lines}
use Rattle.chain_pages.specs.Clash.{clash_text, clash_page}
use Rattle.chain_pages.specs.SessionClash.{clash_source, clash_book, clash_steps, SessionClash}

source-read : read_either Records clash_source ≡ read.Entries clash_book
unfolding read_either is_text read.read_text read.read_lines read.lines_of read.mark_length read.marked lines line_of kinded secondly lastly with_number number number_from digits value is_digit word rest run behind of_sort blank spoken.kind_of spoken.choice_of spoken.place spoken.same spoken.lower bytes_of
source-read = refl

book-refused : fresh_call clash_book [] ≡ refused_at Contradiction 9
unfolding fresh_call by_book check_by scan record_finding form_finding order_row record_at stated largest pieces_up_to same_bytes any_below by_claims claims_check claim_at by_runs shortest_clash entries entry_of fact_of tab clash any table entry storing turned parting marks marked step rounds containment apart meets notpart derived follows first facts_of admitted
book-refused = refl

refusal-told : line.refused Contradiction 9 clash_source [] ≡ ascii "REFUSED 14 9 line 11 the records up to this one contradict each other\n"
unfolding line.refused line.refusal_line line.line_of line.sentence line_in place_line numbered is_text read.lines_of read.mark_length read.marked lines word run behind of_sort blank names.entry decimal spell is_digit
refusal-told = refl

steps-told : step_lines clash_steps 3 ≡ ascii "0 PART 5 4 RECORD 5\n" ++ ascii "1 APART 4 3 RECORD 6\n" ++ ascii "2 APART 5 3 RULE b FROM 0 1\n"
unfolding step_lines step_line step_at pages.lines kind_name names.entry decimal spell count
steps-told = refl

steps-pass : clash_ok clash_book 9 clash_steps ≡ true
unfolding clash_ok chain_ok all_ok concludes step_ok justified keeps premised cites named some any rules.rule rules.table showing step_at cited_before cited_at cited_of tab record_at pieces_up_to largest stated fact_of marks_piece marks_some
steps-pass = refl

all_pass : passes clash_book clash_steps ≡ true
unfolding passes passing
all_pass = ap (λ (o : Outcome). passing clash_book clash_steps o) book-refused ∙ steps-pass

pub session-clash : SessionClash
unfolding clash_page clash_text
session-clash = (
  sym (of-read 0 Records clash_source (λ (book : List ℕ). clash_text clash_source (fresh_call book []) clash_steps) clash_book source-read)
      ∙ ap (λ (o : Outcome). clash_text clash_source o clash_steps) book-refused
      ∙ ap₂ ◌++◌ refusal-told steps-told,
  all_pass,
)
