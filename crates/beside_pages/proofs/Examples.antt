-- `compare` of document 01's session book, by computation. Assumes nothing.
use mathlib.Core.Path.{refl}
use Rattle.lists.specs.Tab.{tab}
use Rattle.lists.specs.Any.{any, any_below}
use Rattle.lists.specs.First.{first}
use Rattle.lists.specs.Front.{front}
use Rattle.rules.specs.Fact.{fact_of}
use Rattle.rules.specs.Follows.{storing, turned, parting, table, entry, step, rounds, containment, apart, meets, notpart, derived, follows, clash}
use Rattle.rules.specs.Verdict.{judge, verdict}
use Rattle.rules.specs.Entries.{facts_of, shortest_clash}
use Rattle.records.specs.Marked.{marks, marked}
use Rattle.records.specs.Record.{record_at}
use Rattle.records.specs.Refusal.{scan}
use Rattle.records.specs.Pieces.{stated, largest, pieces_up_to}
use Rattle.records.specs.Rows.{admitted, order_row, same_bytes}
use Rattle.records.specs.Check.{form_finding, record_finding, check_by, claim_at, claims_check}
use Rattle.records.specs.Facts.{entry_of, entries}
use Rattle.records.specs.Kept.{bytes_at, bytes_where, kept_up_to, picked}
use Rattle.records.specs.Claimed.{claimed}
use Rattle.outcomes.specs.Call as call
use Rattle.outcomes.specs.Fresh.{fresh_call}
use Rattle.compare.specs.Joint as joint
use Rattle.compare.specs.Agreement.{agreement, threes}
use Rattle.compare.specs.Answers as answers
use Rattle.compare.specs.Call as compare
use Rattle.text.specs.Runs.{blank, of_sort, run, behind}
use Rattle.text.specs.Word.{word, rest}
use Rattle.text.specs.Number.{is_digit, digits, value, number_from, number}
use Rattle.text.specs.Names.{lower, same, place, kind_of, choice_of}
use Rattle.text.specs.Line.{with_number, lastly, secondly, kinded, line_of}
use Rattle.text.specs.Lines as texts
use Rattle.text.specs.Entry.{bytes_of}
use Rattle.text.specs.Text as read
use Rattle.text.specs.Either.{is_text, read_either}
use Rattle.text.specs.Place.{numbered, place_line, line_in}
use Rattle.pages.specs.Decimal.{spell, decimal}
use Rattle.pages.specs.Entry as names
use Rattle.pages.specs.Lines.{lines}
use Rattle.sentences.specs.Words.{kind_name, answer_name, agreement_name}
use Rattle.sentences.specs.Refusals as line
use Rattle.sentences.specs.Unread.{prefix}
use Rattle.sentences.specs.Sources.{of_source}
use Rattle.beside_pages.specs.ComparisonText as comparison
use Rattle.beside_pages.specs.Examples.{SessionCompared}

pub session-compared : SessionCompared
unfolding comparison.comparison_text comparison.beside_text comparison.text_of comparison.refused_in comparison.together_line comparison.pair_lines comparison.pair_line compare.outcome compare.left compare.by_rows compare.by_book compare.by_claims fresh_call call.by_book call.by_claims call.by_runs claims_check claim_at check_by scan record_finding form_finding admitted order_row stated largest pieces_up_to same_bytes any_below shortest_clash entries entry_of fact_of tab clash any table entry storing turned parting marks marked step rounds containment apart meets notpart derived follows verdict judge first facts_of joint.same joint.has joint.joint_run joint.consistent bytes_at bytes_where kept_up_to picked claimed answers.answer_of answers.bytes_of agreement threes front record_at lines decimal spell kind_name answer_name agreement_name prefix names.entry of_source read_either is_text line.refused line.refusal_line line.line_of line.sentence line_in place_line numbered read.read_text read.read_lines read.lines_of read.mark_length read.marked texts.lines line_of kinded secondly lastly with_number number number_from digits value is_digit word rest run behind of_sort blank kind_of choice_of place same lower bytes_of
session-compared = record { itself = refl; other = refl; second-refused = refl }
