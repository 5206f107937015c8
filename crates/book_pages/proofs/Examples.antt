-- The pages of document 01's session book, by computation. Assumes nothing.
use mathlib.Core.Path.{refl}
use Rattle.lists.specs.Tab.{tab}
use Rattle.lists.specs.Any.{any, any_below}
use Rattle.lists.specs.First.{first}
use Rattle.lists.specs.Front.{front}
use Rattle.lists.specs.Numbers.{range, keep, find}
use Rattle.lists.specs.Passing.{passing}
use Rattle.lists.specs.Tally.{tally}
use Rattle.rules.specs.Fact.{fact_of}
use Rattle.rules.specs.Follows.{storing, turned, parting, table, entry, step, rounds, containment, apart, meets, notpart, derived, follows, clash}
use Rattle.rules.specs.Entries.{facts_of, shortest_clash}
use Rattle.rules.specs.Verdict.{judge, verdict}
use Rattle.records.specs.Marked.{marks, marked}
use Rattle.records.specs.Record.{record_at}
use Rattle.records.specs.Refusal.{scan}
use Rattle.records.specs.Pieces.{stated, largest, pieces_up_to}
use Rattle.records.specs.Rows.{admitted, order_row, same_bytes}
use Rattle.records.specs.Check.{form_finding, record_finding, check_by, claim_at, claims_check}
use Rattle.records.specs.Facts.{entry_of, entries}
use Rattle.records.specs.PartIn.{part_in}
use Rattle.records.specs.Kept.{picked}
use Rattle.records.specs.Claimed.{claimed, answers_to}
use Rattle.index.specs.Pairs.{joined, parts}
use Rattle.index.specs.Breadth.{breadth, order, parent}
use Rattle.index.specs.Tree.{hang, under, whole, visits}
use Rattle.index.specs.Index.{visits_of}
use Rattle.index.specs.Parts.{is_shadow, shadows}
use Rattle.groups.specs.Groups as groups
use Rattle.groups.specs.Index.{edges, book_visits}
use Rattle.outcomes.specs.Lent.{short_lent}
use Rattle.outcomes.specs.Call as call
use Rattle.outcomes.specs.Fresh.{fresh_call}
use Rattle.grids.specs.Gridded.{by_size, grid_outcome}
use Rattle.catalog.specs.Lent.{short_catalog}
use Rattle.catalog.specs.Call as catalog
use Rattle.text.specs.Runs.{blank, of_sort, run, behind}
use Rattle.text.specs.Word.{word, rest}
use Rattle.text.specs.Number.{is_digit, digits, value, number_from, number}
use Rattle.text.specs.Names.{lower, same, place, kind_of, choice_of}
use Rattle.text.specs.Line.{with_number, lastly, secondly, kinded, logged, line_of}
use Rattle.text.specs.Lines as texts
use Rattle.text.specs.Entry.{bytes_of}
use Rattle.text.specs.Text as read
use Rattle.text.specs.Either.{is_text, read_either}
use Rattle.text.specs.Place.{numbered, place_line, line_in}
use Rattle.text.specs.Shown.{kind_word, show_record, show_records}
use Rattle.pages.specs.Decimal.{spell, decimal}
use Rattle.pages.specs.Entry as names
use Rattle.pages.specs.Lines.{lines}
use Rattle.sentences.specs.Words.{kind_name, answer_name}
use Rattle.sentences.specs.Refusals as line
use Rattle.sentences.specs.Unread.{prefix, wording, reason_of, unread_line}
use Rattle.sentences.specs.Sources.{of_source}
use Rattle.sentences.specs.Arguments.{words_of, of_words}
use Rattle.report.specs.Session.{claim_line, claim_lines, counts_line}
use Rattle.report.specs.Page as page
use Rattle.book_pages.specs.AskText as ask
use Rattle.book_pages.specs.ListText as list
use Rattle.book_pages.specs.Sign.{sign_of, between, sign}
use Rattle.book_pages.specs.GridText as grid
use Rattle.book_pages.specs.ShowText as show
use Rattle.book_pages.specs.WordsText.{words_text}
use Rattle.book_pages.specs.Examples.{SessionPages, SessionAnswers}

pub session-pages : SessionPages
unfolding grid.grid_text grid.sheet_text grid.text_of grid.grid_lines grid.rows grid.row grid.signs grid.headings grid.heading grid.columns grid.digit grid.ones grid.tens sign between sign_of grid_outcome by_size fresh_call call.by_book call.by_claims call.by_runs claims_check claim_at check_by scan record_finding form_finding order_row stated largest pieces_up_to same_bytes any_below shortest_clash entries entry_of fact_of tab clash any table entry storing turned parting marks marked step rounds containment apart meets notpart derived follows first facts_of book_visits groups.groups groups.pair groups.number groups.lowest groups.first_of groups.same groups.lies tally visits_of edges joined part_in range keep find parts breadth order parent hang under whole visits shadows is_shadow record_at lines decimal spell of_source read_either is_text show.show_text show.shown_text show.text_of show_records show_record kind_word line.refused line.refusal_line line.line_of line.sentence names.entry line_in place_line numbered read.read_text read.read_lines read.lines_of read.mark_length read.marked texts.lines line_of logged kinded secondly lastly with_number number number_from digits value is_digit word rest run behind of_sort blank kind_of choice_of place same lower bytes_of prefix wording reason_of unread_line words_text of_words words_of admitted
session-pages = record { grid = refl; shown = refl; none = refl; repeated = refl; unread = refl; no-claim = refl; no_number = refl }

pub session-answers : SessionAnswers
unfolding ask.ask_words_text ask.session_text ask.text_of call.outcome call.left call.indexed front answers_to picked claimed verdict judge page.zeros short_lent counts_line claim_lines claim_line kind_name answer_name list.list_text list.catalog_text list.text_of list.zeros list.list_lines list.number_lines catalog.outcome catalog.refuse_if catalog.by_book catalog.by_asked catalog.by_index catalog.counts_of catalog.list_of passing short_catalog call.by_book call.by_claims call.by_runs claims_check claim_at check_by scan record_finding form_finding order_row stated largest pieces_up_to same_bytes any_below shortest_clash entries entry_of fact_of tab clash any table entry storing turned parting marks marked step rounds containment apart meets notpart derived follows first facts_of book_visits groups.groups groups.pair groups.number groups.lowest groups.first_of groups.same groups.lies tally visits_of edges joined part_in range keep find parts breadth order parent hang under whole visits shadows is_shadow record_at lines decimal spell of_source read_either is_text line.refused line.refusal_line line.line_of line.sentence names.entry line_in place_line numbered line_of logged kinded secondly lastly with_number number number_from digits value is_digit word rest run behind of_sort blank kind_of choice_of place same lower of_words words_of admitted
session-answers = record { asked = refl; inside = refl; apart = refl; touching = refl; no-piece = refl }
