-- Document 01's session from its bytes to its lines, by computation. Assumes nothing.
use Prim.Native.Nat.{ℕ}
use mathlib.Core.Path.{◌≡◌, refl}
use mathlib.Core.List.{List, [], ◌∷◌, ◌++◌}
use Rattle.lists.specs.Tab.{tab}
use Rattle.lists.specs.Any.{any, any_below}
use Rattle.lists.specs.First.{first}
use Rattle.rules.specs.Fact.{fact_of}
use Rattle.rules.specs.Follows.{storing, turned, parting, table, entry, step, rounds, containment, apart, meets, notpart, derived, follows, clash}
use Rattle.rules.specs.Verdict.{judge, verdict}
use Rattle.rules.specs.Entries.{facts_of, shortest_clash}
use Rattle.records.specs.Marked.{marks, marked}
use Rattle.records.specs.Record.{record_at}
use Rattle.records.specs.Refusal.{scan}
use Rattle.records.specs.Pieces.{stated, largest, pieces_up_to}
use Rattle.records.specs.Rows.{order_row, same_bytes}
use Rattle.records.specs.Check.{form_finding, record_finding, check_by, claim_at, claims_check}
use Rattle.records.specs.Facts.{entry_of, entries}
use Rattle.lists.specs.Numbers.{range, keep, find}
use Rattle.index.specs.Pairs.{joined, parts}
use Rattle.records.specs.PartIn.{part_in}
use Rattle.index.specs.Breadth.{breadth, order, parent}
use Rattle.index.specs.Tree.{hang, under, whole, visits}
use Rattle.index.specs.Index.{visits_of}
use Rattle.groups.specs.Groups as groups
use Rattle.groups.specs.Index.{edges, book_visits}
use Rattle.lists.specs.Tally.{tally}
use Rattle.index.specs.Parts.{is_shadow, shadows}
use Rattle.lists.specs.Front.{front}
use Rattle.records.specs.Kept.{picked}
use Rattle.records.specs.Rows.{admitted}
use Rattle.outcomes.specs.Lent.{short_lent}
use Rattle.records.specs.Claimed.{claimed, answers_to}
use Rattle.outcomes.specs.Call.{by_runs, by_claims, by_book, outcome, indexed, left}
use Rattle.pages.specs.Text.{ascii}
use Rattle.pages.specs.Decimal.{spell, decimal}
use Rattle.pages.specs.Entry as table
use Rattle.pages.specs.Lines.{lines}
use Rattle.sentences.specs.Words.{kind_name, answer_name}
use Rattle.report.specs.Session.{claim_line, claim_lines, counts_line, session}
use Rattle.report.specs.Page.{zeros, printed}

-- a record or a claim of kind k on pieces below 256
abbrev six : ℕ → ℕ → ℕ → List ℕ
six k a b = k ∷ 0 ∷ a ∷ 0 ∷ b ∷ 0 ∷ []

abbrev book : List ℕ
book = six 1 1 0 ++ six 1 2 0 ++ six 1 3 1 ++ six 1 4 1 ++ six 1 4 2 ++ six 1 5 4 ++ six 2 3 4 ++ six 3 3 2 ++ six 4 2 1

abbrev claims : List ℕ
claims = six 1 5 2 ++ six 1 2 1 ++ six 1 3 2 ++ six 2 3 5 ++ six 2 1 2 ++ six 3 2 3 ++ six 4 2 4 ++ six 4 1 3 ++ six 4 0 1 ++ six 1 1 2

pub session-printed :
    printed book claims
    ≡ ascii "PIECES 6 NODES 7 SHADOWS 1\n"
    ++ ascii "0 PART 5 2 FOLLOWS\n"
    ++ ascii "1 PART 2 1 DENIED\n"
    ++ ascii "2 PART 3 2 OPEN\n"
    ++ ascii "3 APART 3 5 FOLLOWS\n"
    ++ ascii "4 APART 1 2 DENIED\n"
    ++ ascii "5 MEETS 2 3 FOLLOWS\n"
    ++ ascii "6 NOTPART 2 4 FOLLOWS\n"
    ++ ascii "7 NOTPART 1 3 FOLLOWS\n"
    ++ ascii "8 NOTPART 0 1 FOLLOWS\n"
    ++ ascii "9 PART 1 2 OPEN\n"
unfolding printed zeros session counts_line claim_lines claim_line record_at lines kind_name answer_name table.entry decimal spell outcome short_lent by_book check_by scan record_finding form_finding order_row stated largest pieces_up_to same_bytes any_below by_claims claims_check claim_at by_runs shortest_clash entries entry_of fact_of tab clash any table entry storing turned parting marks marked step rounds containment apart meets notpart derived follows first facts_of book_visits groups.groups groups.pair groups.number groups.lowest groups.first_of groups.same groups.lies tally visits_of edges joined part_in range keep find parts breadth order parent hang under whole visits shadows is_shadow left indexed front answers_to picked admitted verdict judge claimed
session-printed = refl
