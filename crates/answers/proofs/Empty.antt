-- The empty book is the book with piece 0 alone: its outcome, its index and its answers, by computation. Assumes nothing.
use Rattle.std.specs.Prelude.{Err, Ok}
use Rattle.records.specs.Refused.{refused_at}
use Rattle.outcomes.specs.Accepted.{accepted_with}
use mathlib.Core.Path.{◌≡◌, refl}
use mathlib.Core.List.{[]}
use native.Mathlib.Omega.{arith}
use Rattle.lists.specs.Tab.{tab}
use Rattle.lists.specs.Any.{any, any_below}
use Rattle.lists.specs.First.{first}
use Rattle.rules.specs.Fact.{fact_of}
use Rattle.rules.specs.Follows.{storing, turned, parting, table, entry, step, rounds, containment, apart, meets, notpart, derived, follows, clash}
use Rattle.rules.specs.Verdict.{judge, verdict}
use Rattle.rules.specs.Entries.{facts_of, shortest_clash}
use Rattle.records.specs.Record.{record_at}
use Rattle.records.specs.Refusal.{refusal_number, scan}
use Rattle.records.specs.Pieces.{pieces_up_to, stated, largest}
use Rattle.records.specs.Check.{check_by, claim_at, claims_check}
use Rattle.records.specs.Facts.{entries}
use Rattle.records.specs.Kept.{picked}
use Rattle.records.specs.Marked.{marked}
use Rattle.records.specs.declared.Refusal.{Refusal}
use Rattle.records.specs.declared.Refusal.TheVariants.{ShortBuffer, BookLength, TooManyRecords, Kind, Origin, PieceNumber, Order, Repeat, ClaimsLength, TooManyClaims, ClaimFormat, ClaimPiece, Contradiction, ShortSteps, TooManyPieces, ShortCatalog, NotStanding, VoidForm, LogLength, ReplicatePiece}
use Rattle.records.proofs.Examples.{bytes}
use Rattle.lists.specs.Numbers.{range, keep, find}
use Rattle.index.specs.Pairs.{joined, parts}
use Rattle.index.specs.Breadth.{breadth, order, parent}
use Rattle.index.specs.Tree.{hang, under, whole, visits}
use Rattle.index.specs.Parts.{shape, parens, is_node, is_shadow, place, marks, shadows, shadow_list, place_list, value, packed}
use Rattle.index.specs.Index.{parentheses_of, visits_of}
use Rattle.groups.specs.Groups as groups
use Rattle.groups.specs.Index.{edges, book_parens, book_visits, book_places}
use Rattle.lists.specs.Tally.{tally}
use Rattle.records.specs.PartIn.{part_in}
use Rattle.parentheses.specs.Forest.{enc}
use Rattle.parentheses.specs.Padded.{padded}
use Rattle.records.specs.Claimed.{claimed, answers_to}
use Rattle.outcomes.specs.Call.{by_runs, by_claims, by_book, outcome, indexed, left}
use Rattle.outcomes.specs.Outcome.{number}
use Rattle.answers.specs.Empty.{EmptyOutcome, EmptyLeft, EmptyAnswers, NeverTwo}

by-runs : by_runs [] 1 ≡ accepted_with 1 1 0
unfolding by_runs book_visits edges groups.groups groups.pair groups.number groups.lowest groups.first_of groups.same groups.lies tally entries facts_of shortest_clash first clash any any_below tab table entry storing turned parting marked step rounds containment meets joined part_in visits_of whole under hang parts keep range parent order breadth find visits shadows
by-runs = refl

pub empty-outcome : EmptyOutcome
unfolding outcome by_book check_by scan pieces_up_to by_claims
empty-outcome cs l long fit = rw (long, outcome, fit) by-runs

pub empty_left : EmptyLeft
unfolding left indexed book_parens book_visits book_places edges groups.groups groups.pair groups.number groups.lowest groups.first_of groups.same groups.lies tally table entry rounds first entries tab facts_of any any_below storing joined part_in parentheses_of visits_of whole under hang parts keep range parent order breadth find shape enc parens visits is_node is_shadow place marks shadows shadow_list place_list value packed padded
empty_left cs l long fit = rw (empty-outcome cs l long fit) refl

pub empty-answers : EmptyAnswers
unfolding answers_to claimed picked record_at fact_of entries facts_of verdict judge follows any any_below tab table entry storing turned parting marked step rounds containment apart meets notpart derived
empty-answers = refl

-- a claim about another piece
pub empty-other : claims_check 1 (bytes 1 0 1 0) ≡ refused_at ClaimPiece 0
unfolding claims_check scan claim_at record_at stated largest
empty-other = refl

-- no outcome has number 2
other : (r : Refusal) → refusal_number r ≡ 2 → ⊥
other ShortBuffer e = omega arith
other BookLength e = omega arith
other TooManyRecords e = omega arith
other Kind e = omega arith
other Origin e = omega arith
other PieceNumber e = omega arith
other Order e = omega arith
other Repeat e = omega arith
other ClaimsLength e = omega arith
other TooManyClaims e = omega arith
other ClaimFormat e = omega arith
other ClaimPiece e = omega arith
other Contradiction e = omega arith
other ShortSteps e = omega arith
other TooManyPieces e = omega arith
other ShortCatalog e = omega arith
other NotStanding e = omega arith
other VoidForm e = omega arith
other LogLength e = omega arith
other ReplicatePiece e = omega arith

pub never-two : NeverTwo
never-two (Ok pieces) e = omega arith
never-two (Err r) e = other r.refusal e
